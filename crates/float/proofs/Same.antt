-- Two f32 samples count as equal by 02's §14 exactly where they are equal as data, which is what contracts say: an f32 is read back from its bits.
use Rattle.std.proofs.Common.{◌≡◌, Bool, true, false, ◌&&◌, ◌||◌, T, eqb, sym, refl, ap, ◌∙◌, eq-eqb, eqb-true}
use lib.Ieee.{Float, nan, inf, fin, binary32, is_nan, fits, to_bits, of_bits}
use lib.Ieee.Bits.{of_bits-to_bits}
use Rattle.float.specs.Same.{same}

bits_same : (x y : Float) → T (fits binary32 x) → T (fits binary32 y) → eqb (to_bits binary32 x) (to_bits binary32 y) ≡ true → x ≡ y
bits_same x y f g e = sym (of_bits-to_bits binary32 x f) ∙ ap (of_bits binary32) (eqb-true (to_bits binary32 x) (to_bits binary32 y) e) ∙ of_bits-to_bits binary32 y g

-- `same` of specs/Same is equality as data: docs/DECISIONS.md on the equality of floats and row 184 of docs/TRACE.md rest on this and on `equal_same`
pub same_equal : (x y : Float) → T (fits binary32 x) → T (fits binary32 y) → same x y ≡ true → x ≡ y
unfolding same is_nan
same_equal nan nan f g h = refl
same_equal nan (inf s) f g h = bits_same nan (inf s) f g h
same_equal nan (fin s m e) f g h = bits_same nan (fin s m e) f g h
same_equal (inf s) y f g h = bits_same (inf s) y f g h
same_equal (fin s m e) y f g h = bits_same (fin s m e) y f g h

-- the other way of that claim
pub equal_same : (x y : Float) → x ≡ y → same x y ≡ true
unfolding same
equal_same x y e = go (is_nan x && is_nan y)
  where
    go : (b : Bool) → (b || eqb (to_bits binary32 x) (to_bits binary32 y)) ≡ true
    go true = refl
    go false = eq-eqb (to_bits binary32 x) (to_bits binary32 y) (ap (to_bits binary32) e)
