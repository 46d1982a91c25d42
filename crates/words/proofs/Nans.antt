-- NaN and its bits: a pattern above infinity's reads as the one NaN.
use mathlib.Core.Path.{◌≡◌, refl, sym, ap, ◌∙◌, subst}
use mathlib.Core.Bool.{Bool, true, not, true≢false}
use Prim.Native.Nat.{ℕ, ◌%◌, ◌≤◌, ◌<◌}
use borrow.Author.Tests.{eq-eqb, lt-ltb}
use lib.Dec.{T, eqb}
use Rattle.words.specs.Fields.{is_float}
use Rattle.std.proofs.lemmas.Float.{not_nan_f32_bits}
use lib.Ieee.{Float, nan, inf, fin, binary32, is_nan, of_bits, to_bits}
use lib.Ieee.Bits.{nan_bits_is, nan_bits_above, to_bits-of_bits}

nan_case : (x : Float) → is_nan x ≡ true → x ≡ nan
unfolding is_nan
nan_case nan e = refl
nan_case (inf s) e = absurd (true≢false (sym e))
nan_case (fin s m k) e = absurd (true≢false (sym e))

pub nan_bits_of : (x : Float) → is_nan x ≡ true → 2143289344 ≡ to_bits binary32 x
unfolding to_bits
nan_bits_of x e = sym (ap (to_bits binary32) (nan_case x e))

pub reads_nan : (n : ℕ) → 2139095040 < n % 2147483648 → of_bits binary32 n ≡ nan
reads_nan n h = nan_case (of_bits binary32 n) (sym (nan_bits_is binary32 n) ∙ nan_bits_above binary32 n ∙ lt-ltb 2139095040 (n % 2147483648) h)

pub bits_back : (n : ℕ) → n < 4294967296 → n % 2147483648 ≤ 2139095040 → to_bits binary32 (of_bits binary32 n) ≡ n
bits_back n f h = to_bits-of_bits binary32 n f (subst (λ (b : Bool). T (not b)) (nan_bits_is binary32 n) (not_nan_f32_bits n h))

-- whether a word is one that is written for a float
pub word_plain : (n : ℕ) → n < 4294967296 → n % 2147483648 ≤ 2139095040 → true ≡ is_float n
word_plain n f h = sym (eq-eqb _ _ (bits_back n f h))

pub word_above : (n : ℕ) → 2139095040 < n % 2147483648 → eqb 2143289344 n ≡ is_float n
unfolding to_bits
word_above n h = ap (λ (v : Float). eqb (to_bits binary32 v) n) (sym (reads_nan n h))
