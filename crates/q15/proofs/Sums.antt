-- A running sum of floored products, once for every loop that adds them: so many are summed, each from -32767 to 32768, so that the sum, or the sum
-- negated, fits its accumulator.
use mathlib.Core.Path.{◌≡◌, refl, sym, ap, ◌∙◌}
use mathlib.Core.List.{List}
use Prim.Native.Nat.{ℕ, zero, suc, ◌+◌, ◌*◌, ◌^◌, ◌≤◌, ◌<◌}
use native.Mathlib.Nat.{mul-le-mul}
use native.Mathlib.Numerals.{add-one}
use native.Mathlib.Omega.{arith}
use lib.Dec.{lit<}
use lib.IntN.{ℤ, pos, negsuc, ◌+ℤ◌, ◌-ℤ◌, ◌*ℤ◌, neg_ℤ}
use lib.Pow.{pow_pos}
use mir.Syntax.{Width, w16}
use mir.Val.{SFits, hbits}
use Rattle.theory.proofs.Integers.{up, dn, ints, fits_of, fits_is, add_is, sub_is_ℤ, neg_is, mul_within, floor}
use Rattle.q15.specs.Fixed.{floored_product, at}
use Rattle.q15.specs.FirSum.{sum, fir_sum}

-- the size of a number from its two sides
pub both : (B : ℕ) (z : ℤ) → (up z ≤ B + dn z) × (dn z ≤ B + up z) → (up z ≤ B) × (dn z ≤ B)
both B (pos n) h = (omega arith, omega arith)
both B (negsuc n) h = (omega arith, omega arith)

-- the lowest product of two 16-bit numbers is -32768 by 32767
low : (a b : ℤ) → (up a ≤ 32767) × (dn a ≤ 32768) → (up b ≤ 32767) × (dn b ≤ 32768) → dn (a *ℤ b) ≤ 32768 * 32767
low (pos a) (pos b) f g = omega arith
low (pos a) (negsuc b) f g = omega (arith, neg_is (pos (a * suc b)), mul-le-mul {n₂ = 32767} {m₂ = 32768} f.0 g.1)
low (negsuc a) (pos b) f g = omega (arith, neg_is (pos (suc a * b)), mul-le-mul {n₂ = 32768} {m₂ = 32767} f.1 g.0)
low (negsuc a) (negsuc b) f g = omega arith

-- what a product and its floor can reach
module _ (a b : ℤ) (f : SFits w16 a) (g : SFits w16 b) where
  pub product_within : (up (a *ℤ b) ≤ 2 ^ 30) × (dn (a *ℤ b) ≤ 2 ^ 30)
  product_within = mul_within 32768 32768 a b (omega (arith, fits_is a f)) (omega (arith, fits_is b g))

  pub floor_within : (up (floored_product a b) ≤ 32768 + dn (floored_product a b)) × (dn (floored_product a b) ≤ 32767 + up (floored_product a b))
  unfolding floored_product
  floor_within =
      omega (arith, product_within, low a b (omega (arith, fits_is a f)) (omega (arith, fits_is b g)), floor (a *ℤ b) 32768 (lit< tt))

-- equal summands, equal sums
pub sum_ext : (n : ℕ) (f g : ℕ → ℤ) → ((t : ℕ) → t < n → f t ≡ g t) → sum n f ≡ sum n g
sum_ext zero f g h = refl
sum_ext (suc n) f g h =
    ap (λ (z : ℤ). z +ℤ f n) (sum_ext n f g (λ t l. h t (omega arith))) ∙ ap (λ (z : ℤ). sum n g +ℤ z) (h n (omega arith))

-- a sum of products follows from the samples and the taps that it is made of
pub fir_sum_ext :
    (tap : ℕ → ℕ) (c e : List ℤ) (n : ℕ) (s u : List ℤ) (i j : ℕ) → ((t : ℕ) → t < n → at c (tap t) ≡ at e (tap t)) → ((t : ℕ) → t < n → at s (i + t) ≡ at u (j + t))
    → fir_sum tap c n s i ≡ fir_sum tap e n u j
unfolding fir_sum
fir_sum_ext tap c e n s u i j g h =
    sum_ext n (λ t. floored_product (at s (i + t)) (at c (tap t))) (λ t. floored_product (at u (j + t)) (at e (tap t)))
    (λ t l. ap (λ (z : ℤ). floored_product z (at c (tap t))) (h t l) ∙ ap (floored_product (at u (j + t))) (g t l))

-- of the samples from `from` on it is the sum that begins there
pub fir_sum_at :
    (tap : ℕ → ℕ) (c : List ℤ) (n : ℕ) (s u : List ℤ) (from : ℕ) → ((t : ℕ) → t < n → at u t ≡ at s (from + t)) → fir_sum tap c n u 0 ≡ fir_sum tap c n s from
fir_sum_at tap c n s u from h =
    fir_sum_ext tap c c n u s 0 from (λ t l. refl) (λ t l. let e : 0 + t ≡ t = omega arith in ap (at u) e ∙ h t l)

module _ (f : ℕ → ℤ) where
  -- z is the sum of the first t
  pub record Summed (z : ℤ) (t : ℕ) : Type 0 where
    pub is : z ≡ sum t f
    pub high : up z ≤ 32768 * t + dn z
    pub low : dn z ≤ 32767 * t + up z

  pub one_more : (z p : ℤ) (t : ℕ) → p ≡ f t → (up p ≤ 32768 + dn p) × (dn p ≤ 32767 + up p) → Summed z t → Summed (z +ℤ p) (t + 1)
  one_more z p t i q h =
      let e = add_is z p in
      record {
        is = ap (λ (x : ℤ). x +ℤ p) h.is ∙ ap (λ (x : ℤ). sum t f +ℤ x) i ∙ ap (λ (m : ℕ). sum m f) (sym (add-one t));
        high = omega (arith, h.high, h.low);
        low = omega (arith, h.high, h.low);
      }

  -- an accumulator of w bits that holds so many
  pub sum_fits : (w : Width) (z : ℤ) (t : ℕ) → 32768 * t < 2 ^ hbits w → Summed z t → SFits w z
  sum_fits w z t l h = fits_of z (omega (arith, h.high, h.low))

  -- negated, it holds as many as reach its end
  pub negated_fits : (w : Width) (z : ℤ) (t : ℕ) → 32768 * t ≤ 2 ^ hbits w → Summed (neg_ℤ z) t → SFits w z
  negated_fits w z t l h = fits_of z (omega (arith, h.high, h.low, neg_is z, pow_pos (hbits w)))

-- one less of what is negated is one more
pub negated_more : (z p : ℤ) → neg_ℤ (z -ℤ p) ≡ neg_ℤ z +ℤ p
negated_more z p = omega (ints, neg_is (z -ℤ p), sub_is_ℤ z p, add_is (neg_ℤ z) p, neg_is z)

pub from_zero : (z : ℤ) → pos 0 -ℤ z ≡ neg_ℤ z
from_zero z = omega (ints, sub_is_ℤ (pos 0) z, neg_is z)

-- a factor by a number of this size
pub times_fits : (w : Width) (B l : ℕ) (z : ℤ) → 4096 * B < 2 ^ hbits w → l ≤ 4096 → (up z ≤ B + dn z) × (dn z ≤ B + up z) → SFits w (pos l *ℤ z)
times_fits w B l z s f h =
    let m = mul_within 4096 B (pos l) z (f, omega arith) (both B z h) in
    fits_of (pos l *ℤ z) (omega (arith, m))
