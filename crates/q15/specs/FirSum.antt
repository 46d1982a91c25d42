-- 01, sections 3 and 7: the sums over t of floored products, once for the decimator and for every phase of the interpolator.
use Rattle.std.specs.Prelude.{List, ℕ, zero, suc, ◌+◌, ℤ, pos, ◌+ℤ◌}
use Rattle.q15.specs.Fixed.{floored_product, at}

-- f(0) + .. + f(n−1)
abbrev pub sum : ℕ → (ℕ → ℤ) → ℤ
sum zero f = pos 0
sum (suc n) f = sum n f +ℤ f n

-- "the sum over t of floor(s[..+t] × c[..] / 32768)": n products of the samples from `from` on, tap t of the sum standing at c[tap t]
unfoldable pub fir_sum : (ℕ → ℕ) → List ℤ → ℕ → List ℤ → ℕ → ℤ
fir_sum tap c n s from = sum n (λ t. floored_product (at s (from + t)) (at c (tap t)))
