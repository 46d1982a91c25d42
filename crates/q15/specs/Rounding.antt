-- 02, §8: "for the decimating Q15 FIR, before cutting: the exact sum of products less 32768 times the result is at least 0 and at most 32767 times the tap count".
use Rattle.std.specs.Prelude.{List, ℕ, ◌+◌, ◌*◌, ℤ, pos, ◌-ℤ◌, ◌*ℤ◌, length, ◌≤ℤ◌}
use Rattle.q15.specs.Fixed.{at}
use Rattle.q15.specs.FirSum.{sum}
use Rattle.q15.specs.PolyphaseDecimate.{window_sum}

-- "the exact sum of products": T of the samples from `from` on
abbrev pub exact_sum : List ℤ → ℕ → List ℤ → ℕ → ℤ
exact_sum c T s from = sum T (λ t. at s (from + t) *ℤ at c t)

-- "less 32768 times the result", which is the sum that `filtered` cuts: what rounding each product down by itself takes, in 32768ths
abbrev pub rounded_off : List ℤ → ℕ → List ℤ → ℕ → ℤ
rounded_off c T s from = exact_sum c T s from -ℤ pos 32768 *ℤ window_sum c T s from

-- "at least 0 and at most 32767 times the tap count", of every output i of a whole list by factor D
abbrev pub Rounded : List ℤ → ℕ → List ℤ → Type 0
Rounded c D s =
    (i : ℕ) → (pos 0 ≤ℤ rounded_off c (length c) s (i * D)) × (rounded_off c (length c) s (i * D) ≤ℤ pos (32767 * length c))
