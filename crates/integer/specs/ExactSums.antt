-- 02, §8: "if the gain bits g are at most 31 and all samples lie in −2^(31−g) to 2^(31−g)−1, each output of a freshly opened CIC decimator is the exact N-fold sum
-- with no modulus". "The hydrographer reads the scaled sum as an average": so the scaled one is the floor of the exact sum.
use Rattle.std.specs.Prelude.{◌≡◌, ℕ, ◌+◌, ◌-◌, ◌*◌, ◌/◌, ◌^◌, ◌<◌, ◌≤◌, Bool, cond, List, length, ℤ, pos, neg_ℤ, ◌≤ℤ◌, nat_le}
use Rattle.theory.specs.Floor.{floor_div}
use Rattle.theory.specs.Lists.{listed}
use Rattle.refusal.specs.Outcome.{Answer}
use Rattle.integer.specs.Gain.{gain_bits, most_bits}
use Rattle.integer.specs.MovingSums.{signal_of, moving_sum, fold}
use Rattle.integer.specs.declared.exact_range.Ends.{Ends}

-- "the exact N-fold sum with no modulus" of output k, which is made at sample (k+1)r−1
abbrev pub exact_sum : ℕ → ℕ → List ℤ → ℕ → ℤ
exact_sum N r w k = fold N (moving_sum r) (signal_of w) ((k + 1) * r - 1)

unfoldable pub exact_sums : ℕ → ℕ → List ℤ → List ℤ
exact_sums N r w = listed (length w / r) (exact_sum N r w)

-- and scaled, "floor(sum / 2^g)"
unfoldable pub exact_scaled_sums : ℕ → ℕ → List ℤ → List ℤ
exact_scaled_sums N r w = listed (length w / r) (λ k. floor_div (exact_sum N r w k) (2 ^ gain_bits N r))

-- "−2^(31−g) to 2^(31−g)−1"
abbrev pub least_exact : ℕ → ℤ
least_exact g = neg_ℤ (pos (2 ^ (31 - g)))

abbrev pub greatest_exact : ℕ → ℤ
greatest_exact g = pos (2 ^ (31 - g) - 1)

-- "all samples lie in" a range
abbrev pub AllWithin : ℤ → ℤ → List ℤ → Type 0
AllWithin least greatest w = (t : ℕ) → t < length w → (least ≤ℤ signal_of w t) × (signal_of w t ≤ℤ greatest)

-- what a decimator of N stages and factor r keeps, which makes `made w` and `scaled w` of the samples w: no modulus shows while they lie in the range
pub record ExactWithin (least greatest : ℤ) (N r : ℕ) (made scaled : List ℤ → List ℤ) : Type 0 where
  pub sums_exact : (w : List ℤ) → AllWithin least greatest w → made w ≡ exact_sums N r w
  pub scaled_exact : (w : List ℤ) → AllWithin least greatest w → scaled w ≡ exact_scaled_sums N r w

-- the range of the gain bits g = gain_bits N r, "if .. g are at most 31"
abbrev pub ExactSums : ℕ → ℕ → (List ℤ → List ℤ) → (List ℤ → List ℤ) → Type 0
ExactSums N r made scaled =
    gain_bits N r ≤ most_bits → ExactWithin (least_exact (gain_bits N r)) (greatest_exact (gain_bits N r)) N r made scaled

-- the ends of no range
abbrev pub no_ends : Ends
no_ends = record { least = pos 0; greatest = pos 0 }

abbrev pub refused_range : ℕ → Answer Ends
refused_range n = record { number = n; value = no_ends }

-- `exact_range` of N stages and factor r on a state that is valid or not: 15, then 3, "gain bits over 31", as for a scaled sample
unfoldable pub exact_range : Bool → ℕ → ℕ → Answer Ends
exact_range valid N r =
    cond valid
    (cond (nat_le (gain_bits N r) most_bits)
    (record { number = 0; value = record { least = least_exact (gain_bits N r); greatest = greatest_exact (gain_bits N r) } })
    (refused_range 3))
    (refused_range 15)
