-- 02, §11: how far an output of a decimating cascade reaches back, in input samples, and that nothing before or after that counts.
use Rattle.std.specs.Prelude.{◌≡◌, cond, List, ℕ, zero, suc, ◌+◌, ◌-◌, ◌*◌, ◌^◌, ◌≤◌, ◌<◌, ltb, length, get_or, Float}
use Rattle.std.specs.Float.{nan}
use Rattle.refusal.specs.Outcome.{Answer}
use Rattle.half_band.specs.Equal.{Equal}
use Rattle.half_band.specs.Limits.{most_depth}
use Rattle.half_band.specs.HbfTaps.{Table, stage_taps}

-- "the sum over stage i of (4M−2) × 2^i", for the n stages from stage k on
abbrev pub spanned : (ℕ → List Float) → ℕ → ℕ → ℕ
spanned taps k zero = 0
spanned taps k (suc n) = spanned taps k n + (4 * length (taps (k + n)) - 2) * 2 ^ n

-- "1 plus the sum": the reach of the first d stages
abbrev pub reach_of : (ℕ → List Float) → ℕ → ℕ
reach_of taps d = 1 + spanned taps 0 d

-- the reach of a depth; 11: "a depth over 5 is refused"
unfoldable pub reach_at : Table → ℕ → Answer ℕ
reach_at t depth = cond (ltb most_depth depth) (record { number = 11; value = 0 }) (record { number = 0; value = reach_of (stage_taps t) depth })

-- in whichever sense E samples are equal
module _ (E : Float → Float → Type 0) where
  -- v and w agree on the `count` samples ending at sample p; those before the start are zero in both
  abbrev pub AgreeBy : List Float → List Float → ℕ → ℕ → Type 0
  AgreeBy v w count p = (i : ℕ) → i ≤ p → p < i + count → E (get_or v i nan) (get_or w i nan)

  -- "two inputs that agree on the reach samples ending at sample j × 2^d .. give an equal output j", where both are long enough to complete output j; "the
  -- samples after it that complete the output don't matter": `run` makes one output of each 2^d samples
  abbrev pub ReachesBy : ℕ → ℕ → (List Float → List Float) → Type 0
  ReachesBy reach d run =
      (v w : List Float) (j : ℕ) → (j + 1) * 2 ^ d ≤ length v → (j + 1) * 2 ^ d ≤ length w → AgreeBy v w reach (j * 2 ^ d)
      → E (get_or (run v) j nan) (get_or (run w) j nan)

-- in both: neither follows from the other
pub record Reaches (reach d : ℕ) (run : List Float → List Float) : Type 0 where
  -- 01's: "IEEE 754 compares them equal or both are NaN", so that zeros of either sign agree
  pub equal : ReachesBy Equal reach d run
  -- as data: bits, all NaNs being one
  pub same : ReachesBy (λ x y. x ≡ y) reach d run
