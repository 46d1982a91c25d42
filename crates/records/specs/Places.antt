-- Where a comparison stands, beside where it would stand if words stood in front of the record.
use Rattle.std.specs.Prelude.{ℕ, ◌≡◌, ◌≤◌, ◌<◌, ◌+◌, List, length, drop, Option, None, Some, Bool}
use Rattle.records.specs.Comparison.{lost, after, after_if, word_at}

-- a place behind n words, and the same in the whole
pub record Shifts (n here whole : ℕ) : Type 0 where
  pub loses : here ≡ lost → whole ≡ lost
  pub moves : here < lost → whole ≡ n + here

-- a comparison that looks at no word in front of its place, and never comes back from where it is lost
pub record Moves (place : List ℕ → ℕ → ℕ) : Type 0 where
  pub shifts : (w : List ℕ) (n k : ℕ) → n ≤ length w → length w < lost → k < lost → Shifts n (place (drop n w) k) (place w (n + k))
  pub keeps : (w : List ℕ) → length w < lost → place w lost ≡ lost
  pub ends : (w : List ℕ) (k : ℕ) → length w < lost → k ≤ lost → place w k ≤ lost

-- after what may have been made: how many there are, 0 or 1, and the value or 0
abbrev pub after_option : {A : Type 0} → (A → ℕ → Bool) → Option A → List ℕ → ℕ → ℕ
after_option recorded None w at = after w (after w at 0) 0
after_option recorded (Some x) w at = after_if (recorded x (word_at w (after w at 1))) w (after w at 1)
