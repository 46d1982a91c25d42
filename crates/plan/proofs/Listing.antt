-- A plan's result list, filled call by call: what stands in front and then the counts of the calls to come are the counts of all.
use mathlib.Core.Path.{◌≡◌}
use mathlib.Core.List.{List, ◌++◌, map}
use Prim.Native.Nat.{ℕ}
use lib.ListN.{length, take, drop}
use Rattle.refusal.specs.declared.Moved.{Moved}
use Rattle.plan.specs.inner.Ticking.{count_feeds}
use Rattle.plan.specs.declared.counting.Clock.{Clock}

module _ (get : Moved → ℕ) (c₀ : Clock) (pieces spans : List ℕ) where
  pub record Listing (a : List ℕ) (c : Clock) (i : ℕ) : Type 0 where
    pub same : length a ≡ length pieces
    pub ahead : map get (count_feeds c₀ pieces spans) ≡ take i a ++ map get (count_feeds c (drop i pieces) (drop i spans))
