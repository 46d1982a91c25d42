-- `fixed::fill_cut`: before turn i no more than i numbers were cut; and whatever names the numbers, the first i of them stand in front of the places, cut, and the count
-- is of those that were.
use Rattle.std.proofs.Common.{◌≡◌, ℕ, ℤ, ◌≤◌, ◌<◌, length}
use Rattle.q15.proofs.CutFilling.{CutFilled}
use Rattle.q15.proofs.fixed.fill_cut.Given as goal

abbrev pub invariant-loop-i : goal.invariant-loop-i
invariant-loop-i g l = record {
  few : l.cuts ≤ l.i;
  filled : (f : ℕ → ℤ) → ((i : ℕ) (z : ℤ) → i < length l.initial.places → goal.F-post g l.number i z → z ≡ f i) → CutFilled f l.initial.places (length l.initial.places) l.places l.i l.cuts;
}
