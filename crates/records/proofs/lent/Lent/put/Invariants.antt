-- The places passed have the elements.
use Rattle.std.proofs.Common.{◌≡◌, ℕ, ◌<◌, slice_index_or}
use Rattle.records.specs.Comparison.{lent_word}
use Rattle.records.proofs.lent.Lent.put.Given as goal

abbrev pub invariant-loop-i : goal.invariant-loop-i
invariant-loop-i g l =
    (j : ℕ) (d : g.row.T.Denot) → j < l.i → slice_index_or l.places j d ≡ g.T.Element.meant (lent_word l.self.pattern l.self.stride l.self.listed.now j)
