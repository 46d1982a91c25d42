-- The outputs put so far stand in front of the span.
use Rattle.std.proofs.Common.{length, get_or}
use lib.Ieee.{nan}
use Rattle.q15.proofs.Filling.{Filled}
use Rattle.linear_phase.proofs.lanes.put_group.Given as goal

abbrev pub invariant-loop-j : goal.invariant-loop-j
invariant-loop-j l = Filled (λ i. get_or l.y i nan) l.initial.span (length l.y) l.span l.j
