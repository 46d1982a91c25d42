-- The first j sums have their centres, and the others are as they were.
use Rattle.std.proofs.Common.{length, get_or}
use lib.Ieee.{nan, binary32, add}
use Rattle.q15.proofs.Filling.{Filled}
use Rattle.linear_phase.proofs.lanes.add_centres.Given as goal

abbrev pub invariant-loop-j : goal.invariant-loop-j
invariant-loop-j l = let acc = l.initial.acc in Filled (λ i. add binary32 (get_or acc i nan) (get_or l.centres i nan)) acc (length acc) l.acc l.j
