-- The first j sums have their pair, and the others are as they were.
use Rattle.std.proofs.Common.{length, get_or}
use lib.Ieee.{nan, binary32, add, mul}
use Rattle.q15.proofs.Filling.{Filled}
use Rattle.linear_phase.specs.LinearPhase.{pair}
use Rattle.linear_phase.proofs.lanes.add_pairs.Given as goal

abbrev pub invariant-loop-j : goal.invariant-loop-j
invariant-loop-j l =
    let acc = l.initial.acc in
    Filled (λ i. add binary32 (get_or acc i nan) (mul binary32 (pair l.minus (get_or l.new i nan) (get_or l.old i nan)) l.tap)) acc (length acc) l.acc l.j
