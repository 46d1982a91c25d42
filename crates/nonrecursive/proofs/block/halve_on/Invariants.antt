-- After each turn one pair more has handed its value on.
use Rattle.std.proofs.Common.{◌*◌}
use Rattle.nonrecursive.proofs.OnTape.{Halving}
use Rattle.nonrecursive.proofs.block.halve_on.Given as goal

abbrev pub invariant-loop-i : goal.invariant-loop-i
invariant-loop-i l = Halving l.stages l.count l.initial.neighbours l.initial.tape l.neighbours l.tape (l.i * 2) l.i
