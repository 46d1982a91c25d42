-- After each turn the halvings that are left give of the tape what all were to give.
use Rattle.nonrecursive.proofs.TapeSteps.{Thinning}
use Rattle.nonrecursive.proofs.block.thin_tape.Given as goal

abbrev pub invariant-loop-left : goal.invariant-loop-left
invariant-loop-left l = Thinning l.stages l.r l.count l.initial.neighbours l.initial.tape l.neighbours l.tape l.left l.from

abbrev pub decreases-loop-left : goal.decreases-loop-left
decreases-loop-left l = l.left
