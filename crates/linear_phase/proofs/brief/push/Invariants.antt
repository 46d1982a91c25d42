-- i places are left, and the sample that goes into the last of them is the one that stood behind it (`Pushed`).
use Rattle.linear_phase.proofs.Pushing.{Pushed}
use Rattle.linear_phase.proofs.brief.push.Given as goal

abbrev pub invariant-loop-i : goal.invariant-loop-i
invariant-loop-i l = Pushed l.initial.delay l.x l.delay l.later l.i
