-- Before turn i the first i places are the new ones.
use Rattle.std.proofs.Common.{◌≡◌, ◌++◌, take, drop}
use Rattle.integer.proofs.stages.write_back.Given as goal

abbrev pub invariant-loop-i : goal.invariant-loop-i
invariant-loop-i l = l.state ≡ take l.i l.fn.held ++ drop l.i l.initial.state
