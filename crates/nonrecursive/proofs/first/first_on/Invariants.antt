-- After each turn one pair more has handed its value on.
use Rattle.std.proofs.Common.{◌*◌, map, w32}
use Rattle.theory.specs.Wrap.{wrap}
use Rattle.nonrecursive.proofs.OnTape.{Handing}
use Rattle.nonrecursive.proofs.first.first_on.Given as goal

abbrev pub invariant-loop-i : goal.invariant-loop-i
invariant-loop-i l = Handing l.stages l.initial.neighbours (map (wrap w32) l.src) l.neighbours l.dst (2 * l.i) l.i
