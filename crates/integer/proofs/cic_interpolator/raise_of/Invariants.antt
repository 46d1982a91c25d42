-- At each turn the span and the stages are as the samples taken leave them, with the next sample entered.
use Rattle.integer.proofs.Raising.{Entered}
use Rattle.integer.proofs.cic_interpolator.raise_of.Given as goal

abbrev pub invariant-loop-taken : goal.invariant-loop-taken
invariant-loop-taken g l = Entered g.row.N l.r l.fn.combs l.fn.integrators l.src l.fn.dst l.combs l.sums l.dst l.taken l.written
