-- What is written, and then what is left of the run, is the whole run.
use Rattle.std.proofs.Common.{length}
use Rattle.integer.proofs.Filling.{Left}
use Rattle.integer.proofs.cic_interpolator.fill_on.Given as goal

abbrev pub invariant-loop-place : goal.invariant-loop-place
invariant-loop-place l = Left l.stages l.initial.integrators l.input (length l.initial.places) l.integrators l.val l.places l.place-index
