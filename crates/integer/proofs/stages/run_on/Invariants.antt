-- What is left of the run, from the integrators as they are, is the whole run from those lent.
use Rattle.std.proofs.Common.{◌≡◌, drop, pos}
use Rattle.integer.specs.Stages.{ran}
use Rattle.integer.proofs.stages.run_on.Given as goal

abbrev pub invariant-loop-sample : goal.invariant-loop-sample
invariant-loop-sample l =
    ran l.stages l.integrators l.val (drop l.sample-index l.samples) ≡ ran l.stages l.initial.integrators (pos 0) l.samples
