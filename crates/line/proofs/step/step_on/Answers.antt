-- `step_on` meets its contract: an output that is due is written, or a step ends with the samples, or is what `sample_in` does with the next one.
use Rattle.std.specs.Prelude.{None, Some}
use Rattle.std.proofs.Common.{◌≡◌, true, refl, sym, ◌∙◌, rules, w32, to_z, of_z}
use Rattle.float.specs.PolyphaseResamp.{in_line, is_on, output_of, passed}
use Rattle.line.specs.Line.{line}
use Rattle.line.specs.inner.Together.{due_at}
use Rattle.line.proofs.OneStep.{wrote_due, took_sample, none_left}
use Rattle.line.proofs.step.step_on.Goals as goal

pub returns-then-due-clause-steps : goal.returns-then-due-clause-steps
unfolding in_line is_on output_of passed due_at
returns-then-due-clause-steps c =
    let due : due_at c.args.own.fixed c.args.clock.now.mu ≡ true = sym c.due.ensures ∙ c.if-due.true in
    let written = rw (c.requires due) at (rw c.resampler-setting.ensures at c.interpolate-y.ensures) in
    wrote_due line _ c.if-not-place.false c.args.sample _ _ due written refl

pub returns-in_default-clause-steps : goal.returns-in_default-clause-steps
unfolding in_line is_on due_at
returns-in_default-clause-steps c = none_left line _ c.if-not-place.false _ c.in_default.is (sym c.due.ensures ∙ c.if-due.false)

pub returns-in-None-clause-steps : goal.returns-in-None-clause-steps
unfolding in_line is_on due_at
returns-in-None-clause-steps c =
    let read : to_z w32 (of_z w32 c.in-Some.x) ≡ c.in-Some.x = search rules in
    let taken = rw read at c.sample_in-made.ensures.takes in
    took_sample line _ c.if-not-place.false _ c.in-Some.x None _ c.in-Some.is (sym c.due.ensures ∙ c.if-due.false) (sym c.in-None.is ∙ taken.0) taken.1

pub returns-in-Some-made-clause-steps : goal.returns-in-Some-made-clause-steps
unfolding in_line is_on due_at
returns-in-Some-made-clause-steps c =
    let read : to_z w32 (of_z w32 c.in-Some.x) ≡ c.in-Some.x = search rules in
    let taken = rw read at c.sample_in-made.ensures.takes in
    took_sample line _ c.if-not-place.false _ c.in-Some.x (Some c.in-Some-made.y) _ c.in-Some.is (sym c.due.ensures ∙ c.if-due.false) (sym c.in-Some-made.is ∙ taken.0) taken.1
