-- `step_lent` meets its contract: it refuses where the line of its numbers and arrays is not valid, and else does what `step_on` does.
use Rattle.std.specs.Prelude.{◌≡◌, Bool, true, false, ℤ, Float, Option}
use Rattle.std.proofs.Common.{refl, ap, drop, arith}
use Rattle.std.proofs.lemmas.Grind.{common_steps}
use Rattle.std.proofs.lemmas.Result.{err_from_is_err_and}
use Rattle.theory.specs.Feeds as F
use Rattle.refusal.specs.Outcome.{Outcome}
use Rattle.float.specs.PolyphaseResamp.{in_line, is_on}
use Rattle.line.specs.Openings.{valid}
use Rattle.line.specs.Line.{line, step_outcome}
use Rattle.line.specs.Lent.{line_in}
use Rattle.line.specs.inner.Together.{due_at}
use Rattle.line.specs.declared.gauge_line.Line.{Line}
use Rattle.line.proofs.Numbers.{tested, due_limits}
use Rattle.line.proofs.lent.step_lent.Goals as goal

abbrev told : F.Stepped Line Float → Outcome (F.Event Float) Line
told e = record { number = 0; value = e.event; state = e.line }

refused : (l : Line) (place : Bool) (x : Option ℤ) → valid l ≡ false → record { number = 15; value = F.stopped; state = l } ≡ step_outcome l place x
unfolding step_outcome
refused l place x v = rw v

stepped : (l : Line) (place : Bool) (x : Option ℤ) (e : F.Stepped Line Float) → valid l ≡ true → e ≡ F.step line place l x → told e ≡ step_outcome l place x
unfolding step_outcome
stepped l place x e v is = rw v (ap told is)

pub returns-in_err-own-clause-answer : goal.returns-in_err-own-clause-answer
returns-in_err-own-clause-answer c =
    let p = err_from_is_err_and c.from_residual.result c.from_residual.ensures.1 in
    rw (p.1, p.2, c.in_err-own.ensures.number) (refused _ _ _ (tested (line_in c.args.n.now c.args.lent.now) c.in_err-own.ensures.valid refl))

pub step_on-step-requires : goal.step_on-step-requires
unfolding in_line is_on due_at
step_on-step-requires c =
    let l : Line = line_in c.args.n.now c.args.lent.now in
    rw c.in_ok-own.ensures.fixed (due_limits l (tested l c.in_ok-own.ensures.valid refl))

pub returns-clause-answer : goal.returns-clause-answer
returns-clause-answer c =
    let v = tested (line_in c.args.n.now c.args.lent.now) c.in_ok-own.ensures.valid refl in
    let next : c.copied-next.result ≡ F.head_of (drop c.args.at c.args.samples.now) = grind (arith, common_steps) in
    stepped _ _ _ _ v (rw (c.in_ok-own.ensures.fixed, next) at c.step_on-step.ensures.steps)
