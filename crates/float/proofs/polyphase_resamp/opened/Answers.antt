-- `opened` meets its contract: a refused opening is told as zeros (`refused_by`), and a taken one leaves the setting as it was, so that the state's own stands (`taken_by`).
use Rattle.std.proofs.Common.{sym, ap, ◌∙◌}
use Rattle.std.proofs.lemmas.Result.{err_from_is_err_and}
use Rattle.refusal.specs.Outcome.{Opened}
use Rattle.refusal.specs.Table.{number_of}
use Rattle.refusal.proofs.Table.{number_positive}
use Rattle.float.specs.PolyphaseOpening.{fresh}
use Rattle.float.specs.PolyphaseResamp.{together}
use Rattle.float.specs.declared.polyphase_resamp.PolyphaseResampF32.{PolyphaseResampF32}
use Rattle.float.proofs.PolyphaseCalls.{refused_by, taken_by, opening_answer}
use Rattle.float.proofs.polyphase_resamp.opened.Goals as goal

pub returns-in_err-open-clause-answer : goal.returns-in_err-open-clause-answer
returns-in_err-open-clause-answer c =
    let p = err_from_is_err_and c.from_residual.result c.from_residual.ensures.1 in
    let a = c.args.state in
    let q = c.in_err-open.field-0.0 in
    rw (p.1, p.2)
    (refused_by a.straight a.phases a.taps c.args.prototype.now a.step (number_of q) (number_positive q) (ap (λ (o : Opened PolyphaseResampF32). o.number) (rw c.setting-setting.ensures at c.in_err-open.ensures.answer)))

pub returns : goal.returns
unfolding fresh
returns c =
    let a = c.args.state in
    let told = rw c.setting-setting.ensures at c.in_ok-open.ensures.answer in
    let opens = taken_by a.straight a.phases a.taps c.args.prototype.now a.step (ap (λ (o : Opened PolyphaseResampF32). o.number) told) in
    let made = opening_answer (ap {B = Opened PolyphaseResampF32}
    (λ (o : Opened PolyphaseResampF32). record { number = 0; state = together a.straight a.phases a.taps o.state.mu a.step o.state.delay o.state.prototype })
    (told ∙ opens.whole) ∙ sym opens.whole) in
    record { answer = made.0; whole = made.1 }
