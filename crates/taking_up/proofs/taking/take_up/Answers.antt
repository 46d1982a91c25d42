-- What follows of any answer, follows of this one: where the sheet is refused the line is zeros.
use Rattle.std.proofs.Common.{sym, ap, ◌∙◌}
use Rattle.std.proofs.lemmas.Result.{err_from_is_err_and}
use Rattle.refusal.specs.Outcome.{Opened}
use Rattle.refusal.specs.Table.{number_of}
use Rattle.line.specs.declared.gauge_line.Line.{Line}
use Rattle.taking_up.proofs.Histories.{taken_twice}
use Rattle.taking_up.proofs.taking.take_up.Goals as goal

pub returns-in_err-take_up_lent : goal.returns-in_err-take_up_lent
returns-in_err-take_up_lent c =
    let p = err_from_is_err_and c.from_residual.result c.from_residual.ensures.1 in
    let told = c.in_err-take_up_lent.ensures in
    let t = taken_twice c.args.bytes.now _ (ap {B = Opened Line} (λ (l : Line). record { number = number_of c.in_err-take_up_lent.field-0.0; state = l }) (sym told.refused) ∙ told.answer) in
    rw (p.1, p.2) (record { answer = t.0; back = t.1.0; parked = t.1.1.0; earlier = t.1.1.1 })
