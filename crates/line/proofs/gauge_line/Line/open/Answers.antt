-- `Line::open` meets its contract where it is refused: its number is that of the opening where the line lies, and it hands over the line of zeros.
use Rattle.std.proofs.Common.{sym, ap}
use Rattle.std.proofs.lemmas.Result.{err_from_is_err_and}
use Rattle.refusal.specs.Outcome.{Opened}
use Rattle.refusal.specs.Table.{number_of}
use Rattle.refusal.proofs.Table.{number_positive}
use Rattle.line.specs.Openings.{opened}
use Rattle.line.specs.declared.gauge_line.Line.{Line}
use Rattle.line.proofs.Starting.{opened_zeros}
use Rattle.line.proofs.gauge_line.Line.open.Goals as goal

pub returns-in_err-open_lent : goal.returns-in_err-open_lent
unfolding opened
returns-in_err-open_lent c =
    let p = err_from_is_err_and c.from_residual.result c.from_residual.ensures.1 in
    let q = c.in_err-open_lent.field-0.0 in
    let number = ap (λ (o : Opened Line). o.number) c.in_err-open_lent.ensures.answer in
    rw (p.1, p.2) (record { answer = opened_zeros _ (number_of q) (number_positive q) (sym number) })
