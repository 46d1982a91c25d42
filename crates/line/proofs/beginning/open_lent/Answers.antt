-- `open_lent` meets its contract: zeros where it is refused, and else the fresh line of the taps and the prototype that stand in front of their arrays.
use Rattle.std.proofs.Common.{sym, ap, ◌∙◌}
use Rattle.refusal.specs.Outcome.{Opened}
use Rattle.refusal.specs.Table.{number_of}
use Rattle.refusal.proofs.Table.{number_positive}
use Rattle.q15.specs.FirDecimator.{fresh_in_line}
use Rattle.line.specs.Openings.{zeros, fresh, resampler_fresh}
use Rattle.line.specs.Outputs.{Opening}
use Rattle.line.specs.declared.gauge_line.Line.{Line}
use Rattle.line.proofs.Starting.{few_opened, opened_own, opened_zeros}
use Rattle.line.proofs.beginning.open_lent.Goals as goal

pub put_taps-requires : goal.put_taps-requires
put_taps-requires c =
    let a = c.args in
    few_opened (record { settings = a.settings; taps = a.taps.now; prototype = a.prototype.now }) (sym c.in-Ok.ensures)

pub begin-requires-in-Ok : goal.begin-requires-in-Ok
begin-requires-in-Ok c =
    let a = c.args in
    few_opened (record { settings = a.settings; taps = a.taps.now; prototype = a.prototype.now }) (sym c.in-Ok.ensures)

pub returns-in-Err-clause-answer : goal.returns-in-Err-clause-answer
unfolding zeros fresh fresh_in_line resampler_fresh
returns-in-Err-clause-answer c =
    let a = c.args in
    let o : Opening = record { settings = a.settings; taps = a.taps.now; prototype = a.prototype.now } in
    let q = c.in-Err.row in
    ap {B = Opened Line} (λ (l : Line). record { number = number_of q; state = l }) c.begin.ensures.fresh ∙ opened_zeros o (number_of q) (number_positive q) (sym c.in-Err.ensures)

pub returns-in-Ok-clause-answer : goal.returns-in-Ok-clause-answer
returns-in-Ok-clause-answer c =
    let a = c.args in
    let o : Opening = record { settings = a.settings; taps = a.taps.now; prototype = a.prototype.now } in
    ap {B = Opened Line} (λ (l : Line). record { number = 0; state = l }) c.begin-in-Ok.ensures.fresh
    ∙ opened_own o c.put_taps.new.own c.put_prototype.new.own (sym c.in-Ok.ensures) c.put_taps.ensures c.put_prototype.ensures
