-- What follows of any answer, follows of this one: the sheet's, with zeros where it is refused.
use Rattle.std.proofs.Common.{ap, ◌∙◌, rules}
use Rattle.refusal.specs.Outcome.{Opened}
use Rattle.refusal.specs.Table.{number_of}
use Rattle.line.specs.declared.gauge_line.Line.{Line}
use Rattle.taking_up.proofs.Histories.{taken_twice}
use Rattle.taking_up.proofs.taking.take_up_lent.Goals as goal

pub returns-in-Err : goal.returns-in-Err
returns-in-Err c =
    let t = taken_twice c.args.bytes.now _ (ap {B = Opened Line} (λ (l : Line). record { number = number_of c.in-Err.row; state = l }) c.clear.ensures.zeros ∙ c.in-Err.ensures.answer) in
    record { same = search rules; answer = t.0; refused = c.clear.ensures.zeros; back = t.1.0; parked = t.1.1.0; earlier = t.1.1.1 }

pub returns-in-Ok : goal.returns-in-Ok
returns-in-Ok c =
    let t = taken_twice c.args.bytes.now _ c.in-Ok.ensures.answer in
    record { same = search rules; answer = t.0; refused = tt; back = t.1.0; parked = t.1.1.0; earlier = t.1.1.1 }
