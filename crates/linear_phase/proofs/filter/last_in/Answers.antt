-- `linear_phase::filter::last_in` meets its contract: the last samples are a part of the tape, or of the samples.
use Rattle.float.proofs.Laid.{put_last}
use Rattle.linear_phase.proofs.Tapes.{few_last, many_last}
use Rattle.linear_phase.proofs.filter.last_in.Goals as goal

pub returns-then-n-long : goal.returns-then-n-long
returns-then-n-long c =
    let d = c.args.delay.now in
    let v = c.args.samples.now in
    let p = c.requires in
    put_last d v _ _ (few_last c.args.tape.now d v c.if-n-long.true p.room p.on_tape) c.put_at_end.ensures

pub returns : goal.returns
returns c =
    let d = c.args.delay.now in
    let v = c.args.samples.now in
    put_last d v _ _ (many_last d v c.if-n-long.false) c.put_at_end-2.ensures
