-- `linear_phase::brief::push` meets its contract: place by place from the end on, each gets what stood one place on (`next_pushed`).
use Rattle.linear_phase.proofs.Pushing.{next_pushed, all_pushed}
use Rattle.linear_phase.proofs.brief.push.Goals as goal

pub loop-i-preserved : goal.loop-i-preserved
loop-i-preserved c = let l = c.loop-i in next_pushed c.args.delay.now c.args.x l.delay l.later l.i c.loop-i-test.true l.auto.i l.invariant

pub returns : goal.returns
returns c = let l = c.loop-i in all_pushed c.args.delay.now c.args.x l.delay l.later l.i c.loop-i-test.false c.requires l.invariant
