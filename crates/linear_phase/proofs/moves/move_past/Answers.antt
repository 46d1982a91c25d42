-- `linear_phase::moves::move_past` meets its contract: where the samples are no fewer than the delay's places, the last of them are it (`many_last`).
use Rattle.std.proofs.Common.{◌∙◌}
use Rattle.linear_phase.proofs.Tapes.{many_last}
use Rattle.linear_phase.proofs.moves.move_past.Goals as goal

pub returns-then-long-n : goal.returns-then-long-n
returns-then-long-n c = c.copy_few.ensures ∙ many_last c.args.delay.now c.args.samples.now c.if-long-n.true
