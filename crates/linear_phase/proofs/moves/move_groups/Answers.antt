-- `linear_phase::moves::move_groups` meets its contract: a turn moves one group more (`group_next`).
use Rattle.std.proofs.Common.{List, ap, ◌∙◌, arith}
use lib.Ieee.{Float}
use Rattle.linear_phase.proofs.Shifting.{group_moved, group_next}
use Rattle.linear_phase.proofs.moves.move_groups.Goals as goal

pub loop-i-preserved : goal.loop-i-preserved
loop-i-preserved c =
    let l = c.loop-i in (
      omega (arith, l.auto.delay, c.loop-i-test.true),
      c.move_group.ensures ∙ ap (λ (w : List Float). group_moved w c.args.n l.i) l.invariant.1 ∙ group_next c.args.delay.now c.args.n l.i l.invariant.0,
    )
