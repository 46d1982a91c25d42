-- `linear_phase::moves::move_group` meets its contract: sixteen places are read, and then put n places down.
use Rattle.linear_phase.proofs.Shifting.{group_put}
use Rattle.linear_phase.proofs.moves.move_group.Goals as goal

pub returns : goal.returns
returns c = group_put c.args.delay.now c.taken-y.result _ c.args.n c.args.to c.requires c.taken-y.ensures c.put_all.ensures
