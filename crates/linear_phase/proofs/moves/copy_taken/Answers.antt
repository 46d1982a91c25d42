-- `linear_phase::moves::copy_taken` meets its contract: the group has as many samples as the span has places.
use Rattle.std.proofs.Common.{length, ap, ◌∙◌, length-take-le}
use Rattle.linear_phase.proofs.Putting.{put_exact}
use Rattle.linear_phase.proofs.moves.copy_taken.Goals as goal

pub returns : goal.returns
returns g c =
    let y = c.taken-y in
    put_exact g.row.N y.result c.args.span.now _ (ap length y.ensures ∙ length-take-le g.row.N c.args.src.now c.requires.0) c.requires.1 c.put_group.ensures
    ∙ y.ensures
