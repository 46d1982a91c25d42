-- Pairs go by their own neighbours alone, so these may stand by themselves meanwhile.
use Rattle.std.proofs.Common.{◌*◌, take, ◌∙◌}
use Rattle.nonrecursive.proofs.StageByStage.{alone_state, alone_vals}
use Rattle.nonrecursive.proofs.block.halve_of.Goals as goal

pub returns : goal.returns
returns g c =
    let s = c.args.neighbours.now in
    let w = take (c.args.count * 2) c.args.tape.now in
    let halved = rw c.copy_from_slice.ensures.after at c.halve_on.ensures in (
      rw (c.copy_from_slice-2.ensures.after, halved.0) (alone_state g.row.N w s c.requires.0),
      halved.1 ∙ alone_vals g.row.N w s c.requires.0,
      halved.2,
    )
