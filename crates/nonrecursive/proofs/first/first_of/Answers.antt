-- Pairs go by their own neighbours alone, so these may stand by themselves meanwhile.
use Rattle.std.proofs.Common.{map, w32, ◌∙◌}
use Rattle.theory.specs.Wrap.{wrap}
use Rattle.nonrecursive.proofs.StageByStage.{alone_state, alone_vals}
use Rattle.nonrecursive.proofs.first.first_of.Goals as goal

pub returns : goal.returns
returns g c =
    let s = c.args.neighbours.now in
    let w = map (wrap w32) c.args.src.now in
    let halved = rw c.copy_from_slice.ensures.after at c.first_on.ensures in (
      rw (c.copy_from_slice-2.ensures.after, halved.0) (alone_state g.row.N w s c.requires.0),
      halved.1 ∙ alone_vals g.row.N w s c.requires.0,
    )
