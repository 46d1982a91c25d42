-- `linear_phase::moves::put_both` meets its contract: the second group goes over what is too much of the first (`put_ends`).
use Rattle.std.proofs.Common.{length, refl, arith}
use Rattle.linear_phase.proofs.Putting.{put_ends}
use Rattle.linear_phase.proofs.moves.put_both.Goals as goal

pub returns : goal.returns
returns c =
    let a = c.args in
    put_ends (length a.z.now) (length a.span.now) a.span.now a.y.now a.z.now _ _ c.requires.0 refl refl c.requires.1 (omega (arith, c.requires.0, c.requires.2)) c.put_group.ensures c.put_group-2.ensures
