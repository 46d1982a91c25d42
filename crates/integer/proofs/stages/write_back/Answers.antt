-- A turn writes one place more; past the end of both arrays there is no more to write.
use Rattle.std.proofs.Common.{◌≡◌, ◌<◌, min, length, get_or, pos, arith, w32, to_z, of_z, rules}
use Rattle.integer.proofs.Writing.{one_more, ended}
use Rattle.integer.proofs.stages.write_back.Goals as goal

pub loop-i-preserved : goal.loop-i-preserved
loop-i-preserved c =
    let l = c.loop-i in
    let read : to_z w32 (of_z w32 (get_or c.args.held l.i (pos 0))) ≡ get_or c.args.held l.i (pos 0) = search rules in
    let there : l.i < length c.args.held = search rules in
    let place : l.i < length c.args.state.now = search rules in
    rw (read, l.invariant) (one_more c.args.held c.args.state.now (pos 0) l.i there place)

pub returns : goal.returns
returns c =
    let l = c.loop-i in
    let long : length c.args.held ≡ 8 = search rules in
    let places : length c.args.state.now ≡ 8 = search rules in
    let e : l.i ≡ min c.args.stages 8 = omega (arith, c.min-i-end.ensures) in
    rw l.invariant (ended c.args.held c.args.state.now 8 l.i c.args.stages long places e)
