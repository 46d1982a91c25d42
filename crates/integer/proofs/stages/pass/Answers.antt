-- A turn is one stage more, and the stages in use are a row in front of the others.
use Rattle.std.proofs.Common.{◌≡◌, get_or, pos, arith, to_z-of_z, w32, to_z, of_z, rules}
use Rattle.integer.proofs.Row.{one_more, all_used}
use Rattle.integer.proofs.stages.pass.Goals as goal

pub loop-state-preserved : goal.loop-state-preserved
loop-state-preserved g c =
    let l = c.loop-state in
    let read : to_z w32 (of_z w32 (get_or l.front l.state-index (pos 0))) ≡ get_or l.front l.state-index (pos 0) = search rules in
    let kept : to_z w32 (of_z w32 c.pass-kept.result.0) ≡ c.pass-kept.result.0 = search rules in
    let handed_on : to_z w32 (of_z w32 c.pass-kept.result.1) ≡ c.pass-kept.result.1 = search rules in
    rw (kept, handed_on, c.pass-kept.ensures.0, c.pass-kept.ensures.1, read)
    (one_more g.S.Stage.keep g.S.Stage.out (pos 0) _ _ _ _ c.loop-state-test.true l.invariant)

pub returns : goal.returns
returns g c =
    rw (to_z-of_z c.ranges.input) at
    (all_used g.S.Stage.keep g.S.Stage.out _ _ _ _ _ _ c.min-used.ensures (omega arith) c.loop-state.invariant)
