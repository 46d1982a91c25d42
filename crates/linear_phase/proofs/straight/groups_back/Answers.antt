-- `linear_phase::straight::groups_back` meets its contract: a turn makes a group more (`group_along`).
use Rattle.std.proofs.Common.{arith}
use Rattle.linear_phase.proofs.Backward.{group_along, all_along}
use Rattle.linear_phase.proofs.straight.groups_back.Goals as goal

pub loop-end-preserved : goal.loop-end-preserved
loop-end-preserved c =
    let a = c.args in
    let l = c.loop-end in
    group_along a.fir.kind.odd a.fir.kind.antisymmetric a.fir.taps.now a.fir.long a.src.now a.span.now l.span l.end l.invariant (omega (arith, c.loop-end-test.true)) _ _
    c.group_at-y.ensures c.put_all.ensures

pub returns : goal.returns
returns c =
    let a = c.args in
    let l = c.loop-end in
    all_along a.fir.kind.odd a.fir.kind.antisymmetric a.fir.taps.now a.fir.long a.src.now a.span.now l.span l.end l.invariant _ c.singles.ensures
