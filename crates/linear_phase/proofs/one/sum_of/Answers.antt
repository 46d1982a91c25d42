-- `linear_phase::one::sum_of` meets its contract: the first pair has the newest sample, and a turn adds the next.
use Rattle.std.proofs.Common.{not, nat_eq, arith}
use Rattle.linear_phase.proofs.Newest.{first_pair, next_pair}
use Rattle.linear_phase.proofs.one.sum_of.Goals as goal

pub loop-t-init : goal.loop-t-init
loop-t-init g c = let a = c.args in first_pair a.delay.now a.x (not (nat_eq g.row.MINUS 0)) a.taps.now _ (omega (arith, c.requires)) c.pair.ensures

pub loop-t-preserved : goal.loop-t-preserved
loop-t-preserved g c =
    let l = c.loop-t in
    let a = c.args in
    next_pair a.delay.now a.x (not (nat_eq g.row.MINUS 0)) a.taps.now l.t _ _ (omega (arith, l.auto)) (omega (arith, c.loop-t-test.true, c.requires)) l.invariant c.pair-in-loop-t.ensures
