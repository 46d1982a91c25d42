-- Each turn has its law in `Going`: an output that is due, a value that comes and is not written, and the two ends.
use Rattle.std.proofs.Common.{◌≡◌, ◌+◌, arith, subst}
use Rattle.plan.specs.inner.Ticking.{ticking}
use Rattle.plan.proofs.Going.{Going, going_due, going_value, done_full, done_rest}
use Rattle.plan.proofs.counting.Clock.feed_paced.Goals.{else-loop-written-test, then-loop-written-test+else-mu+then-rest-left}
use Rattle.plan.proofs.counting.Clock.feed_paced.Goals as goal

pub loop-written-preserved-then-mu : goal.loop-written-preserved-then-mu
unfolding ticking
loop-written-preserved-then-mu c =
    let i = c.loop-written.invariant in
    record { going = going_due _ _ _ _ _ _ i.going c.if-mu.true c.loop-written-test.true; left = i.left; period = i.period }

pub loop-written-preserved : goal.loop-written-preserved
unfolding ticking
loop-written-preserved c =
    let i = c.loop-written.invariant in
    let comes = going_value _ _ _ _ _ _ i.going c.if-mu.false c.loop-written-test.true i.left c.if-rest-left.false in
    let none : c.loop-written.written + 0 ≡ c.loop-written.written = omega arith in
    record { going = subst (Going _ _ _ _ _) none comes; left = i.period; period = i.period }

pub returns : goal.returns
unfolding ticking
returns c =
    let i = c.loop-written.invariant in
    elim c.loop-written-test.branch [
      | else-loop-written-test w ↦ rw (w.left-is, w.taken-is) (done_full _ _ _ _ _ _ i.going (i.left, i.period) w.loop-written-test.false)
      | then-loop-written-test+else-mu+then-rest-left w ↦ rw (w.left-is, w.taken-is) (done_rest _ _ _ _ _ _ i.going w.if-mu.false w.loop-written-test.true (i.left, i.period) w.if-rest-left.true)
    ]
