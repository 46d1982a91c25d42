-- `feed_batches` meets its contract: a turn of its loop is what `BatchTurning` says of one.
use Rattle.std.proofs.Common.{◌≤◌, arith, refl, rules}
use Rattle.line.proofs.Emitting.{emptied}
use Rattle.line.proofs.Batching.{to_begun}
use Rattle.line.proofs.BatchTurning.{some_taken, after_batch_turn}
use Rattle.line.proofs.batches.feed_batches.Goals as goal

pub overflow_sub-out : goal.overflow_sub-out
overflow_sub-out c = let m = (emptied c.loop-f.invariant.midway c.resampler-setting.ensures c.write_due-due.ensures).mid in omega (arith, m.some_written, m.same)

pub loop-f-smaller : goal.loop-f-smaller
loop-f-smaller c =
    let some : 1 ≤ c.sums_for-count.result = omega arith in
    let taken = some_taken c.loop-f.invariant.midway c.resampler-setting.ensures c.write_due-due.ensures (c.worth_a_batch.ensures c.loop-f-test.true) some c.sums_for-count.ensures.within (c.sums_for-count.ensures.leaves _ _ _ _ _ _ _) c.take_batch-on.ensures.within.0 (c.take_batch-on.ensures.batched c.args.own.scales) in
    omega (arith, taken.0, taken.1)

pub loop-f-preserved : goal.loop-f-preserved
loop-f-preserved c =
    let some : 1 ≤ c.sums_for-count.result = omega arith in
    let midway = after_batch_turn c.loop-f.invariant.midway c.resampler-setting.ensures c.write_due-due.ensures (c.worth_a_batch.ensures c.loop-f-test.true) some c.sums_for-count.ensures.within (c.sums_for-count.ensures.leaves _ _ _ _ _ _ _) c.take_batch-on.ensures.within.0 (c.take_batch-on.ensures.batched c.args.own.scales) _ refl refl in
    record { same = search (rules, c.loop-f.invariant.same, c.take_batch-on.ensures.same); midway = midway }

pub returns-after-loop-f-clause-begun : goal.returns-after-loop-f-clause-begun
returns-after-loop-f-clause-begun c = to_begun _ _ _ _ _ _ _ c.loop-f.invariant.midway

pub returns-then-count-eq0-clause-begun : goal.returns-then-count-eq0-clause-begun
returns-then-count-eq0-clause-begun c = to_begun _ _ _ _ _ _ _ (emptied c.loop-f.invariant.midway c.resampler-setting.ensures c.write_due-due.ensures).mid
