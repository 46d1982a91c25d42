-- `feed_on` meets its contract: a turn of its loop is what `Turning` says of one.
use Rattle.std.proofs.Common.{◌≡◌, rules, pos, get_or, w32, to_z, of_z, ◌+◌}
use Rattle.line.proofs.Numbers.{counter_below}
use Rattle.line.proofs.Turning.{full, ended, took, both}
use Rattle.line.proofs.feed.feed_on.Goals as goal

pub at_once-count-requires : goal.at_once-count-requires
at_once-count-requires g c = counter_below _ c.loop-out.invariant.midway.good

pub loop-out-preserved : goal.loop-out-preserved
loop-out-preserved g c =
    let x = get_or c.args.samples.now (c.loop-out.taken + c.at_once-count.result) (pos 0) in
    let read : to_z w32 (of_z w32 x) ≡ x = search rules in
    let midway = took c.loop-out.invariant.midway c.resampler-setting.ensures c.write_due-due.ensures c.if-out-written.false c.requires.kind c.at_once-count.ensures.kind c.at_once-count.ensures.fits c.at_once-count.ensures.counter c.at_once-count.ensures.made c.if-samples-taken.false (rw read at c.sample_in.ensures.takes) c.in_default.is in
    record { same = search rules; midway = midway }

pub loop-out-preserved-in-Some : goal.loop-out-preserved-in-Some
loop-out-preserved-in-Some g c =
    let x = get_or c.args.samples.now (c.loop-out.taken + c.at_once-count.result) (pos 0) in
    let read : to_z w32 (of_z w32 x) ≡ x = search rules in
    let midway = both c.loop-out.invariant.midway c.resampler-setting.ensures c.write_due-due.ensures c.if-out-written.false c.requires.kind c.at_once-count.ensures.kind c.at_once-count.ensures.fits c.at_once-count.ensures.counter c.at_once-count.ensures.made c.if-samples-taken.false (rw read at c.sample_in.ensures.takes) c.in-Some.is in
    record { same = search rules; midway = midway }

pub returns-then-out-written-clause-ran : goal.returns-then-out-written-clause-ran
returns-then-out-written-clause-ran g c = full c.loop-out.invariant.midway c.resampler-setting.ensures c.write_due-due.ensures c.if-out-written.true

pub returns-then-samples-taken-clause-ran : goal.returns-then-samples-taken-clause-ran
returns-then-samples-taken-clause-ran g c = ended c.loop-out.invariant.midway c.resampler-setting.ensures c.write_due-due.ensures c.if-out-written.false c.requires.kind c.at_once-count.ensures.kind c.at_once-count.ensures.fits c.at_once-count.ensures.counter c.at_once-count.ensures.made c.if-samples-taken.true
