-- `run` meets its contract: the outputs that are due carry `Between` on (`due_between`), and so does a sample.
use Rattle.std.proofs.Common.{◌≡◌, ◌+◌, ◌-◌, ◌<◌, ◌≤◌, length, take, replicate, refl, sym, arith, length-take-le, ltb-true, ltb-false}
use Rattle.theory.proofs.FeedRules.{between_start, after_input, Ended, ended_full, ended_dry}
use Rattle.float.specs.F32.{zero32}
use Rattle.float.specs.inner.Running.{told_due}
use Rattle.float.specs.PolyphaseResamp.{consumed, resampler, state_of}
use Rattle.float.proofs.DueOutputs.{due_grows}
use Rattle.float.proofs.PolyphaseCalls.{finished, due_between}
use Rattle.float.proofs.PolyphaseOutput.{outputs_alike}
use Rattle.float.proofs.Tape.{ends_in, wound, wound_start, wound_in, wound_at, wound_front}
use Rattle.float.proofs.interpolation.Reading.run.Goals.{else-loop-written-test, then-loop-written-test+else-at+in_default}
use Rattle.float.proofs.interpolation.Reading.run.Goals as goal

pub loop-written-init : goal.loop-written-init
loop-written-init c =
    let a = c.args in
    let q = a.self.setting in
    let few = a.self.taps_inside.1 in
    let long : length (take q.phase_taps a.delay.now) ≡ q.phase_taps = length-take-le _ _ (omega (arith, few, c.told-delay)) in
    let fits : length (take q.phase_taps a.delay.now) ≤ 64 = omega (arith, long, few) in
    let start : wound q.phase_taps c.put_at_end.new.span (64 - q.phase_taps) a.delay.now ≡ a.delay.now =
    rw (c.put_at_end.ensures, ends_in (take q.phase_taps a.delay.now) (replicate 64 zero32) fits, long) (wound_start q.phase_taps a.delay.now (replicate 64 zero32) (omega arith)) in
    record {
      between = rw start (between_start resampler (state_of q a.mu.now a.delay.now a.self.prototype.now) a.src.now a.dst.now);
      whole = c.put_at_end.auto.span;
      on_tape = omega (arith, few);
    }

-- at least one was due
pub loop-written-smaller-then-at : goal.loop-written-smaller-then-at
loop-written-smaller-then-at c =
    let q = c.args.self.setting in
    let l = c.loop-written in
    let due = due_grows q.straight q.phases q.phase_taps q.step _ c.args.self.prototype.now l.at l.written l.dst (told_due c.write_due-due.result c.write_due-due.new.dst) c.write_due-due.ensures c.loop-written-test.true c.if-at.true in
    omega (arith, due, c.loop-written-test.true, c.loop-written.auto.dst)

pub loop-written-preserved-then-at : goal.loop-written-preserved-then-at
loop-written-preserved-then-at c =
    let a = c.args in
    let q = a.self.setting in
    let l = c.loop-written in
    let d = wound q.phase_taps l.tape l.newest a.delay.now in
    let some : 0 < q.phases = omega (arith, a.self.phases_inside) in
    let made = due_between q.straight q.phases q.phase_taps q.step _ d a.self.prototype.now (state_of q a.mu.now a.delay.now a.self.prototype.now) a.src.now a.dst.now l.taken
    (λ mu. outputs_alike q.phases q.phase_taps a.self.prototype.now a.self.prototype.now _ _ some (λ i u. refl) (λ t u. wound_at q.phase_taps a.delay.now l.tape l.newest (64 - l.newest) t (omega (arith, l.invariant)) (omega (arith, l.invariant)) u) q.straight mu)
    l.at l.written l.dst l.invariant.between (told_due c.write_due-due.result c.write_due-due.new.dst) c.write_due-due.ensures in
    record { between = made.0; whole = l.invariant.whole; on_tape = l.invariant.on_tape }

pub loop-written-preserved : goal.loop-written-preserved
unfolding resampler consumed
loop-written-preserved c =
    let a = c.args in
    let q = a.self.setting in
    let l = c.loop-written in
    let moved = wound_in q.phase_taps a.delay.now l.tape c.take_in-newest.new.tape l.newest c.take_in-newest.result _ a.self.taps_inside.1 (omega (arith, l.invariant.whole, l.invariant.on_tape)) c.take_in-newest.ensures.1 in
    record {
      between = rw (moved, c.in-Some.ensures.lookup.1) (after_input resampler _ _ _ _ _ _ _ l.invariant.between c.in-Some.field-0.now c.if-at.false refl c.loop-written-test.true (ltb-true _ _ (sym c.in-Some.ensures.lookup.0)));
      whole = c.take_in-newest.array_long;
      on_tape = c.take_in-newest.ensures.0;
    }

-- both ways out of the loop
pub returns : goal.returns
unfolding resampler
returns c =
    let a = c.args in
    let q = a.self.setting in
    let l = c.loop-written in
    let ended : Ended resampler _ _ _ _ _ _ _ l.invariant.between =
    elim c.loop-written-test.branch [
      | else-loop-written-test w ↦ ended_full resampler _ _ _ _ _ _ _ l.invariant.between w.loop-written-test.false
      | then-loop-written-test+else-at+in_default w ↦ ended_dry resampler _ _ _ _ _ _ _ l.invariant.between w.if-at.false (ltb-false _ _ (sym w.in_default.ensures.lookup.0))
    ] in
    let whole : l.newest + q.phase_taps - l.newest ≡ q.phase_taps = omega arith in
    rw (c.copy_from_slice.ensures.after, wound_front q.phase_taps a.delay.now l.tape l.newest (l.newest + q.phase_taps - l.newest) whole)
    (finished q a.mu.now a.self.prototype.now a.delay.now a.src.now a.dst.now _ l.at _ _ l.invariant.between ended)
