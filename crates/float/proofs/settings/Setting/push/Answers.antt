-- `push` meets its contract: what is due after the sample is what a feed without samples makes.
use Rattle.float.specs.PolyphaseOpening.{valid}
use Rattle.float.specs.inner.Running.{told_due}
use Rattle.float.specs.PolyphaseResamp.{state_of}
use Rattle.float.proofs.PolyphaseRange.{valid_in_limits}
use Rattle.float.proofs.PolyphaseCalls.{push_ran, emitted_ran}
use Rattle.float.proofs.settings.Setting.push.Goals as goal

pub returns : goal.returns
unfolding valid
returns c =
    let a = c.args in
    let v = c.in_ok-state_answer.ensures.valid in
    let limits = valid_in_limits (state_of a.self a.mu.now a.delay.now a.prototype.now) v in
    let ran = emitted_ran a.self _ a.prototype.now c.shift_in.new.delay a.out.now (told_due c.write_due-due.result c.write_due-due.new.dst) limits c.write_due-due.ensures in
    let made = push_ran a.self a.mu.now a.delay.now a.prototype.now a.x a.out.now _ _ _ _ _ v c.shift_in.ensures ran in
    record { answer = made.0; span = made.1 }
