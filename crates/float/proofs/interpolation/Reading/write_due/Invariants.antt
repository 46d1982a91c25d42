-- What is due from the loop's variables on is what was due from the start on.
use Rattle.std.proofs.Common.{◌≡◌, ◌-◌, length}
use Rattle.float.specs.inner.Running.{emitted}
use Rattle.float.proofs.interpolation.Reading.write_due.Given as goal

abbrev pub invariant-loop-written : goal.invariant-loop-written
invariant-loop-written l =
    let s = l.self.setting in
    emitted s.straight s.phases s.phase_taps s.step l.delay l.self.prototype.now (length l.initial.dst - l.from) l.mu l.from l.initial.dst
    ≡ emitted s.straight s.phases s.phase_taps s.step l.delay l.self.prototype.now (length l.dst - l.written) l.next l.written l.dst

abbrev pub decreases-loop-written : goal.decreases-loop-written
decreases-loop-written l = length l.initial.dst - l.written
