-- The loop keeps `Between` of the state put together from its variables, whose delay is the one on the tape (`Tape`).
use Rattle.std.proofs.Common.{◌≡◌, ◌+◌, ◌-◌, ◌≤◌, length}
use Rattle.theory.proofs.FeedRules.{Between}
use Rattle.float.specs.PolyphaseResamp.{resampler, state_of}
use Rattle.float.proofs.Tape.{wound}
use Rattle.float.proofs.interpolation.Reading.run.Given as goal

abbrev pub invariant-loop-written : goal.invariant-loop-written
invariant-loop-written l =
    let q = l.self.setting in
    let h = l.self.prototype.now in
    record {
      between : Between resampler (state_of q l.initial.at l.delay h) l.src l.initial.dst l.dst (state_of q l.at (wound q.phase_taps l.tape l.newest l.delay) h) l.taken l.written;
      whole : length l.tape ≡ 64;
      on_tape : l.newest + q.phase_taps ≤ 64;
    }

abbrev pub decreases-loop-written : goal.decreases-loop-written
decreases-loop-written l = (length l.src - l.taken) + (length l.initial.dst - l.written)
