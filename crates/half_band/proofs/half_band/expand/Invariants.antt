-- After i turns the outputs of the first i samples stand in front of the samples left, and the window that they leave stands on the tape.
use Rattle.std.proofs.Common.{◌≤◌, ◌+◌, take, drop}
use Rattle.half_band.specs.Windows.{interpolator}
use Rattle.half_band.proofs.Expanding.{Expanded}
use Rattle.half_band.proofs.half_band.expand.Given as goal

abbrev pub invariant-loop-i : goal.invariant-loop-i
invariant-loop-i l =
    record {
      on_tape : l.at + l.long ≤ 96;
      so_far : Expanded (interpolator l.taps.all.now) l.window l.initial.span l.n (take l.long (drop l.at l.tape)) l.span l.i;
    }
