-- After i turns the window from place 2i of the line on is the decimator's state, and the span has the outputs of the first i pairs.
use Rattle.std.proofs.Common.{◌*◌, take, drop}
use Rattle.half_band.specs.Windows.{pairs}
use Rattle.half_band.specs.inner.Decimator.{decimator}
use Rattle.half_band.proofs.Blocks.{Emitted}
use Rattle.half_band.proofs.half_band.decimate_along.Given as goal

abbrev pub invariant-loop-i : goal.invariant-loop-i
invariant-loop-i l =
    Emitted (decimator l.taps.all.now) (take l.long l.line) (pairs (drop l.long l.line)) l.initial.span (take l.long (drop (2 * l.i) l.line)) l.span l.i l.i
