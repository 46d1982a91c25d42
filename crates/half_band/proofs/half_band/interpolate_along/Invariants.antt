-- After i turns the window from place i of the line on is the interpolator's state, and the span has the outputs of the first i samples.
use Rattle.std.proofs.Common.{take, drop}
use Rattle.half_band.specs.Windows.{interpolator}
use Rattle.half_band.proofs.Doubling.{Doubled}
use Rattle.half_band.proofs.half_band.interpolate_along.Given as goal

abbrev pub invariant-loop-i : goal.invariant-loop-i
invariant-loop-i l = Doubled (interpolator l.taps.all.now) (take l.long l.line) (drop l.long l.line) (take l.long (drop l.i l.line)) l.span l.i
