-- After t turns the sum is that of the first t taps.
use Rattle.std.proofs.Common.{◌≡◌}
use Rattle.half_band.specs.Windows.{folded}
use Rattle.half_band.proofs.half_band.folded_sum.Given as goal

abbrev pub invariant-loop-i : goal.invariant-loop-i
invariant-loop-i l = l.acc ≡ folded l.step l.taps.all.now l.window l.start l.i
