-- The loop holds both sums over the taps passed.
use Rattle.std.proofs.Common.{◌≡◌}
use Rattle.float.specs.PolyphaseOutput.{tap, phase_sum}
use Rattle.float.proofs.interpolation.Reading.summed.Given as goal

abbrev pub invariant-loop-i : goal.invariant-loop-i
invariant-loop-i l =
    record {
      first : l.y0 ≡ phase_sum (tap l.self.prototype.now l.phases l.p0) l.delay l.i;
      second : l.y1 ≡ phase_sum (tap l.self.prototype.now l.phases l.p1) l.delay l.i;
    }
