-- The line of 01, section 6, as a caller has it who keeps its arrays: the numbers and the arrays lent.
use Rattle.line.specs.Placed.{line_together}
use Rattle.line.specs.declared.gauge_line.Line.{Line}
use Rattle.line.specs.declared.lent.LineNumbers.{LineNumbers}
use Rattle.chain.specs.declared.arrays.Arrays.{Arrays}

-- the line of these numbers and arrays
abbrev pub line_in : LineNumbers → Arrays → Line
line_in n lent =
    line_together n lent.integrators.now lent.combs.now lent.neighbours.now lent.taps.now lent.fir_delay.now lent.delays.now lent.held.now lent.counts.now lent.delay.now lent.prototype.now

-- the numbers of a line
abbrev pub numbers_in : Line → LineNumbers
numbers_in l =
    record {
      settings =
          record {
            stages = l.cic.stages;
            r = l.cic.r;
            factor = l.fir.factor;
            depth = l.half_band.depth;
            phases = l.resampler.phases;
            phase_taps = l.resampler.taps;
            straight = l.resampler.straight;
            step = l.resampler.step;
            thinning = l.thinning;
          };
      tap_count = l.fir.tap_count;
      clock = record { sample_counter = l.cic.sample_counter; wait = l.fir.wait; mu = l.resampler.mu; cuts = l.cuts };
    }
