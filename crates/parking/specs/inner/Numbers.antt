-- A parked line's numbers, of which those of a part that is off are zeros: for the contracts of private functions.
use Rattle.std.specs.Prelude.{cond, false, eqb}
use Rattle.float.specs.F32.{zero32}
use Rattle.line.specs.declared.lent.LineNumbers.{LineNumbers}

-- "A part that is off is parked as zeros, settings too": of its arrays no entry has a place
unfoldable pub fir_numbers : LineNumbers → LineNumbers
fir_numbers n =
    let s = n.settings in
    let c = n.clock in
    let off = eqb n.tap_count 0 in
    record {
      settings =
          record {
            stages = s.stages;
            r = s.r;
            factor = cond off 0 s.factor;
            depth = s.depth;
            phases = s.phases;
            phase_taps = s.phase_taps;
            straight = s.straight;
            step = s.step;
            thinning = s.thinning;
          };
      tap_count = n.tap_count;
      clock = record { sample_counter = c.sample_counter; wait = cond off 0 c.wait; mu = c.mu; cuts = c.cuts };
    }

unfoldable pub resampler_numbers : LineNumbers → LineNumbers
resampler_numbers n =
    let s = n.settings in
    let c = n.clock in
    let off = eqb s.phases 0 in
    record {
      settings =
          record {
            stages = s.stages;
            r = s.r;
            factor = s.factor;
            depth = s.depth;
            phases = s.phases;
            phase_taps = cond off 0 s.phase_taps;
            straight = cond off false s.straight;
            step = cond off zero32 s.step;
            thinning = s.thinning;
          };
      tap_count = n.tap_count;
      clock = record { sample_counter = c.sample_counter; wait = c.wait; mu = cond off zero32 c.mu; cuts = c.cuts };
    }

abbrev pub numbers_on : LineNumbers → LineNumbers
numbers_on n = resampler_numbers (fir_numbers n)
