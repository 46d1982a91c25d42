-- The line of 01, section 6, put together from its numbers and its arrays; and as an opening or a reset has it whose caller keeps its arrays, lent to be written.
use Rattle.std.specs.Prelude.{◌≡◌, List, ℕ, ℤ, Float}
use Rattle.integer.specs.CicDecimator.{decimator_of}
use Rattle.q15.specs.FirDecimator.{fir_state}
use Rattle.half_band.specs.HbfStream.{stream_of}
use Rattle.float.specs.PolyphaseResamp as R
use Rattle.line.specs.declared.gauge_line.Line.{Line}
use Rattle.line.specs.declared.lent.LineNumbers.{LineNumbers}
use Rattle.line.specs.declared.places.Places.{Places}

-- the line of these numbers and what stands in its ten arrays
abbrev pub line_together :
    LineNumbers
    → List ℤ → List ℤ → List ℤ
    → List ℤ → List ℤ
    → List Float → List Float → List ℕ
    → List Float → List Float
    → Line
line_together n integrators combs neighbours taps fir_delay delays held counts delay prototype =
    let s = n.settings in
    let c = n.clock in
    record {
      thinning = s.thinning;
      cic = decimator_of s.stages s.r integrators combs c.sample_counter;
      neighbours = neighbours;
      fir = fir_state taps n.tap_count s.factor fir_delay c.wait;
      half_band = stream_of s.depth delays held counts;
      resampler = R.together s.straight s.phases s.phase_taps c.mu s.step delay prototype;
      cuts = c.cuts;
    }

-- the line of these numbers and arrays
abbrev pub line_on : LineNumbers → Places → Line
line_on n p =
    line_together n p.integrators.now p.combs.now p.neighbours.now p.taps.now p.fir_delay.now p.delays.now p.held.now p.counts.now p.delay.now p.prototype.now

-- the references are those that were lent, so what a call wrote stands where the caller keeps it
pub record SamePlaces (before after : Places) : Type 0 where
  pub integrators : after.integrators.ghost_name ≡ before.integrators.ghost_name
  pub combs : after.combs.ghost_name ≡ before.combs.ghost_name
  pub neighbours : after.neighbours.ghost_name ≡ before.neighbours.ghost_name
  pub taps : after.taps.ghost_name ≡ before.taps.ghost_name
  pub fir_delay : after.fir_delay.ghost_name ≡ before.fir_delay.ghost_name
  pub delays : after.delays.ghost_name ≡ before.delays.ghost_name
  pub held : after.held.ghost_name ≡ before.held.ghost_name
  pub counts : after.counts.ghost_name ≡ before.counts.ghost_name
  pub delay : after.delay.ghost_name ≡ before.delay.ghost_name
  pub prototype : after.prototype.ghost_name ≡ before.prototype.ghost_name
