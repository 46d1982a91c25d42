-- Parts of a line by its numbers: what a feed never changes, its clock, what it is opened with again. For the contracts of private functions.
use Rattle.std.specs.Prelude.{ℕ, ◌*◌, take}
use Rattle.integer.specs.Gain.{gain_bits}
use Rattle.integer.specs.CicDecimator.{decimator_of}
use Rattle.q15.specs.FirDecimator.{fir_state}
use Rattle.float.specs.PolyphaseResamp as R
use Rattle.chain.specs.declared.settings.Settings.{Settings}
use Rattle.chain.specs.declared.clock.Clock.{Clock}
use Rattle.chain.specs.declared.fixed.Fixed.{Fixed}
use Rattle.line.specs.Outputs.{Opening}
use Rattle.line.specs.declared.gauge_line.Line.{Line}
use Rattle.line.specs.declared.lent.LineNumbers.{LineNumbers}
use Rattle.line.specs.declared.places.Places.{Places}

-- what a feed never changes, with the gain bits that follow
abbrev pub fixed_in : LineNumbers → Fixed
fixed_in n = record { settings = n.settings; tap_count = n.tap_count; bits = gain_bits n.settings.stages n.settings.r }

-- a line with another clock
abbrev pub with_clock : Clock → Line → Line
with_clock c l =
    let d = l.cic in
    let s = l.fir in
    let r = l.resampler in
    record {
      thinning = l.thinning;
      cic = decimator_of d.stages d.r d.integrator_state d.comb_state c.sample_counter;
      neighbours = l.neighbours;
      fir = fir_state s.taps s.tap_count s.factor s.delay c.wait;
      half_band = l.half_band;
      resampler = R.together r.straight r.phases r.taps c.mu r.step r.delay r.prototype;
      cuts = c.cuts;
    }

-- what a line is opened with again, of the taps and the prototype in front of their arrays
abbrev pub own_opening : Settings → ℕ → Places → Opening
own_opening s tap_count p = record { settings = s; taps = take tap_count p.taps.now; prototype = take (s.phases * s.phase_taps) p.prototype.now }
