-- 01, section 6: which openings are refused and what the others make; what a state must be not to be refused; and a reset.
use Rattle.std.specs.Prelude.{Bool, cond, ◌&&◌, not, List, ℕ, zero, suc, ◌*◌, ltb, eqb, length, take, replicate, pos, Float}
use Rattle.refusal.specs.Outcome.{Opened}
use Rattle.refusal.specs.Rows.{first_of}
use Rattle.integer.specs.CicDecimator as C
use Rattle.nonrecursive.specs.NonrecursiveDecimator.{most_neighbours}
use Rattle.nonrecursive.specs.EitherKind.{Thinner}
use Rattle.nonrecursive.specs.EitherKind as E
use Rattle.nonrecursive.specs.declared.thinning.Thinning.TheVariants as thinning
use Rattle.q15.specs.FirDecimator.{fir, settings_number_in_line}
use Rattle.q15.specs.FirDecimator as Q
use Rattle.half_band.specs.Limits.{most_depth}
use Rattle.half_band.specs.HbfStream.{stream_fresh, stream_refused_in_line}
use Rattle.float.specs.PolyphaseOpening.{in_limits, step_in_line, valid_in_line}
use Rattle.float.specs.PolyphaseOpening as R
use Rattle.half_band.specs.declared.hbf_stream.HbfStream.{HbfStream}
use Rattle.float.specs.declared.polyphase_resamp.PolyphaseResampF32.{PolyphaseResampF32}
use Rattle.line.specs.Outputs.{Opening}
use Rattle.chain.specs.declared.settings.Settings.{Settings}
use Rattle.line.specs.declared.gauge_line.Line.{Line}

-- section 1's: which kind thins, and what both kinds hold
abbrev pub thinner_of : Line → Thinner
thinner_of l = record { kind = l.thinning; cic = l.cic; neighbours = l.neighbours }

-- row 15 of the table, part by part: "settings that its opening refuses; `sample_counter` not below r; more than one held sample at one half-band stage; FIR wait 0
-- or above both T and D; mu not in .. (line: 0..1+step); a part that is off is not checked"
unfoldable pub half_band_fine : HbfStream → Bool
half_band_fine s = not (stream_refused_in_line s.depth s.counts)

unfoldable pub valid : Line → Bool
valid l = E.fine (thinner_of l) && (Q.valid_in_line l.fir && (half_band_fine l.half_band && valid_in_line l.resampler))

-- row 11, "depth over 5"; 0 means off
unfoldable pub depth_number : ℕ → ℕ
depth_number depth = cond (ltb most_depth depth) 11 0

-- rows 12, 13 and 14; "P = 0 means off, the other resampler settings and the prototype are not looked at, and step is 1/64 to 64"
unfoldable pub resampler_number : ℕ → ℕ → ℕ → Float → ℕ
resampler_number P T cells step = cond (eqb P 0) 0 (cond (in_limits P T) (cond (eqb cells (P * T)) (cond (step_in_line step) 0 14) 13) 12)

-- in the table's order; 1, 2, 23 and 3 stand beside the kinds of thinning, 5 and 6 in the Q15 layer
unfoldable pub number_at : Settings → ℕ → ℕ → ℕ
number_at s tap_count cells =
    first_of (E.settings_number s.thinning s.stages s.r)
    (first_of (settings_number_in_line tap_count s.factor) (first_of (depth_number s.depth) (resampler_number s.phases s.phase_taps cells s.step)))

abbrev pub opening_number_of : Opening → ℕ
opening_number_of o = number_at o.settings (length o.taps) (length o.prototype)

-- "A part that is off is opened as zeros, settings too": no taps, depth 0, P = 0
unfoldable pub resampler_fresh : Settings → List Float → PolyphaseResampF32
resampler_fresh s prototype = cond (eqb s.phases 0) R.zeros (R.fresh s.straight s.phases s.phase_taps prototype s.step)

unfoldable pub fresh : Opening → Line
fresh o =
    record {
      thinning = o.settings.thinning;
      cic = C.fresh o.settings.stages o.settings.r;
      neighbours = replicate most_neighbours (pos 0);
      fir = Q.fresh_in_line o.taps o.settings.factor;
      half_band = stream_fresh o.settings.depth;
      resampler = resampler_fresh o.settings o.prototype;
      cuts = 0;
    }

-- "a refused opening's state is all zeros"
unfoldable pub zeros : Line
zeros =
    record {
      thinning = thinning.Integrators;
      cic = C.fresh 0 0;
      neighbours = replicate most_neighbours (pos 0);
      fir = Q.fir_zeros;
      half_band = stream_fresh 0;
      resampler = R.zeros;
      cuts = 0;
    }

abbrev pub opened_by : ℕ → Opening → Line
opened_by zero o = fresh o
opened_by (suc q) o = zeros

unfoldable pub opened : Opening → Opened Line
opened o = record { number = opening_number_of o; state = opened_by (opening_number_of o) o }

-- what a line was opened with
unfoldable pub opening_of : Line → Opening
opening_of l =
    record {
      settings =
          record {
            stages = l.cic.stages;
            r = l.cic.r;
            factor = l.fir.factor;
            depth = l.half_band.depth;
            phases = l.resampler.phases;
            phase_taps = l.resampler.taps;
            straight = l.resampler.straight;
            step = l.resampler.step;
            thinning = l.thinning;
          };
      taps = take l.fir.tap_count l.fir.taps;
      prototype = take (l.resampler.phases * l.resampler.taps) l.resampler.prototype;
    }

-- "Reset equals a fresh opening"
unfoldable pub reset : Line → Opened Line
reset l = cond (valid l) (opened (opening_of l)) (record { number = 15; state = l })
