-- 01, section 6: "The outputs of W are those of each section run on the whole list of the section before, the resampler's to its last due one. They follow
-- from W, settings, taps and prototype alone, and neither a span nor refusal 7 bounds them." No state, no step and no bound of the code stands here.
use Rattle.std.specs.Prelude.{◌≡◌, cond, List, map, ℕ, zero, suc, ◌+◌, min, eqb, length, ℤ, Float}
use Rattle.std.specs.Int.{w16}
use Rattle.integer.specs.MovingSums.{scaled_sums}
use Rattle.q15.specs.Fixed.{cut, cut_count}
use Rattle.q15.specs.PolyphaseDecimate.{fir_sums}
use Rattle.q15.specs.FirDecimator.{fir_whole}
use Rattle.half_band.specs.HalfBand.{decimated_by}
use Rattle.half_band.specs.HbfTaps.{stage_taps, decimation}
use Rattle.float.specs.PolyphaseWhole.{Becomes}
use Rattle.float.specs.Level.{level}
use Rattle.chain.specs.Cuts.{most_cuts}
use Rattle.chain.specs.declared.settings.Settings.{Settings}

-- what a line is opened with
pub record Opening : Type 0 where
  pub settings : Settings
  pub taps : List ℤ
  pub prototype : List Float

-- the list that reaches the resampler: "in section 1, floor(n/r) scaled sums; in 2, n values; in 3, floor((n−T)/D)+1 values, none where n < T; in 4, n floats,
-- then floor(n/2) at each half-band stage". "A part that is off hands its list on unchanged": no taps, depth 0
unfoldable pub levels : Opening → List ℤ → List Float
levels o w =
    decimated_by (stage_taps decimation) 0 o.settings.depth
    (map level (fir_whole o.taps o.settings.factor (map (cut w16) (scaled_sums o.settings.stages o.settings.r w))))

-- "In 5, mu begins at 1.0 and every delay at zero; while mu < 1 an output is made, else the next value is consumed, and the list ends when a value is wanted and
-- none is left": P phases; none means off
abbrev pub Resampled : ℕ → Opening → List Float → List Float → Type 0
Resampled zero o v y = y ≡ v
Resampled (suc n) o v y = Becomes o.settings.straight (suc n) o.settings.phase_taps o.prototype o.settings.step v y

-- y are the outputs of W
unfoldable pub Outputs : Opening → List ℤ → List Float → Type 0
Outputs o w y = Resampled o.settings.phases o (levels o w) y

-- section 2 cuts the scaled sums, and section 3 its sums of the values cut; with no taps it makes none
unfoldable pub cuts_of : Opening → List ℤ → ℕ
cuts_of o w =
    let sums = scaled_sums o.settings.stages o.settings.r w in
    cut_count w16 sums + cond (eqb (length o.taps) 0) 0 (cut_count w16 (fir_sums o.taps o.settings.factor (map (cut w16) sums)))

-- 02, §4: "the number of cuts that the definitions make for W, held likewise"
unfoldable pub held_cuts : Opening → List ℤ → ℕ
held_cuts o w = min (cuts_of o w) most_cuts
