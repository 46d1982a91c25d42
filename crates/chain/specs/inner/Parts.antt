-- The parts of a line of which a loop holds the settings, the clock and the arrays apart.
use Rattle.std.specs.Prelude.{List, ℕ, ℤ, Float}
use Rattle.nonrecursive.specs.EitherKind as E
use Rattle.q15.specs.FirDecimator.{fir_state}
use Rattle.q15.specs.declared.fir_decimator.FirDecimator.{FirDecimator}
use Rattle.q15.specs.declared.fir_settings.FirSettings.{FirSettings}
use Rattle.half_band.specs.HbfStream.{stream_of}
use Rattle.half_band.specs.declared.hbf_stream.HbfStream.{HbfStream}
use Rattle.float.specs.PolyphaseResamp as R
use Rattle.float.specs.declared.polyphase_resamp.PolyphaseResampF32.{PolyphaseResampF32}
use Rattle.float.specs.declared.settings.Setting.{Setting}
use Rattle.chain.specs.Chain.{PartsLevels, Parts3, Parts2}
use Rattle.chain.specs.declared.settings.Settings.{Settings}
use Rattle.chain.specs.declared.fixed.Fixed.{Fixed}

-- what the FIR is opened with, with so many taps
abbrev pub fir_settings_of : Settings → ℕ → FirSettings
fir_settings_of s tap_count = record { tap_count = tap_count; factor = s.factor }

-- what the resampler is opened with
abbrev pub setting_of : Settings → Setting
setting_of s = record { phases = s.phases; phase_taps = s.phase_taps; straight = s.straight; step = s.step }

abbrev pub thinner_of : Fixed → ℕ → List ℤ → List ℤ → List ℤ → E.Thinner
thinner_of f counter integrators combs neighbours = E.thinner_of f.settings.thinning f.settings.stages f.settings.r integrators combs neighbours counter

abbrev pub fir_of : Fixed → ℕ → List ℤ → List ℤ → FirDecimator
fir_of f wait taps delay = fir_state taps f.tap_count f.settings.factor delay wait

abbrev pub half_band_of : Fixed → List Float → List Float → List ℕ → HbfStream
half_band_of f delays held counts = stream_of f.settings.depth delays held counts

abbrev pub resampler_of : Fixed → Float → List Float → List Float → PolyphaseResampF32
resampler_of f mu delay prototype = let s = f.settings in R.together s.straight s.phases s.phase_taps mu s.step delay prototype

-- the states of a section and of those behind it
abbrev pub levels_on : HbfStream → PolyphaseResampF32 → PartsLevels
levels_on half_band resampler = (tt, (half_band, resampler))

abbrev pub fir_on : FirDecimator → HbfStream → PolyphaseResampF32 → Parts3
fir_on fir half_band resampler = (fir, levels_on half_band resampler)

abbrev pub cut_on : FirDecimator → HbfStream → PolyphaseResampF32 → Parts2
cut_on fir half_band resampler = (tt, fir_on fir half_band resampler)
