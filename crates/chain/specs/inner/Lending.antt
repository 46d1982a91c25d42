-- The arrays of a line, lent together: the sections of which they are the arrays, and what a call leaves as it was.
use Rattle.std.specs.Prelude.{◌≡◌, ℕ, Float}
use Rattle.nonrecursive.specs.EitherKind.{Thinner}
use Rattle.half_band.specs.declared.hbf_stream.HbfStream.{HbfStream}
use Rattle.q15.specs.declared.fir_decimator.FirDecimator.{FirDecimator}
use Rattle.float.specs.declared.polyphase_resamp.PolyphaseResampF32.{PolyphaseResampF32}
use Rattle.chain.specs.Chain.{PartsLevels, Parts3, Parts2, Parts}
use Rattle.chain.specs.inner.Parts as P
use Rattle.chain.specs.declared.clock.Clock.{Clock}
use Rattle.chain.specs.declared.fixed.Fixed.{Fixed}
use Rattle.chain.specs.declared.arrays.Arrays.{Arrays}

-- the sections
abbrev pub thinner_in : Fixed → ℕ → Arrays → Thinner
thinner_in f counter lent = P.thinner_of f counter lent.integrators.now lent.combs.now lent.neighbours.now

abbrev pub fir_in : Fixed → ℕ → Arrays → FirDecimator
fir_in f wait lent = P.fir_of f wait lent.taps.now lent.fir_delay.now

abbrev pub half_band_in : Fixed → Arrays → HbfStream
half_band_in f lent = P.half_band_of f lent.delays.now lent.held.now lent.counts.now

abbrev pub resampler_in : Fixed → Float → Arrays → PolyphaseResampF32
resampler_in f mu lent = P.resampler_of f mu lent.delay.now lent.prototype.now

-- a section and those behind it
abbrev pub levels_in : Fixed → Float → Arrays → PartsLevels
levels_in f mu lent = P.levels_on (half_band_in f lent) (resampler_in f mu lent)

abbrev pub from_fir_in : Fixed → Clock → Arrays → Parts3
from_fir_in f c lent = (fir_in f c.wait lent, levels_in f c.mu lent)

abbrev pub from_cut_in : Fixed → Clock → Arrays → Parts2
from_cut_in f c lent = (tt, from_fir_in f c lent)

abbrev pub parts_in : Fixed → Clock → Arrays → Parts
parts_in f c lent = (thinner_in f c.sample_counter lent, from_cut_in f c lent)

-- the arrays of section 1 are as they were
pub record ThinnerStays (before after : Arrays) : Type 0 where
  pub integrators : after.integrators.now ≡ before.integrators.now
  pub combs : after.combs.now ≡ before.combs.now
  pub neighbours : after.neighbours.now ≡ before.neighbours.now
