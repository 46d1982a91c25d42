-- 01, section 6: the sections one before the other, as one machine from each section on.
use Rattle.std.specs.Prelude.{ℤ, Float}
use Rattle.std.specs.Int.{w16}
use Rattle.theory.specs.Sections.{each}
use Rattle.theory.specs.Machines.{Machine, before}
use Rattle.nonrecursive.specs.EitherKind.{Thinner, either}
use Rattle.q15.specs.Fixed.{cut}
use Rattle.q15.specs.FirDecimator.{fir}
use Rattle.q15.specs.declared.fir_decimator.FirDecimator.{FirDecimator}
use Rattle.half_band.specs.HbfStream.{hbf_stream}
use Rattle.half_band.specs.declared.hbf_stream.HbfStream.{HbfStream}
use Rattle.float.specs.Level.{level}
use Rattle.float.specs.PolyphaseResamp.{in_line}
use Rattle.float.specs.declared.polyphase_resamp.PolyphaseResampF32.{PolyphaseResampF32}

-- the sections' states, in their order; those that only map a value have none
abbrev pub Parts5 : Type 0
Parts5 = PolyphaseResampF32

abbrev pub Parts4 : Type 0
Parts4 = HbfStream × Parts5

abbrev pub PartsLevels : Type 0
PartsLevels = Unit {0} × Parts4

abbrev pub Parts3 : Type 0
Parts3 = FirDecimator × PartsLevels

abbrev pub Parts2 : Type 0
Parts2 = Unit {0} × Parts3

abbrev pub Parts : Type 0
Parts = Thinner × Parts2

-- "the next sample is taken through sections 1 to 5 (with the resampler off, a value that results is written)": the machine, from section k on
abbrev pub from5 : Machine Parts5 Float Float
from5 = in_line

-- section 4 behind its levels
abbrev pub from4 : Machine Parts4 Float Float
from4 = before hbf_stream from5

abbrev pub from_levels : Machine PartsLevels ℤ Float
from_levels = before (each level) from4

abbrev pub from3 : Machine Parts3 ℤ Float
from3 = before fir from_levels

abbrev pub from2 : Machine Parts2 ℤ Float
from2 = before (each (cut w16)) from3

abbrev pub chain : Machine Parts ℤ Float
chain = before either from2
