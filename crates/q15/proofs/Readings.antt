-- The starred readings hold: each is computed.
use mathlib.Core.Path.{refl}
use Rattle.q15.specs.Fixed.{floored_product, cut}
use Rattle.q15.specs.FirSum.{fir_sum}
use Rattle.q15.specs.PolyphaseDecimate.{filtered, decimated}
use Rattle.q15.specs.PolyphaseInterpolate.{phase_output, interpolated}
use Rattle.q15.specs.ResampleLinear.{part_of, between, linear_at, resampled}
use Rattle.q15.specs.Readings.{Hold}

pub readings : Hold
unfolding floored_product cut fir_sum filtered decimated phase_output interpolated part_of between linear_at resampled
readings =
    record {
      floored_each = refl;
      cut_above = refl;
      two_outputs = λ c0 c1 c2 s0 s1 s2 s3 s4. refl;
      no_output = λ c0 c1 c2 s0 s1. refl;
      up_two = refl;
      halfway = refl;
      exact_product = refl;
    }
