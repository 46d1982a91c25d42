-- The starred readings of section 1 hold: each is computed from its definition.
use Rattle.std.proofs.Common.{refl}
use Rattle.theory.specs.Wrap.{wrap}
use Rattle.integer.specs.Limits.{stages_ok, factor_ok}
use Rattle.integer.specs.Gain.{bits_of}
use Rattle.integer.specs.MovingSums.{sums, scaled_sums}
use Rattle.integer.specs.CicDecimator.{valid_at, scaled_step}
use Rattle.integer.specs.Readings.{AllHold, readings}

-- `readings` of specs/Readings hold: docs/reading-the-proofs.md rests on this, where it asks whether a contract is empty
pub readings_hold : AllHold readings
unfolding wrap sums scaled_sums bits_of scaled_step valid_at stages_ok factor_ok
readings_hold = (refl, (refl, (refl, (refl, (refl, (refl, (λ x. refl, (refl, (refl, tt)))))))))
