-- A word's f32 and an f32's word as the records have them are IEEE's: its patterns of NaN lie above infinity's, and all read as one NaN.
use Rattle.std.proofs.Common.{◌≡◌, ℕ, true, false, arith, refl}
use Rattle.std.proofs.lemmas.Grind.{common_steps}
use Rattle.std.specs.Float.{binary32}
use Rattle.std.specs.Float.Ieee.{Float, nan, inf, fin, eq, of_bits, to_bits}
use Rattle.records.specs.Comparison.{bits_of, float_of}

pub bits_are : (x : Float) → to_bits binary32 x ≡ bits_of x
unfolding bits_of eq to_bits
bits_are nan = refl
bits_are (inf true) = refl
bits_are (inf false) = refl
bits_are (fin true m k) = grind (arith, common_steps)
bits_are (fin false m k) = grind (arith, common_steps)

pub float_is : (n : ℕ) → of_bits binary32 n ≡ float_of n
unfolding float_of of_bits
float_is n = grind (arith, common_steps)
