-- The length of g - 1 in bits reaches g and is not twice as far as need be, and only the gain bits are that; of no gain it is 0.
use Rattle.std.proofs.Common.{ap, arith}
use Rattle.std.specs.Int.Count.{count_leading_zeros}
use Rattle.integer.proofs.Bits.{bits_length}
use Rattle.integer.proofs.gain.bits_of.Goals as goal

pub returns : goal.returns
returns c = omega (arith, ap (count_leading_zeros 64) c.saturating_sub.ensures, bits_length c.args.g (omega arith))
