-- One bit is set where the factor is 2 to the number of its halvings.
use Rattle.std.proofs.Common.{arith}
use Rattle.nonrecursive.proofs.Halvings.{power_tested}
use Rattle.nonrecursive.proofs.nonrecursive_decimator.power_of_two.Goals as goal

pub returns : goal.returns
returns c = rw c.is_power_of_two.ensures (power_tested c.args.r (omega arith))
