-- The CIC decimator's tests of the numbers are those of either kind, but for row 23.
use Rattle.nonrecursive.proofs.EitherKind.{by_parts}
use Rattle.nonrecursive.proofs.thinning.thinning_valid.Goals as goal

pub returns-then-valid : goal.returns-then-valid
returns-then-valid c = rw (by_parts, ← c.if-valid.ensures) c.factor_for.ensures

pub returns-else-valid : goal.returns-else-valid
returns-else-valid c = rw (by_parts, ← c.if-valid.ensures) c.if-valid.false
