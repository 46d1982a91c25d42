-- A length over what is left makes the sum greater than the total, since no sum of a front is greater than the whole.
use Rattle.std.proofs.Common.{arith, zero-add}
use Rattle.sheet.specs.Sheet.{sum}
use Rattle.sheet.proofs.Laying.{sum_short, sum_more}
use Rattle.sheet.proofs.write.adds_up.Goals as goal

pub loop-n-init : goal.loop-n-init
unfolding sum
loop-n-init c = zero-add _

pub returns-in_default : goal.returns-in_default
returns-in_default c = sum_short c.args.lengths.now c.loop-n.n-index c.loop-n.left c.args.total c.loop-n.invariant c.loop-n-test.true (let f = c.in_default.ensures in omega (arith, f))

pub loop-n-preserved : goal.loop-n-preserved
loop-n-preserved c = let m = sum_more c.args.lengths.now c.loop-n.n-index c.loop-n-test.true in omega (arith, c.in-Some.ensures)
