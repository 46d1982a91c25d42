-- `whole_part` meets its contract: from 1.0 on by `shifted`, and below it and of a NaN the whole part is 0.
use Rattle.std.proofs.Common.{sym}
use lib.Ieee.{of_bits}
use Rattle.float.proofs.WholePart.{shifted, below_one}
use Rattle.float.proofs.cast.whole_part.Goals as goal

pub overflow_sub-result : goal.overflow_sub-result
unfolding of_bits
overflow_sub-result c = (shifted c.args.x c.if-x.true c.requires).exponent

pub overflow_shr-result : goal.overflow_shr-result
unfolding of_bits
overflow_shr-result c = (shifted c.args.x c.if-x.true c.requires).by

pub returns-then-x : goal.returns-then-x
unfolding of_bits
returns-then-x c = (shifted c.args.x c.if-x.true c.requires).whole

pub returns : goal.returns
unfolding of_bits
returns c = sym (below_one c.args.x c.if-x.false)
