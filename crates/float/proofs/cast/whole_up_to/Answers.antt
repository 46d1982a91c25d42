-- `whole_up_to` meets its contract: from 2^24 on the whole part is that much at least, which is past `last`.
use Rattle.std.proofs.Common.{arith}
use lib.Ieee.{of_bits, to_unsigned}
use borrow.Author.Tests.{lt-leb}
use Rattle.float.proofs.WholePart.{reaches}
use Rattle.float.proofs.cast.whole_up_to.Goals as goal

pub returns-then-x : goal.returns-then-x
unfolding of_bits
returns-then-x c = rw (lt-leb (to_unsigned 64 c.args.x) c.args.last (omega (arith, reaches c.args.x c.if-x.true, c.requires)))
