-- The next word is spelled by the next nine bytes.
use Rattle.std.proofs.Common.{◌/◌, length, arith}
use Rattle.replay.proofs.Words.{more}
use Rattle.replay.proofs.text.parse.Goals as goal

pub loop-i-preserved : goal.loop-i-preserved
loop-i-preserved c =
    more (length c.args.text.now / 9) c.loop-i.i c.args.text.now c.loop-i.words c.in-Some.x c.separator.result (omega arith) c.separator.ensures c.loop-i.invariant c.in-Some.ensures
