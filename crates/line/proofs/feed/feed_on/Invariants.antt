-- The loop of `feed_on` keeps `Midway` of the line put together from its locals, and each turn takes a sample.
use Rattle.std.proofs.Common.{◌-◌, length}
use Rattle.theory.proofs.FeedLoop.{Midway}
use Rattle.chain.specs.Same.{Same}
use Rattle.line.specs.Line.{line}
use Rattle.line.specs.inner.Together.{line_held}
use Rattle.line.proofs.Lawful.{Good, line_lawful}
use Rattle.line.proofs.feed.feed_on.Given as goal

abbrev pub invariant-loop-out : goal.invariant-loop-out
invariant-loop-out g l =
    record {
      same : Same l.fn.lent l.lent;
      midway : Midway line 64 Good line_lawful (line_held l.own.fixed l.fn.clock l.fn.lent) l.samples l.fn.out l.out (line_held l.own.fixed l.clock l.lent) l.taken l.written;
    }

abbrev pub decreases-loop-out : goal.decreases-loop-out
decreases-loop-out g l = length l.samples - l.taken
