-- The loop of `feed_batches` keeps `Midway` of the line put together from its locals, and each turn takes samples.
use Rattle.std.proofs.Common.{◌-◌, length}
use Rattle.theory.proofs.FeedLoop.{Midway}
use Rattle.chain.specs.Same.{Same}
use Rattle.line.specs.Line.{line}
use Rattle.line.specs.inner.Together.{line_held}
use Rattle.line.proofs.Lawful.{Good, line_lawful}
use Rattle.line.proofs.batches.feed_batches.Given as goal

abbrev pub invariant-loop-f : goal.invariant-loop-f
invariant-loop-f l =
    record {
      same : Same l.fn.lent l.lent;
      midway : Midway line 64 Good line_lawful (line_held l.f l.fn.clock l.fn.lent) l.samples l.fn.out l.out (line_held l.f l.clock l.lent) l.taken l.written;
    }

abbrev pub decreases-loop-f : goal.decreases-loop-f
decreases-loop-f l = length l.samples - l.taken
