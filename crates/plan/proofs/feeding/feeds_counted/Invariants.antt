-- `feeds_counted` keeps that each list holds the counts of the calls so far, and behind them what it held.
use Rattle.std.proofs.Common.{ℕ}
use Rattle.refusal.specs.declared.Moved.{Moved}
use Rattle.plan.specs.inner.Ticking.{Runs}
use Rattle.plan.proofs.Listing.{Listing}
use Rattle.plan.proofs.feeding.feeds_counted.Given as goal

abbrev pub taken_of : Moved → ℕ
taken_of m = m.taken

abbrev pub written_of : Moved → ℕ
written_of m = m.written

abbrev pub invariant-loop-i : goal.invariant-loop-i
invariant-loop-i l =
    record {
      takes : Listing taken_of l.fn.clock l.pieces l.spans l.taken l.clock l.i;
      writes : Listing written_of l.fn.clock l.pieces l.spans l.written l.clock l.i;
      runs : Runs l.clock;
    }
