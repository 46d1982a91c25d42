-- The first i outputs stand in the span, and the delay makes the others of what is left (`Midway`).
use Rattle.std.proofs.Common.{length}
use Rattle.q15.proofs.Filling.{Filled}
use Rattle.linear_phase.proofs.EachSample.{output, Midway}
use Rattle.linear_phase.proofs.brief.each.Given as goal

abbrev pub invariant-loop-i : goal.invariant-loop-i
invariant-loop-i l =
    record {
      made : Filled (output l.fir.kind.odd l.fir.kind.antisymmetric l.fir.taps.now l.initial.delay l.src) l.initial.span (length l.initial.span) l.span l.i;
      left : Midway l.fir.kind.odd l.fir.kind.antisymmetric l.fir.taps.now l.initial.delay l.src l.delay l.i;
    }
