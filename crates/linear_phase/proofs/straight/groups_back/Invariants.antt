-- Before `end` the span is as it was, and from there on it has its outputs (`Written`).
use Rattle.linear_phase.proofs.Backward.{Written, output_along}
use Rattle.linear_phase.proofs.straight.groups_back.Given as goal

abbrev pub invariant-loop-end : goal.invariant-loop-end
invariant-loop-end l = Written (output_along l.fir.kind.odd l.fir.kind.antisymmetric l.fir.taps.now l.fir.long l.src) l.initial.span l.span l.end

abbrev pub decreases-loop-end : goal.decreases-loop-end
decreases-loop-end l = l.end
