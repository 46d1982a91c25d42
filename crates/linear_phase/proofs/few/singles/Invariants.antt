-- The first i outputs stand in front of the span.
use Rattle.std.proofs.Common.{suc, length, take, drop}
use Rattle.q15.proofs.Filling.{Filled}
use Rattle.linear_phase.specs.Windows.{window_value}
use Rattle.linear_phase.proofs.few.singles.Given as goal

abbrev pub invariant-loop-i : goal.invariant-loop-i
invariant-loop-i l = Filled (λ k. window_value l.fir.kind.odd l.fir.kind.antisymmetric l.fir.taps.now (take (suc l.fir.long) (drop k l.tape))) l.initial.span (length l.initial.span) l.span l.i
