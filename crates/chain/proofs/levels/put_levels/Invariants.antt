-- `levels::put_levels`: before turn i the first i levels stand in front of the span.
use Rattle.std.proofs.Common.{length}
use Rattle.q15.specs.Fixed.{at}
use Rattle.q15.proofs.Filling.{Filled}
use Rattle.float.specs.Level.{level}
use Rattle.chain.proofs.levels.put_levels.Given as goal

abbrev pub invariant-loop-i : goal.invariant-loop-i
invariant-loop-i l = Filled (λ k. level (at l.values k)) l.initial.span (length l.values) l.span l.i
