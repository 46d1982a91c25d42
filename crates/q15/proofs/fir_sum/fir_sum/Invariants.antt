-- `fir_sum::fir_sum`: before turn k the accumulator, negated, is the sum of the first k products, so that it fits 32 bits up to 65,536 of them.
use Rattle.std.proofs.Common.{ℕ, ◌+◌}
use lib.IntN.{neg_ℤ}
use Rattle.q15.specs.Fixed.{floored_product, at}
use Rattle.q15.proofs.Sums.{Summed}
use Rattle.q15.proofs.fir_sum.fir_sum.Given as goal

abbrev pub invariant-loop-k : goal.invariant-loop-k
invariant-loop-k l = Summed (λ (k : ℕ). floored_product (at l.s (0 + k)) (at l.c k)) (neg_ℤ l.negated) l.k
