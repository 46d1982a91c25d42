-- `fir_sum::phase_sum`: before turn i the accumulator, negated, is the sum of the first i products, so that it fits 32 bits up to 65,536 of them, and
-- the running index is that of tap i of the phase.
use Rattle.std.proofs.Common.{ℕ, ◌≡◌, ◌+◌, ◌*◌}
use lib.IntN.{neg_ℤ}
use Rattle.q15.specs.Fixed.{floored_product, at}
use Rattle.q15.proofs.Sums.{Summed}
use Rattle.q15.proofs.fir_sum.phase_sum.Given as goal

abbrev pub invariant-loop-i : goal.invariant-loop-i
invariant-loop-i l = record {
  summed : Summed (λ (t : ℕ). floored_product (at l.s (0 + t)) (at l.c (t * l.l + l.p))) (neg_ℤ l.negated) l.i;
  index : l.k ≡ l.i * l.l + l.p;
}
