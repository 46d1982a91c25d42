-- `fir_sum::fir_sum` meets its contract: one product less of the accumulator is one more of what it is negated.
use Rattle.std.proofs.Common.{◌≡◌, ℕ, ◌+◌, ℤ, length, ap, ◌∙◌, arith, rules}
use lib.IntN.{◌-ℤ◌, neg_ℤ}
use mir.Syntax.{w16, w32, w64}
use mir.Val.{SFits, to_z, of_z}
use mir.Facts.{to_z-of_z}
use Rattle.q15.specs.Fixed.{floored_product, at}
use Rattle.q15.specs.FirSum.{sum, fir_sum}
use Rattle.q15.proofs.Sums.{Summed, one_more, sum_fits, negated_fits, negated_more, from_zero, floor_within}
use Rattle.q15.proofs.fir_sum.fir_sum.Goals as goal

module _ (c : goal.After-floored_product-negated) where
  abbrev product : ℤ
  product = floored_product (at c.args.s.now c.loop-k.k) (at c.args.c.now c.loop-k.k)

  abbrev terms : ℕ → ℤ
  terms k = floored_product (at c.args.s.now (0 + k)) (at c.args.c.now k)

  abbrev accumulator : ℤ
  accumulator = to_z w32 c.loop-k.negated-bits

  made : to_z w32 (of_z w32 c.floored_product-negated.result) ≡ floored_product (at c.args.s.now c.loop-k.k) (at c.args.c.now c.loop-k.k)
  made = search rules

  sample16 : SFits w16 (at c.args.s.now c.loop-k.k)
  sample16 = search rules

  tap16 : SFits w16 (at c.args.c.now c.loop-k.k)
  tap16 = search rules

  next : Summed terms (neg_ℤ (accumulator -ℤ product)) (c.loop-k.k + 1)
  next =
      let first : 0 + c.loop-k.k ≡ c.loop-k.k = omega arith in
      rw (negated_more accumulator product)
      (one_more terms (neg_ℤ accumulator) product c.loop-k.k (rw first) (floor_within _ _ sample16 tap16) c.loop-k.invariant)

  fits : SFits w32 (accumulator -ℤ product)
  fits = negated_fits terms w32 (accumulator -ℤ product) (c.loop-k.k + 1) (omega (arith, c.loop-k-test.true, c.requires)) next

pub overflow_sub-negated : goal.overflow_sub-negated
overflow_sub-negated c = rw (made c) (fits c)

pub loop-k-preserved : goal.loop-k-preserved
loop-k-preserved c = rw (made c, to_z-of_z (fits c)) (next c)

module _ (c : goal.After-from) where
  wide : to_z w64 (of_z w64 c.from.result) ≡ to_z w32 c.loop-k.negated-bits
  wide = search rules

  sum64 : SFits w64 (neg_ℤ (to_z w32 c.loop-k.negated-bits))
  sum64 = sum_fits _ w64 (neg_ℤ (to_z w32 c.loop-k.negated-bits)) c.loop-k.k (omega (arith, c.requires)) c.loop-k.invariant

pub overflow_sub-result : goal.overflow_sub-result
overflow_sub-result c = rw (wide c, from_zero (to_z w32 c.loop-k.negated-bits)) (sum64 c)

pub returns : goal.returns
unfolding fir_sum
returns c =
    let all : c.loop-k.k ≡ length c.args.c.now = omega arith in
    rw (wide c, from_zero (to_z w32 c.loop-k.negated-bits), to_z-of_z (sum64 c))
    (c.loop-k.invariant.is ∙ ap (λ (n : ℕ). sum n (λ (k : ℕ). floored_product (at c.args.s.now (0 + k)) (at c.args.c.now k))) all)
