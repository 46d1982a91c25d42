-- `fir_sum::phase_sum` meets its contract: one product less of the accumulator is one more of what it is negated.
use Rattle.std.proofs.Common.{◌≡◌, ℕ, ◌+◌, ◌*◌, ◌≤◌, ◌<◌, ℤ, length, ap, ◌∙◌, arith, rules}
use native.Mathlib.Nat.{mul-le-mul_right, suc-mul}
use lib.IntN.{◌-ℤ◌, neg_ℤ}
use mir.Syntax.{w16, w32, w64}
use mir.Val.{SFits, to_z, of_z}
use mir.Facts.{to_z-of_z}
use Rattle.q15.specs.Fixed.{floored_product, at}
use Rattle.q15.specs.FirSum.{fir_sum}
use Rattle.q15.proofs.Sums.{Summed, one_more, sum_fits, negated_fits, negated_more, from_zero, floor_within}
use Rattle.q15.proofs.fir_sum.phase_sum.Goals as goal
use Rattle.q15.proofs.fir_sum.phase_sum.Goals.{After-floored_product-negated, After-from}

-- the tap is inside, and so is the factor
tap_in : (n t k p l len : ℕ) → p < l → n * l ≤ len → t < n → k ≡ t * l + p → (k < len) × (l ≤ len)
tap_in n t k p l len a b h e =
    let m : (t + 1) * l ≤ n * l = mul-le-mul_right l (omega arith) in
    let q : (t + 1) * l ≡ t * l + l = omega (arith, suc-mul t l) in
    (omega arith, omega arith)

pub offset_bounds-c-k : goal.offset_bounds-c-k
offset_bounds-c-k c = let h = tap_in _ _ _ _ _ _ c.requires.0 c.requires.1 c.loop-i-test.true c.loop-i.invariant.index in omega (arith, h)

pub bounds-c-k : goal.bounds-c-k
bounds-c-k c = (tap_in _ _ _ _ _ _ c.requires.0 c.requires.1 c.loop-i-test.true c.loop-i.invariant.index).0

pub overflow_add-k : goal.overflow_add-k
overflow_add-k c = let h = tap_in _ _ _ _ _ _ c.requires.0 c.requires.1 c.loop-i-test.true c.loop-i.invariant.index in omega (arith, h)

module _ (c : After-floored_product-negated) where
  abbrev product : ℤ
  product = floored_product (at c.args.s.now c.loop-i.i) (at c.args.c.now c.loop-i.k)

  abbrev terms : ℕ → ℤ
  terms t = floored_product (at c.args.s.now (0 + t)) (at c.args.c.now (t * c.args.l + c.args.p))

  abbrev accumulator : ℤ
  accumulator = to_z w32 c.loop-i.negated-bits

  made : to_z w32 (of_z w32 c.floored_product-negated.result) ≡ floored_product (at c.args.s.now c.loop-i.i) (at c.args.c.now c.loop-i.k)
  made = search rules

  sample16 : SFits w16 (at c.args.s.now c.loop-i.i)
  sample16 = search rules

  tap16 : SFits w16 (at c.args.c.now c.loop-i.k)
  tap16 = search rules

  next : Summed terms (neg_ℤ (accumulator -ℤ product)) (c.loop-i.i + 1)
  next =
      let first : 0 + c.loop-i.i ≡ c.loop-i.i = omega arith in
      rw (negated_more accumulator product)
      (one_more terms (neg_ℤ accumulator) product c.loop-i.i (rw (first, c.loop-i.invariant.index)) (floor_within _ _ sample16 tap16) c.loop-i.invariant.summed)

  fits : SFits w32 (accumulator -ℤ product)
  fits = negated_fits terms w32 (accumulator -ℤ product) (c.loop-i.i + 1) (omega (arith, c.loop-i-test.true, c.requires)) next

pub overflow_sub-negated : goal.overflow_sub-negated
overflow_sub-negated c = rw (made c) (fits c)

pub loop-i-preserved : goal.loop-i-preserved
loop-i-preserved c = record {
  summed = rw (made c, to_z-of_z (fits c)) (next c);
  index = omega (arith, c.loop-i.invariant.index, suc-mul c.loop-i.i c.args.l);
}

module _ (c : After-from) where
  wide : to_z w64 (of_z w64 c.from.result) ≡ to_z w32 c.loop-i.negated-bits
  wide = search rules

  sum64 : SFits w64 (neg_ℤ (to_z w32 c.loop-i.negated-bits))
  sum64 = sum_fits _ w64 (neg_ℤ (to_z w32 c.loop-i.negated-bits)) c.loop-i.i (omega (arith, c.requires)) c.loop-i.invariant.summed

pub overflow_sub-result : goal.overflow_sub-result
overflow_sub-result c = rw (wide c, from_zero (to_z w32 c.loop-i.negated-bits)) (sum64 c)

pub returns : goal.returns
unfolding fir_sum
returns c =
    let all : c.loop-i.i ≡ length c.args.s.now = omega arith in
    let h = c.loop-i.invariant.summed in
    rw (wide c, from_zero (to_z w32 c.loop-i.negated-bits), to_z-of_z (sum64 c)) (
      h.is ∙ ap (λ (n : ℕ). fir_sum (λ t. t * c.args.l + c.args.p) c.args.c.now n c.args.s.now 0) all,
      omega (arith, h.high, all, c.requires),
      omega (arith, h.low, all, c.requires),
    )
