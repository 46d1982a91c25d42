-- `sums::cut_sums` meets its contract: a turn scales and cuts one sum more.
use Rattle.std.specs.Prelude.{◌≡◌, ◌^◌, ◌++◌, ℤ, List, map, pos}
use Rattle.std.proofs.Common.{length, drop, sym, ap, ◌∙◌, arith, rules}
use mir.Syntax.{w16, w32, w64}
use mir.Val.{to_z, of_z}
use Rattle.theory.specs.Floor.{floor_div}
use Rattle.theory.proofs.Listed.{map_listed}
use Rattle.q15.specs.Fixed.{at, cut, is_cut, cut_count}
use Rattle.q15.proofs.CutFilling.{few_flagged, next_flagged, all_cut}
use Rattle.chain.proofs.Mapping.{listed_map}
use Rattle.chain.proofs.sums.cut_sums.Goals as goal
use Rattle.chain.proofs.sums.cut_sums.Goals.{After-from-cuts}

module _ (c : After-from-cuts) where
  sum : to_z w64 (of_z w64 c.from.result) ≡ floor_div (at c.args.sums.now c.loop-i.i) (2 ^ c.args.bits)
  sum =
      let short : to_z w32 (of_z w32 c.scaled.result) ≡ c.scaled.result = search rules in
      let long : to_z w64 (of_z w64 c.from.result) ≡ c.from.result = search rules in
      let z = at c.args.sums.now c.loop-i.i in
      let same : to_z w32 (of_z w32 z) ≡ z = search rules in
      long ∙ c.from.ensures ∙ short ∙ c.scaled.ensures ∙ ap (λ (y : ℤ). floor_div y (2 ^ c.args.bits)) same

  value : to_z w16 (of_z w16 c.cut_q15-made.result.value.0) ≡ cut w16 (floor_div (at c.args.sums.now c.loop-i.i) (2 ^ c.args.bits))
  value =
      let bits : to_z w16 (of_z w16 c.cut_q15-made.result.value.0) ≡ c.cut_q15-made.result.value.0 = search rules in
      bits ∙ c.cut_q15-made.ensures.0 ∙ ap (cut w16) (sum)

pub overflow_add-cuts : goal.overflow_add-cuts
overflow_add-cuts c =
    let few = few_flagged _ _ _ _ _ _ c.cut_q15-made.result.cut c.loop-i.invariant in
    omega (arith, few, c.from-cuts.ensures, c.loop-i-test.true, c.requires)

pub loop-i-preserved : goal.loop-i-preserved
loop-i-preserved c =
    let a = c.args in
    let v = c.loop-i in
    next_flagged (λ k. floor_div (at a.sums.now k) (2 ^ a.bits)) a.dst.now (length a.sums.now) v.dst v.i v.cuts _ c.cut_q15-made.result.cut _
    c.loop-i-test.true c.requires.0 (value c) (c.cut_q15-made.ensures.1 ∙ ap (is_cut w16) (sum c)) c.from-cuts.ensures v.invariant

pub returns-clause-span : goal.returns-clause-span
returns-clause-span c =
    let a = c.args in
    let done = all_cut _ _ _ _ _ _ c.loop-i-test.false c.loop-i.invariant in
    let g : ℤ → ℤ = (λ y. floor_div y (2 ^ a.bits)) in
    done.0
    ∙ ap (λ (l : List ℤ). l ++ drop (length a.sums.now) a.dst.now) (sym (map_listed (cut w16) (length a.sums.now) (λ k. g (at a.sums.now k))) ∙ ap (map (cut w16)) (listed_map g (pos 0) a.sums.now))

pub returns-clause-cuts : goal.returns-clause-cuts
returns-clause-cuts c =
    let a = c.args in
    let done = all_cut _ _ _ _ _ _ c.loop-i-test.false c.loop-i.invariant in
    let g : ℤ → ℤ = (λ y. floor_div y (2 ^ a.bits)) in
    done.1 ∙ ap (cut_count w16) (listed_map g (pos 0) a.sums.now)
