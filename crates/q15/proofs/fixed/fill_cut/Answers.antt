-- `fixed::fill_cut` meets its contract: a turn cuts one number more.
use Rattle.std.proofs.Common.{◌≡◌, length, ap, ◌∙◌, arith, rules}
use mir.Syntax.{w16, w64}
use mir.Val.{to_z, of_z}
use Rattle.q15.specs.Fixed.{cut, is_cut}
use Rattle.q15.proofs.CutFilling.{next_flagged, whole_cut, byte_most}
use Rattle.q15.proofs.fixed.fill_cut.Goals as goal

pub overflow_add-cuts : goal.overflow_add-cuts
overflow_add-cuts g c =
    let b = byte_most c.cut_q15-made.result.cut in
    omega (arith, b, c.loop-i.invariant.few, c.from-cuts.ensures, c.loop-i-test.true, c.requires.few)

pub loop-i-preserved : goal.loop-i-preserved
loop-i-preserved g c =
    let b = byte_most c.cut_q15-made.result.cut in
    let value : to_z w16 (of_z w16 c.cut_q15-made.result.value.0) ≡ c.cut_q15-made.result.value.0 = search rules in
    let wide : to_z w64 (of_z w64 c.number.result) ≡ c.number.result = search rules in
    record {
      few = omega (arith, b, c.loop-i.invariant.few, c.from-cuts.ensures);
      filled = λ f agree.
          let z = wide ∙ agree c.loop-i.i c.number.result c.loop-i-test.true c.number.ensures in
          next_flagged f c.args.places.now (length c.args.places.now) c.loop-i.places c.loop-i.i c.loop-i.cuts _ c.cut_q15-made.result.cut _
          c.loop-i-test.true (omega arith) (value ∙ c.cut_q15-made.ensures.0 ∙ ap (cut w16) z) (c.cut_q15-made.ensures.1 ∙ ap (is_cut w16) z) c.from-cuts.ensures
          (c.loop-i.invariant.filled f agree);
    }

pub returns : goal.returns
returns g c = λ f agree. whole_cut f _ _ _ _ c.loop-i-test.false (c.loop-i.invariant.filled f agree)
