-- `fir_block::one_by_one` meets its contract: a turn takes one sample more.
use Rattle.std.proofs.Common.{◌≡◌, ◌∙◌, rules}
use mir.Syntax.{w16}
use mir.Val.{to_z, of_z}
use Rattle.q15.specs.Fixed.{at}
use Rattle.q15.specs.FirDecimator.{fir_state}
use Rattle.q15.proofs.FirBlocks.{still_there, quiet_taken, value_taken}
use Rattle.q15.proofs.fir_block.one_by_one.Goals as goal
use Rattle.q15.proofs.fir_block.one_by_one.Goals.{in-Some, in_default}

pub loop-i-preserved : goal.loop-i-preserved
loop-i-preserved c =
    let a = c.args in
    let o = a.settings in
    let v = c.loop-i in
    let made = c.fir_at-made in
    let before = fir_state a.taps.now o.tap_count o.factor a.delay.now a.wait.now in
    let from = fir_state a.taps.now o.tap_count o.factor v.delay v.wait in
    let bits : to_z w16 (of_z w16 (at v.values v.i)) ≡ at v.values v.i = search rules in
    let sample = bits ∙ still_there before a.values.now from v.values v.i v.written v.cuts v.invariant in
    elim c.match-made.branch [
      | in-Some w ↦
          (let bits : to_z w16 (of_z w16 w.in-Some.y.value.0) ≡ w.in-Some.y.value.0 = search rules in
          value_taken before a.values.now from v.values v.i v.written v.cuts _ _ _ _ _ _ _ _ _ c.loop-i-test.true sample w.in-Some.is bits
          w.from-cuts.ensures made.ensures.answer made.ensures.state made.ensures.cut w.written-is w.values-is w.cuts-is v.invariant)
      | in_default w ↦
          quiet_taken before a.values.now from v.values v.i v.written v.cuts _ _ _ _ _ _ c.loop-i-test.true sample w.in_default.is
          made.ensures.answer made.ensures.state made.ensures.cut w.written-is w.values-is w.cuts-is v.invariant
    ]
