-- `fir_decimator::fir_output` meets its contract: the sum by the taps in front of their array is that by as many of the array.
use Rattle.std.proofs.Common.{◌≡◌, ap, ◌∙◌, arith, rules}
use mir.Syntax.{w16, w64}
use mir.Val.{to_z, of_z}
use Rattle.q15.specs.Fixed.{cut, is_cut}
use Rattle.q15.specs.PolyphaseDecimate.{window_sum, filtered}
use Rattle.q15.proofs.Windows.{front_taps}
use Rattle.q15.proofs.fir_decimator.fir_output.Goals as goal

pub returns : goal.returns
unfolding filtered
returns c =
    let a = c.args in
    let bits : to_z w64 (of_z w64 c.fir_sum.result) ≡ c.fir_sum.result = search rules in
    let e : to_z w64 (of_z w64 c.fir_sum.result) ≡ window_sum a.taps.now a.t a.delay.now 0 = bits ∙ c.fir_sum.ensures ∙ front_taps a.taps.now a.t a.delay.now 0 (omega arith) in
    (c.cut_q15.ensures.0 ∙ ap (cut w16) e, c.cut_q15.ensures.1 ∙ ap (is_cut w16) e)
