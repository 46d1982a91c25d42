-- `linear_phase::one::value_with` meets its contract: its test is that of the definition, and where there is a centre it is a place of the delay.
use Rattle.std.proofs.Common.{◌<◌, length, sym, ap₂, ◌∙◌, arith}
use lib.Ieee.{Float, binary32, add}
use Rattle.linear_phase.proofs.WholeList.{reach_odd}
use Rattle.linear_phase.proofs.Newest.{place, centre_odd, value_centre, value_plain}
use Rattle.linear_phase.proofs.one.value_with.Goals as goal

pub bounds-delay-fir : goal.bounds-delay-fir
bounds-delay-fir c =
    let k = c.args.fir.kind in
    omega (arith, c.requires, c.args.fir.inside, c.args.fir.reach.2, reach_odd k.odd (length c.args.fir.taps.now) (centre_odd k.odd k.antisymmetric (sym c.has_centre.ensures ∙ c.if-has_centre.true)))

pub returns-then-has_centre : goal.returns-then-has_centre
returns-then-has_centre c =
    let a = c.args in
    let k = a.fir.kind in
    let e = sym c.has_centre.ensures ∙ c.if-has_centre.true in
    let inside : length c.args.fir.taps.now < length c.args.delay.now = omega (arith, c.requires, c.args.fir.inside, c.args.fir.reach.2, reach_odd k.odd (length c.args.fir.taps.now) (centre_odd k.odd k.antisymmetric e)) in
    ap₂ {C = Float} (add binary32) c.sum_with-acc.ensures (place a.delay.now a.x (length a.fir.taps.now) inside) ∙ value_centre _ _ _ _ e

pub returns-else-has_centre : goal.returns-else-has_centre
returns-else-has_centre c = c.sum_with-acc.ensures ∙ value_plain _ _ _ _ (sym c.has_centre.ensures ∙ c.if-has_centre.false)
