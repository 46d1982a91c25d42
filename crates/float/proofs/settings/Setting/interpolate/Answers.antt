-- `interpolate` meets its contract: inside the limits it is that of the reading, and 16 places have room for T taps.
use Rattle.std.proofs.Common.{◌≡◌, sym, ap, ◌∙◌, rules}
use lib.Ieee.{Float}
use Rattle.float.specs.PolyphaseOutput.{cut_unit, output}
use Rattle.float.proofs.PolyphaseOutput.{output_cut}
use Rattle.float.proofs.Place.{cut_cut}
use Rattle.float.proofs.settings.Setting.interpolate.Goals as goal

pub interpolate-requires : goal.interpolate-requires
unfolding cut_unit
interpolate-requires c =
    let e : c.clamp.result ≡ cut_unit c.args.mu = c.clamp.ensures.value in
    (search (rules, c.of.result.taps_inside), e ∙ cut_cut c.args.mu ∙ ap cut_unit (sym e))

pub returns : goal.returns
returns c =
    let a = c.args in
    let e : c.clamp.result ≡ cut_unit c.args.mu = unfold cut_unit in c.clamp.ensures.value in
    rw (sym c.in_limits.ensures ∙ c.if-not-in_limits.false)
    ((rw (c.of.ensures.1, c.of.ensures.0) at c.interpolate.ensures) ∙ ap (λ (x : Float). output a.self.straight a.self.phases a.self.phase_taps x a.delay.now a.prototype.now) e ∙ output_cut _ _ _ a.mu _ _)
