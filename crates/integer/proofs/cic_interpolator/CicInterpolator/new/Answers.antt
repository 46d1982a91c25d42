-- A fresh interpolator keeps what every stream must.
use Rattle.std.proofs.Common.{sym}
use mathlib.Core.Path.{subst⁻¹}
use Rattle.integer.specs.CicInterpolator.{Streams}
use Rattle.integer.proofs.Within.{opened_settings}
use Rattle.integer.proofs.Interpolating.{streams}
use Rattle.integer.proofs.cic_interpolator.CicInterpolator.new.Goals as goal

pub returns-clause-stream : goal.returns-clause-stream
returns-clause-stream c =
    let N = c.args.stages in
    let r = c.args.r in
    let h = opened_settings N r (sym c.in_ok-settings_answer.ensures) in
    subst⁻¹ (Streams N r) c.fresh.ensures (streams N r h.0 h.1)
