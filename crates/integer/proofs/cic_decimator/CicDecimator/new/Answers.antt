-- A fresh decimator keeps what every stream must, exactly where the samples leave room for the gain.
use Rattle.std.proofs.Common.{sym}
use mathlib.Core.Path.{subst⁻¹}
use Rattle.theory.specs.Sections.{outs}
use Rattle.integer.specs.CicDecimator.{decimator, scaled_decimator, Streams}
use Rattle.integer.specs.ExactSums.{ExactSums}
use Rattle.integer.specs.declared.cic_decimator.CicDecimator.{CicDecimator}
use Rattle.integer.proofs.Within.{opened_settings}
use Rattle.integer.proofs.Streaming.{streams}
use Rattle.integer.proofs.ExactSums.{exact_as}
use Rattle.integer.proofs.cic_decimator.CicDecimator.new.Goals as goal

pub returns-clause-stream : goal.returns-clause-stream
returns-clause-stream c =
    let N = c.args.stages in
    let r = c.args.r in
    let h = opened_settings N r (sym c.in_ok-settings_answer.ensures) in
    subst⁻¹ (Streams N r) c.fresh.ensures (streams N r h.0 h.1)

pub returns-clause-exact : goal.returns-clause-exact
returns-clause-exact c =
    let N = c.args.stages in
    let r = c.args.r in
    let h = opened_settings N r (sym c.in_ok-settings_answer.ensures) in
    let all = streams N r h.0 h.1 in
    subst⁻¹ (λ (d : CicDecimator). ExactSums N r (outs decimator d) (outs scaled_decimator d)) c.fresh.ensures (exact_as N r _ _ all.sums_made all.scaled_made)
