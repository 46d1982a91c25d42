-- `begin_fir` meets its contract: what is behind the taps is written over with zeros (`fir_begun`).
use Rattle.std.proofs.Common.{ℕ, ◌∙◌, ap, replicate}
use Rattle.std.specs.Prelude.{pos}
use Rattle.line.proofs.Starting.{fir_off, fir_begun}
use Rattle.line.proofs.beginning.begin_fir.Goals as goal

pub returns-then-settings-eq0 : goal.returns-then-settings-eq0
returns-then-settings-eq0 c =
    let a = c.args in
    fir_off a.settings.tap_count a.settings.factor a.taps.now c.fill.new.self c.fill-2.new.self c.requires c.told-taps (c.fill.ensures.after (λ y e. e))
    (c.fill-2.ensures.after (λ y e. e) ∙ ap (λ (n : ℕ). replicate n (pos 0)) c.told-delay) c.if-settings-eq0.true

pub returns : goal.returns
returns c =
    let a = c.args in
    fir_begun a.settings.tap_count a.settings.factor a.taps.now c.fill.new.self c.fill-2.new.self c.requires c.told-taps (c.fill.ensures.after (λ y e. e))
    (c.fill-2.ensures.after (λ y e. e) ∙ ap (λ (n : ℕ). replicate n (pos 0)) c.told-delay) c.if-settings-eq0.false
