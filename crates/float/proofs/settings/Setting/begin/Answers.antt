-- `begin` meets its contract: as many cells are kept as phases and taps make, or all of them.
use Rattle.std.proofs.Common.{ℕ, ◌∙◌, ◌*◌, List, replicate, ap, ap₂}
use Rattle.std.specs.Prelude.{Float}
use Rattle.float.specs.F32.{zero32, one32}
use Rattle.float.specs.PolyphaseOpening.{fresh, own_taps}
use Rattle.float.specs.PolyphaseResamp.{state_of}
use Rattle.float.proofs.Packing.{kept_held}
use Rattle.float.proofs.settings.Setting.begin.Goals as goal

pub returns : goal.returns
unfolding fresh own_taps
returns c =
    let a = c.args in
    ap₂ (λ (d h : List Float). state_of a.self one32 d h) (c.fill.ensures.after (λ y e. e) ∙ ap (λ (n : ℕ). replicate n zero32) c.told-delay)
    (c.keep.ensures ∙ kept_held a.cells.now c.saturating_mul.result (a.self.phases * a.self.phase_taps) c.saturating_mul.ensures c.told-cells)
