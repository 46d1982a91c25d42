-- `clear` meets its contract: what is filled is zeros.
use Rattle.std.proofs.Common.{ℕ, ◌∙◌, false, List, replicate, ap, ap₂}
use Rattle.std.specs.Prelude.{Float}
use Rattle.float.specs.F32.{zero32}
use Rattle.float.specs.PolyphaseOpening.{zeros}
use Rattle.float.specs.PolyphaseResamp.{together}
use Rattle.float.proofs.settings.Setting.clear.Goals as goal

pub returns : goal.returns
unfolding zeros
returns c =
    ap₂ (λ (d h : List Float). together false 0 0 zero32 zero32 d h) (c.fill.ensures.after (λ y e. e) ∙ ap (λ (n : ℕ). replicate n zero32) c.told-delay)
    (c.fill-2.ensures.after (λ y e. e) ∙ ap (λ (n : ℕ). replicate n zero32) c.told-cells)
