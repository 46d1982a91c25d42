-- Zeros in as many places as each array has.
use Rattle.std.proofs.Common.{◌∙◌, ap, replicate, ℕ}
use Rattle.float.specs.F32.{zero32}
use Rattle.taking_up.proofs.clearing.clear_resampler.Goals as goal

pub returns : goal.returns
returns c =
    (c.fill.ensures.after (λ y e. e) ∙ ap (λ (n : ℕ). replicate n zero32) c.told-delay, c.fill-2.ensures.after (λ y e. e) ∙ ap (λ (n : ℕ). replicate n zero32) c.told-prototype)
