-- A product that was held before is right where it is held again.
use Rattle.std.proofs.Common.{◌*◌, ap, ◌∙◌, sym}
use native.Mathlib.Nat.{pow-zero}
use Rattle.integer.specs.Gain.{held}
use Rattle.integer.proofs.Held.{held_pow}
use Rattle.integer.proofs.gain.gain_of.Goals as goal

pub loop-init : goal.loop-init
loop-init c = sym (ap held (pow-zero c.args.r))

pub loop-preserved : goal.loop-preserved
loop-preserved c = c.held_product-gain.ensures ∙ ap (λ g. held (g * c.args.r)) c.loop.invariant ∙ held_pow c.args.r c.loop.counter
