-- `folded` meets its contract: the taps in front are m, so the delay is as long as that of m taps.
use Rattle.std.proofs.Common.{ℕ, length, ap, ap₂, ◌∙◌, arith, length-take-le}
use Rattle.linear_phase.specs.LinearPhase.{reach}
use Rattle.linear_phase.specs.declared.kinds.Kind.{Kind}
use Rattle.linear_phase.proofs.kinds.Half.folded.Goals as goal

pub returns : goal.returns
returns c =
    let a = c.args in
    let o = c.of.ensures in
    let many = ap length o.0 ∙ length-take-le a.self.m a.taps.now (omega (arith, c.args.self.inside, c.told-taps)) in
    (o.0, c.of.result.reach.2 ∙ ap₂ {C = ℕ} (λ (k : Kind) (n : ℕ). reach k.odd n) o.1 many, o.1)
