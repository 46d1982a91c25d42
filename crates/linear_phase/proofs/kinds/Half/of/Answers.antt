-- `Half::of` meets its contract: past the test M is in its limits.
use Rattle.std.proofs.Common.{sym, ◌∙◌}
use Rattle.refusal.proofs.Limits.{within}
use Rattle.linear_phase.proofs.kinds.Half.of.Goals as goal

pub invariant_of-result : goal.invariant_of-result
invariant_of-result c = let b = within _ _ _ (sym c.outside.ensures ∙ c.if-outside.false) in record { inside = (b.least, b.most) }
