-- Of a fresh cascade the claims hold.
use Rattle.std.proofs.Common.{sym, ◌∙◌}
use Rattle.refusal.proofs.Limits.{within}
use Rattle.half_band.proofs.IntCascades.{fresh_meets}
use Rattle.half_band.proofs.hbf_int_cascade.HbfIntCascade.new.Goals as goal

pub returns-clause-meets : goal.returns-clause-meets
returns-clause-meets c = fresh_meets c.args.depth (within c.args.depth 1 5 (sym c.outside.ensures ∙ c.if-outside.false))
