-- Of a fresh cascade the claims hold.
use Rattle.std.proofs.Common.{sym, ◌∙◌}
use Rattle.refusal.proofs.Limits.{within}
use Rattle.half_band.specs.HbfTaps.{stage_taps}
use Rattle.half_band.proofs.DecCascades.{fresh_meets}
use Rattle.half_band.proofs.hbf_dec_cascade.DecCascade.new.Goals as goal

pub returns-clause-meets : goal.returns-clause-meets
returns-clause-meets g c = fresh_meets (stage_taps g.T.StageTable.table) g.met.T.StageTable.five c.args.depth (within c.args.depth 1 5 (sym c.outside.ensures ∙ c.if-outside.false))
