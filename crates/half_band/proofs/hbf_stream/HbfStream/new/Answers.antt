-- Of a fresh cascade the claims hold.
use Rattle.std.proofs.Common.{sym, subst, ◌∙◌}
use Rattle.refusal.proofs.Limits.{within}
use Rattle.half_band.specs.HbfStream.{StreamMeets}
use Rattle.half_band.proofs.HeldOnes.{stream_meets}
use Rattle.half_band.proofs.hbf_stream.HbfStream.new.Goals as goal

pub returns-clause-meets : goal.returns-clause-meets
returns-clause-meets c =
    let d = c.args.depth in
    let b = within d 1 5 (sym c.outside.ensures ∙ c.if-outside.false) in
    subst (StreamMeets d) (sym c.fresh.ensures) (stream_meets d b.least b.most)
