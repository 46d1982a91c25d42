-- A fresh cascade reaches as far as the sum over its stages says.
use Rattle.std.proofs.Common.{◌≡◌, ℕ, sym, ap, subst, ◌∙◌, arith}
use Rattle.theory.specs.Sections.{outs}
use Rattle.half_band.specs.HbfTaps.{stage_taps}
use Rattle.half_band.specs.HbfStream.{stream, stream_fresh}
use Rattle.half_band.specs.Reach.{reach_of, Reaches}
use Rattle.half_band.proofs.Reaching.{stream_reaches}
use Rattle.half_band.proofs.reach.hbf_dec_reach.Goals as goal

pub returns-clause-reach : goal.returns-clause-reach
returns-clause-reach g c =
    let taps = stage_taps g.T.StageTable.table in
    let d = c.args.depth in
    let done : c.loop-k.k ≡ c.args.depth = omega arith in
    subst (λ (n : ℕ). Reaches n d (outs (stream taps) (stream_fresh d))) (sym (c.loop-k.invariant ∙ ap (reach_of taps) done)) (stream_reaches taps g.met.T.StageTable.five d (omega arith))
