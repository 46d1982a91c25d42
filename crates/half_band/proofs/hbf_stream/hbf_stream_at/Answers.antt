-- A stage keeps the value, or makes one of it and the held one for the stages behind (`Passing`).
use Rattle.std.proofs.Common.{sym, ap, ◌∙◌}
use Rattle.half_band.specs.HbfTaps.{stage_taps, decimation}
use Rattle.half_band.specs.HbfStream.{Passed, stream_of, stream, hbf_stream}
use Rattle.half_band.proofs.Passing.{kept, paired, ended}
use Rattle.half_band.proofs.hbf_stream.hbf_stream_at.Goals as goal

pub returns-then-counts-k-eq0-clause-out : goal.returns-then-counts-k-eq0-clause-out
unfolding hbf_stream stream
returns-then-counts-k-eq0-clause-out c =
    let l = c.loop-i in
    ap (λ (p : Passed). p.out)
    (sym (kept (stage_taps decimation) c.min-i-end.result l.i l.v (stream_of c.args.depth l.delays l.held l.counts) c.loop-i-test.true c.if-counts-k-eq0.true) ∙ l.invariant)

pub returns-then-counts-k-eq0-clause-next : goal.returns-then-counts-k-eq0-clause-next
unfolding hbf_stream stream
returns-then-counts-k-eq0-clause-next c =
    let l = c.loop-i in
    ap (λ (p : Passed). p.state)
    (sym (kept (stage_taps decimation) c.min-i-end.result l.i l.v (stream_of c.args.depth l.delays l.held l.counts) c.loop-i-test.true c.if-counts-k-eq0.true) ∙ l.invariant)

pub loop-i-preserved : goal.loop-i-preserved
loop-i-preserved c =
    let l = c.loop-i in
    let o = c.stage_pair-v in
    sym (paired (stage_taps decimation) c.min-i-end.result l.i l.v (stream_of c.args.depth l.delays l.held l.counts) c.loop-i-test.true c.if-counts-k-eq0.false o.result o.new.delays o.ensures.1 o.ensures.0)
    ∙ l.invariant

pub returns-clause-out : goal.returns-clause-out
unfolding hbf_stream stream
returns-clause-out c =
    let l = c.loop-i in
    ap (λ (p : Passed). p.out) (sym (ended (stage_taps decimation) c.min-i-end.result l.i l.v (stream_of c.args.depth l.delays l.held l.counts) c.loop-i-test.false) ∙ l.invariant)

pub returns-clause-next : goal.returns-clause-next
unfolding hbf_stream stream
returns-clause-next c =
    let l = c.loop-i in
    ap (λ (p : Passed). p.state) (sym (ended (stage_taps decimation) c.min-i-end.result l.i l.v (stream_of c.args.depth l.delays l.held l.counts) c.loop-i-test.false) ∙ l.invariant)
