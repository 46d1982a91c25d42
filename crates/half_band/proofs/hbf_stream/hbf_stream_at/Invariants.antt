-- What is left for the stages from k on is what the whole cascade makes of the sample.
use Rattle.std.proofs.Common.{◌≡◌, ◌-◌, Some, min}
use Rattle.half_band.specs.HbfTaps.{stage_taps, decimation}
use Rattle.half_band.specs.HbfStream.{stream_of, through}
use Rattle.half_band.proofs.hbf_stream.hbf_stream_at.Given as goal

abbrev pub invariant-loop-i : goal.invariant-loop-i
invariant-loop-i l =
    through (stage_taps decimation) (l.i-end - l.i) l.i (Some l.v) (stream_of l.depth l.delays l.held l.counts)
    ≡ through (stage_taps decimation) (min l.depth 5) 0 (Some l.x) (stream_of l.depth l.fn.delays l.fn.held l.fn.counts)
