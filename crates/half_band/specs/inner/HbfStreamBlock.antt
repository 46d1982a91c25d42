-- A block of values through the cascade of the line, `HbfStream`, in place on a span. 01 speaks of samples: a block is the samples one by one.
use Rattle.std.specs.Prelude.{Bool, cond, List, [], ℕ, leb, length, Float}
use Rattle.theory.specs.Sections.{state, outs}
use Rattle.half_band.specs.HbfTaps.{stage_taps, decimation}
use Rattle.half_band.specs.HbfStream.{half, stage_in, with_stage, hbf_stream}
use Rattle.half_band.specs.declared.hbf_stream.HbfStream.{HbfStream}

-- the most values of a block
abbrev pub most_stream_block : ℕ
most_stream_block = 192

-- whether a span is a block
abbrev pub stream_block_fits : List Float → Bool
stream_block_fits span = leb (length span) most_stream_block

-- the state after the values of a span, what they make, and how many that are
abbrev pub stream_block_state : HbfStream → List Float → HbfStream
stream_block_state s span = cond (stream_block_fits span) (state hbf_stream s span) s

abbrev pub stream_block_outs : HbfStream → List Float → List Float
stream_block_outs s span = cond (stream_block_fits span) (outs hbf_stream s span) []

abbrev pub stream_block_made : HbfStream → List Float → ℕ
stream_block_made s span = cond (stream_block_fits span) (length (outs hbf_stream s span)) 0

-- stage k alone: the state after it has taken in a list, and what it makes of the list
abbrev pub stage_after : ℕ → HbfStream → List Float → HbfStream
stage_after k s v = with_stage (stage_taps decimation) k (state (half (stage_taps decimation k)) (stage_in (stage_taps decimation) k s) v) s

abbrev pub stage_outs : ℕ → HbfStream → List Float → List Float
stage_outs k s v = outs (half (stage_taps decimation k)) (stage_in (stage_taps decimation) k s) v
