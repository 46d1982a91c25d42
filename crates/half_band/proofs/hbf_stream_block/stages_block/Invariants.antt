-- What the stages left make of the values at the end of the tape is what all make of the block.
use Rattle.std.proofs.Common.{◌-◌, length, drop}
use Rattle.half_band.specs.HbfStream.{stream_of}
use Rattle.half_band.proofs.StreamBlocks.{Going}
use Rattle.half_band.proofs.hbf_stream_block.stages_block.Given as goal

abbrev pub invariant-loop-k : goal.invariant-loop-k
invariant-loop-k l =
    Going l.depth l.k-end (stream_of l.depth l.fn.delays l.fn.held l.fn.counts) (drop (length l.fn.tape - l.n) l.fn.tape) l.fn.tape l.delays l.held l.counts l.tape l.m l.k
