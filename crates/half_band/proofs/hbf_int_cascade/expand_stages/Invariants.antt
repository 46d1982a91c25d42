-- What the stages left make of the values at the end of the span is what all make of the samples.
use Rattle.std.proofs.Common.{length}
use Rattle.half_band.specs.HbfTaps.{stage_taps, interpolation}
use Rattle.half_band.specs.HbfIntCascade.{upsampled}
use Rattle.half_band.proofs.IntCascades.{Growing}
use Rattle.half_band.proofs.hbf_int_cascade.expand_stages.Given as goal

abbrev pub invariant-loop-k : goal.invariant-loop-k
invariant-loop-k l = Growing (upsampled (stage_taps interpolation) l.depth 0 l.fn.delays l.src) l.depth (length l.initial.span) l.delays l.span l.n l.k
