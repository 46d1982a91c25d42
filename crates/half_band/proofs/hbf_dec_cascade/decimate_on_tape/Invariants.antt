-- What the stages left make of the values in front of the tape is what all make of the samples.
use Rattle.std.proofs.Common.{length}
use Rattle.half_band.specs.HbfTaps.{stage_taps}
use Rattle.half_band.proofs.DecCascades.{Shrinking}
use Rattle.half_band.proofs.hbf_dec_cascade.decimate_on_tape.Given as goal

abbrev pub invariant-loop-k : goal.invariant-loop-k
invariant-loop-k g l = Shrinking (stage_taps g.T.StageTable.table) g.met.T.StageTable.five l.depth (length l.fn.dst) l.fn.delays l.fn.src l.delays l.tape l.n l.k
