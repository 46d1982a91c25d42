-- After k turns the reach is that of the first k stages.
use Rattle.std.proofs.Common.{◌≡◌}
use Rattle.half_band.specs.HbfTaps.{stage_taps}
use Rattle.half_band.specs.Reach.{reach_of}
use Rattle.half_band.proofs.reach.hbf_dec_reach.Given as goal

abbrev pub invariant-loop-k : goal.invariant-loop-k
invariant-loop-k g l = l.reach ≡ reach_of (stage_taps g.T.StageTable.table) l.k
