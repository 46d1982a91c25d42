-- The span has the outputs of the frames taken, one of each.
use Rattle.std.proofs.Common.{◌≤◌, ◌*◌, ◌-◌}
use Rattle.half_band.specs.HbfTaps.{stage_taps}
use Rattle.half_band.specs.HbfStream.{stream}
use Rattle.half_band.proofs.Blocks.{Emitted}
use Rattle.half_band.proofs.DecCascades.{bare}
use Rattle.half_band.proofs.hbf_dec_cascade.decimate_frames.Given as goal

abbrev pub invariant-loop-done : goal.invariant-loop-done
invariant-loop-done g l =
    record {
      few : l.done ≤ l.frames;
      so_far : Emitted (stream (stage_taps g.T.StageTable.table)) (bare l.depth l.fn.delays) l.src l.fn.dst (bare l.depth l.delays) l.dst (l.done * l.factor) l.done;
    }

abbrev pub decreases-loop-done : goal.decreases-loop-done
decreases-loop-done g l = l.frames - l.done
