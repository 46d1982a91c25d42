-- The places passed hold the outputs.
use Rattle.std.proofs.Common.{◌≡◌, take}
use Rattle.theory.specs.Lists.{listed}
use Rattle.float.specs.ResampleLinear.{linear_at}
use Rattle.float.proofs.resample_linear.resample_linear_f32.Given as goal

abbrev pub invariant-loop-i : goal.invariant-loop-i
invariant-loop-i l = take l.i l.dst ≡ listed l.i (linear_at l.src l.ratio)
