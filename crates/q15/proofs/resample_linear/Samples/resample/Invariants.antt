-- `Samples::resample`: before each turn the outputs so far stand in front of the span.
use Rattle.std.proofs.Common.{ℕ, ◌*◌, length}
use Rattle.q15.specs.ResampleLinear.{linear_at}
use Rattle.q15.proofs.Filling.{Filled}
use Rattle.q15.proofs.resample_linear.Samples.resample.Given as goal

abbrev pub invariant-loop-i : goal.invariant-loop-i
invariant-loop-i l = Filled (λ (n : ℕ). linear_at l.self.all.now (n * l.ratio)) l.initial.dst (length l.initial.dst) l.dst l.i
