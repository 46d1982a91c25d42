-- `polyphase_interpolate::interpolate`: before turn i the outputs of the first i samples stand in front of the span, or as many as it has places for, and the count
-- is of those that were cut.
use Rattle.std.proofs.Common.{◌≡◌, ℕ, ◌*◌, ◌/◌, ◌%◌, min, length}
use Rattle.q15.specs.PolyphaseInterpolate.{phase_sum}
use Rattle.q15.proofs.CutFilling.{CutFilled}
use Rattle.q15.proofs.polyphase_interpolate.interpolate.Given as goal

abbrev pub invariant-loop-i : goal.invariant-loop-i
invariant-loop-i l = record {
  filled : CutFilled (λ (j : ℕ). phase_sum l.by.coeffs.now l.by.l l.by.k l.src (j / l.by.l) (j % l.by.l)) l.initial.dst (length l.initial.dst) l.dst l.from l.cuts;
  from_is : l.from ≡ min (l.i * l.by.l) (length l.initial.dst);
}
