-- `sums::cut_sums`: before turn i the first i sums stand in front of the span, scaled and cut, and the count is of those that were cut.
use Rattle.std.proofs.Common.{◌^◌, length}
use Rattle.theory.specs.Floor.{floor_div}
use Rattle.q15.specs.Fixed.{at}
use Rattle.q15.proofs.CutFilling.{CutFilled}
use Rattle.chain.proofs.sums.cut_sums.Given as goal

abbrev pub invariant-loop-i : goal.invariant-loop-i
invariant-loop-i l = CutFilled (λ k. floor_div (at l.sums k) (2 ^ l.bits)) l.initial.dst (length l.sums) l.dst l.i l.cuts
