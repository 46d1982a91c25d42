-- Each sum is that of the first t pairs at its window (`sums_next`).
use Rattle.std.proofs.Common.{◌≡◌, length}
use Rattle.linear_phase.specs.inner.Lanes.{window_sums}
use Rattle.linear_phase.proofs.lanes.sums_at.Given as goal

abbrev pub invariant-loop-t : goal.invariant-loop-t
invariant-loop-t l = l.acc ≡ window_sums l.fir.kind.antisymmetric l.fir.taps.now l.long l.line (length l.initial.acc) l.t
