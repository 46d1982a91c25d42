-- Whole groups have moved, as by a loop over places (`moved`), and n places are left behind them.
use Rattle.std.proofs.Common.{◌≡◌, ◌+◌, ◌-◌, ◌≤◌, length}
use Rattle.half_band.proofs.Moving.{moved}
use Rattle.linear_phase.proofs.moves.move_groups.Given as goal

abbrev pub invariant-loop-i : goal.invariant-loop-i
invariant-loop-i l = (l.i + l.n ≤ length l.initial.delay) × (l.delay ≡ moved l.initial.delay l.n l.i)

abbrev pub decreases-loop-i : goal.decreases-loop-i
decreases-loop-i l = length l.initial.delay - l.i
