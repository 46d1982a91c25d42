-- The sum is that of the pairs passed, of which the first has the newest sample.
use Rattle.std.proofs.Common.{not, nat_eq, ◌≡◌, [], ◌∷◌, ◌++◌}
use Rattle.linear_phase.specs.Windows.{window_acc}
use Rattle.linear_phase.proofs.one.sum_of.Given as goal

abbrev pub invariant-loop-t : goal.invariant-loop-t
invariant-loop-t g l = l.acc ≡ window_acc (not (nat_eq g.row.MINUS 0)) l.taps (l.delay ++ (l.x ∷ [])) l.t
