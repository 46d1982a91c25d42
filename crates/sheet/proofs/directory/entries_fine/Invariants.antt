-- The entries passed are fine, and what is kept of them is what the next one is asked.
use Rattle.sheet.proofs.Passing.{Kept}
use Rattle.sheet.proofs.directory.entries_fine.Given as goal

abbrev pub invariant-loop-k : goal.invariant-loop-k
invariant-loop-k l = Kept l.first l.bytes l.n l.k l.passed.last l.passed.full l.passed.end
