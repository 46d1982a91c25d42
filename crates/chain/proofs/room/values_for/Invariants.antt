-- `room::values_for`: the stages behind those that are left are counted.
use Rattle.std.proofs.Common.{min}
use Rattle.chain.proofs.Leaving.{Counted}
use Rattle.chain.proofs.room.values_for.Given as goal

abbrev pub invariant-loop-k : goal.invariant-loop-k
invariant-loop-k l = Counted (min l.depth 5) l.counts l.levels l.k l.values
