-- The stages passed are ones that parking writes.
use Rattle.std.proofs.Common.{◌≡◌, true}
use Rattle.parking.specs.Entries.{stages_written}
use Rattle.taking_up.proofs.parked.Parked.stages_written.Given as goal

abbrev pub invariant-loop-k : goal.invariant-loop-k
invariant-loop-k l = stages_written l.self.e.half_band.now l.k ≡ true
