-- The stages passed are read.
use Rattle.std.proofs.Common.{◌≡◌}
use Rattle.parking.specs.Entries.{counts_from, held_from, delays_from}
use Rattle.taking_up.proofs.parked.Parked.read_half_band.Given as goal

abbrev pub invariant-loop-k : goal.invariant-loop-k
invariant-loop-k l = record { counts : l.counts ≡ counts_from l.self.e.half_band.now l.k; held : l.held ≡ held_from l.self.e.half_band.now l.k; delays : l.delays ≡ delays_from l.self.e.half_band.now l.k }
