-- The stages passed are put.
use Rattle.std.proofs.Common.{◌≡◌, take}
use Rattle.parking.specs.Entries.{stages_bytes}
use Rattle.parking.specs.Parked.{half_band_bytes}
use Rattle.parking.specs.Kept.{line_kept}
use Rattle.parking.proofs.entries.put_half_band.Given as goal

abbrev pub invariant-loop-stage : goal.invariant-loop-stage
invariant-loop-stage l = take (half_band_bytes l.stage) l.span ≡ stages_bytes (line_kept l.line.kept).half_band l.stage
