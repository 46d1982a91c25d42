-- The high word stands behind the low one.
use Rattle.std.proofs.Common.{◌/◌, refl}
use Rattle.records.proofs.Compares.{goes_on, stops, word}
use Rattle.records.specs.PlaceLaws.{after_moves}
use Rattle.records.proofs.record.Words.same_long.Goals as goal

pub returns-then-same : goal.returns-then-same
returns-then-same c =
    goes_on _ _ _ _ _ _ (after_moves (c.args.x / 4294967296)) c.if-same.true (word _ _ _ _ _ refl c.same.ensures) (word _ _ _ _ _ refl c.same-then-same.ensures)

pub returns-else-same : goal.returns-else-same
returns-else-same c = stops _ _ _ _ _ (after_moves (c.args.x / 4294967296)) c.if-same.false (word _ _ _ _ _ refl c.same.ensures)
