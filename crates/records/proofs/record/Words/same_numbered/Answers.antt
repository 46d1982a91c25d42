-- The value stands behind the number.
use Rattle.records.proofs.Compares.{goes_on, stops, word}
use Rattle.records.proofs.record.Words.same_numbered.Goals as goal

pub returns-then-same : goal.returns-then-same
returns-then-same g c =
    goes_on _ _ _ _ _ _ (g.met.T.Value.moves c.args.value.now) c.if-same.true (word _ _ _ _ _ c.from.ensures c.same.ensures) c.is_same.ensures

pub returns-else-same : goal.returns-else-same
returns-else-same g c = stops _ _ _ _ _ (g.met.T.Value.moves c.args.value.now) c.if-same.false (word _ _ _ _ _ c.from.ensures c.same.ensures)
