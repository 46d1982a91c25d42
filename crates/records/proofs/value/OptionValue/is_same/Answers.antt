-- The value stands behind the count.
use Rattle.std.proofs.Common.{refl}
use Rattle.records.proofs.Compares.{goes_on, stops, word}
use Rattle.records.specs.PlaceLaws.{after_moves, word_moves}
use Rattle.records.proofs.value.OptionValue.is_same.Goals as goal

pub returns-then-same : goal.returns-then-same
returns-then-same g c =
    rw c.in-None.is (goes_on _ _ _ _ _ _ (after_moves 0) c.if-same.true (word _ _ _ _ _ refl c.same.ensures) (word _ _ _ _ _ refl c.same-then-same.ensures))

pub returns-else-same : goal.returns-else-same
returns-else-same g c = rw c.in-None.is (stops _ _ _ _ _ (after_moves 0) c.if-same.false (word _ _ _ _ _ refl c.same.ensures))

pub returns-then-same-2 : goal.returns-then-same-2
returns-then-same-2 g c =
    rw c.in-Some.is
    (goes_on _ _ _ _ _ _ (word_moves (g.T.Element.recorded c.in-Some.x)) c.if-same-2.true (word _ _ _ _ _ refl c.same-in-Some.ensures) c.same-then-same-2.ensures)

pub returns-else-same-2 : goal.returns-else-same-2
returns-else-same-2 g c =
    rw c.in-Some.is (stops _ _ _ _ _ (word_moves (g.T.Element.recorded c.in-Some.x)) c.if-same-2.false (word _ _ _ _ _ refl c.same-in-Some.ensures))
