-- `first_place` meets its contract: a whole part before the end of the first places is one of them, and P leaves none.
use Rattle.float.proofs.PolyphaseOutput.{within_places, past_places}
use Rattle.float.proofs.interpolation.first_place.Goals as goal

pub returns-then-whole-first_places : goal.returns-then-whole-first_places
returns-then-whole-first_places c = let a = c.args in within_places a.straight a.phases a.q _ _ c.whole_part-whole.ensures c.first_places.ensures c.if-whole-first_places.true

pub returns-else-whole-first_places : goal.returns-else-whole-first_places
returns-else-whole-first_places c =
    let a = c.args in past_places a.straight a.phases a.q _ _ c.whole_part-whole.ensures c.first_places.ensures c.requires.3 c.if-whole-first_places.false
