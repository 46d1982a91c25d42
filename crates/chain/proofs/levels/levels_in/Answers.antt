-- `levels::levels_in` meets its contract: a block of no more values than a tape takes is one part; else the second part goes on from what the first leaves.
use Rattle.chain.proofs.TwoParts.{two_parts}
use Rattle.chain.proofs.levels.levels_in.Goals as goal

pub returns-clause-batched : goal.returns-clause-batched
returns-clause-batched c =
    two_parts _ _ _ c.args.values.now c.min-first.result c.args.out.now c.part_in-begun.new.out c.part_in-rest.new.out _ _ c.part_in-begun.ensures.batched c.part_in-rest.ensures.batched
