-- The block of one kind or the other, with the arrays of the other left alone.
use Rattle.nonrecursive.proofs.ThinBlock.{integrators_block, neighbours_block}
use Rattle.nonrecursive.proofs.thinning.thin_block_at.Goals as goal

pub returns-in-Integrators : goal.returns-in-Integrators
returns-in-Integrators c =
    let block = c.block_at-counts.ensures in
    let made = integrators_block _ _ _ _ _ _ _ _ c.block_at-counts.result c.unwrap_or.ensures c.in-Integrators.is block.answer block.span in
    record { counts = made.0; state = made.1.0; span = made.1.1 }

pub returns-in-Neighbours : goal.returns-in-Neighbours
returns-in-Neighbours c =
    let block = c.block_at-counts-in-Neighbours.ensures in
    let made = neighbours_block _ _ _ _ _ _ _ _ c.block_at-counts-in-Neighbours.result c.unwrap_or-in-Neighbours.ensures c.in-Neighbours.is block.answer block.span in
    record { counts = made.0; state = made.1.0; span = made.1.1 }
