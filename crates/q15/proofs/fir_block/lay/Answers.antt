-- `fir_block::lay` meets its contract: the window's samples stand in front, and the block behind them.
use Rattle.std.proofs.Common.{arith}
use Rattle.q15.proofs.FirBlocks.{tape_laid}
use Rattle.q15.proofs.fir_block.lay.Goals as goal

pub returns : goal.returns
returns c = tape_laid c.args.delay.now _ _ _ c.args.src.now c.args.kept _ (omega arith) c.copy_from_slice.ensures.after c.copy_from_slice-2.ensures.after
