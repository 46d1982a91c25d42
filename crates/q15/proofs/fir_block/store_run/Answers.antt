-- `fir_block::store_run` meets its contract: samples stored one after the other stand in a row.
use Rattle.std.proofs.Common.{arith, rules}
use Rattle.q15.proofs.FirBlocks.{copied_run}
use Rattle.q15.proofs.fir_block.store_run.Goals as goal

pub returns : goal.returns
returns c =
    copied_run c.args.t c.args.wait _ c.args.src.now _ c.args.delay.now c.requires.0 (search rules) c.requires.2 c.copy_from_slice.ensures.after (omega arith)
