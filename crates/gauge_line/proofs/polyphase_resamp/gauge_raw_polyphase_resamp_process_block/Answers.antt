-- `gauge_raw_polyphase_resamp_process_block` meets its contract: its claims follow from the equations of its answer and its span (`block_kept`).
use Rattle.std.proofs.Common.{rules}
use Rattle.float.proofs.PolyphaseCalls.{block_kept}
use Rattle.gauge_line.proofs.polyphase_resamp.gauge_raw_polyphase_resamp_process_block.Goals as goal

pub returns-clause-kept : goal.returns-clause-kept
returns-clause-kept c = block_kept _ _ _ _ _ (search rules) (search rules)
