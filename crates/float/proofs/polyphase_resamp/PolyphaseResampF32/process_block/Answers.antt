-- `process_block` meets its contract: it is the setting's on the state's own numbers and arrays, and the claims follow from its two equations (`block_kept`).
use Rattle.float.proofs.PolyphaseCalls.{block_kept}
use Rattle.float.proofs.polyphase_resamp.PolyphaseResampF32.process_block.Goals as goal

pub returns-clause-kept : goal.returns-clause-kept
returns-clause-kept c = let a = c.args in block_kept a.self.now a.src.now a.dst.now _ _ (rw c.setting-setting.ensures at c.block.ensures.answer) (rw c.setting-setting.ensures at c.block.ensures.span)
