-- `push` meets its contract: it is the setting's on the state's own numbers and arrays, and the claims follow from its two equations (`push_kept`).
use Rattle.float.proofs.PolyphaseCalls.{push_kept}
use Rattle.float.proofs.polyphase_resamp.PolyphaseResampF32.push.Goals as goal

pub returns-clause-kept : goal.returns-clause-kept
returns-clause-kept c = let a = c.args in push_kept a.self.now a.x a.out.now _ _ (rw c.setting-setting.ensures at c.push.ensures.answer) (rw c.setting-setting.ensures at c.push.ensures.span)
