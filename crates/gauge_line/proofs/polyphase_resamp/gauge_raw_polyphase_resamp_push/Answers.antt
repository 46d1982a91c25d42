-- `gauge_raw_polyphase_resamp_push` meets its contract: its claims follow from the equations of its answer and its span (`push_kept`).
use Rattle.std.proofs.Common.{rules}
use Rattle.float.proofs.PolyphaseCalls.{push_kept}
use Rattle.gauge_line.proofs.polyphase_resamp.gauge_raw_polyphase_resamp_push.Goals as goal

pub returns-clause-kept : goal.returns-clause-kept
returns-clause-kept c = push_kept _ _ _ _ _ (search rules) (search rules)
