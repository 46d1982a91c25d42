-- The sum that wraps is the definition's.
use Rattle.std.proofs.Common.{rules}
use Rattle.integer.proofs.Wrapping.{wrapped_sum}
use Rattle.integer.proofs.stages.IntegratorStage.pass.Goals as goal

pub returns : goal.returns
returns c = search (rules, wrapped_sum)
