-- The difference that wraps is the definition's.
use Rattle.std.proofs.Common.{rules}
use Rattle.integer.proofs.Wrapping.{wrapped_difference}
use Rattle.integer.proofs.stages.DifferentiatorStage.pass.Goals as goal

pub returns : goal.returns
returns c = search (rules, wrapped_difference)
