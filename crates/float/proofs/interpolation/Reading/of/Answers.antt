-- `Reading::of` meets its contract: P and T that passed the test are inside their limits.
use Rattle.float.proofs.PolyphaseOutput.{limits_say}
use Rattle.float.proofs.interpolation.Reading.of.Goals as goal

pub invariant_of-result : goal.invariant_of-result
invariant_of-result c =
    let l = limits_say _ _ c.requires in
    record { phases_inside = (l.some_phases, l.few_phases); taps_inside = (l.some_taps, l.few_taps) }
