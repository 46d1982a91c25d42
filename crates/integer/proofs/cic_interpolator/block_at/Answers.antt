-- A factor that is not refused is none to divide by in vain.
use Rattle.integer.proofs.Within.{accepted, interpolator_stages, interpolator_factor}
use Rattle.integer.proofs.cic_interpolator.block_at.Goals as goal

pub nonzero_div-dst : goal.nonzero_div-dst
nonzero_div-dst c = (interpolator_factor _ _ (accepted _ c.in_ok-state_answer.ensures)).0

pub invariant_of-settings : goal.invariant_of-settings
invariant_of-settings c =
    let ok = accepted _ c.in_ok-state_answer.ensures in
    record { inside = (interpolator_stages _ _ ok, interpolator_factor _ _ ok) }
