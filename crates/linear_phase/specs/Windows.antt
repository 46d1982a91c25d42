-- 02, §2, with a state: "the last 2M−1 samples, 2M for odd", the oldest first.
use Rattle.std.specs.Prelude.{Bool, cond, ◌&&◌, not, List, ℕ, zero, suc, ◌-◌, length, get_or, Float}
use Rattle.std.specs.Float.{nan, binary32}
use Rattle.std.specs.Float.Ieee.{add, mul}
use Rattle.float.specs.F32.{zero32}
use Rattle.linear_phase.specs.LinearPhase.{pair}

-- the sum at a window of the state and the newest sample
unfoldable pub window_acc : Bool → List Float → List Float → ℕ → Float
window_acc antisymmetric c w zero = zero32
window_acc antisymmetric c w (suc t) =
    add binary32 (window_acc antisymmetric c w t) (mul binary32 (pair antisymmetric (get_or w (length w - 1 - t) nan) (get_or w t nan)) (get_or c t nan))

-- "odd symmetric adds the centre sample"
unfoldable pub has_centre : Bool → Bool → Bool
has_centre odd antisymmetric = odd && not antisymmetric

-- the output: the centre is added last, where there is one
unfoldable pub window_value : Bool → Bool → List Float → List Float → Float
window_value odd antisymmetric c w =
    cond (has_centre odd antisymmetric) (add binary32 (window_acc antisymmetric c w (length c)) (get_or w (length c) nan)) (window_acc antisymmetric c w (length c))
