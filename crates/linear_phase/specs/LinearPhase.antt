-- 02, §2, `linear_phase_fir!` with f32 samples: M taps c, of even or odd length, symmetric or antisymmetric, and what a whole list v of samples becomes.
-- "The sums are stated for the four kinds through two parameters."
use Rattle.std.specs.Prelude.{Bool, cond, ◌&&◌, not, List, ℕ, zero, suc, ◌+◌, ◌-◌, ◌*◌, length, get_or, Float}
use Rattle.std.specs.Float.{nan, binary32}
use Rattle.std.specs.Float.Ieee.{add, sub, mul}
use Rattle.theory.specs.Lists.{listed}
use Rattle.float.specs.F32.{zero32}
use Rattle.half_band.specs.HalfBand.{earlier}

-- "The state is the last 2M−1 samples, 2M for odd": the Rust's LEN
unfoldable pub reach : Bool → ℕ → ℕ
reach odd M = cond odd (2 * M) (2 * M - 1)

-- "(new ± old)": − where the filter is antisymmetric
unfoldable pub pair : Bool → Float → Float → Float
pair antisymmetric new old = cond antisymmetric (sub binary32 new old) (add binary32 new old)

-- "Output n, from 0.0, adds (new ± old) × c[t] for t up from the outermost pair, old being the earlier sample": after so many pairs. New is v[n−t], old v[n−LEN+t]
unfoldable pub phase_acc : Bool → Bool → List Float → List Float → ℕ → ℕ → Float
phase_acc odd antisymmetric c v n zero = zero32
phase_acc odd antisymmetric c v n (suc t) =
    add binary32 (phase_acc odd antisymmetric c v n t) (mul binary32 (pair antisymmetric (earlier v n t) (earlier v (n + t) (reach odd (length c)))) (get_or c t nan))

-- "odd symmetric adds the centre sample last", v[n−M]; odd antisymmetric has a centre tap of zero, which adds nothing
unfoldable pub phase_output : Bool → Bool → List Float → List Float → ℕ → Float
phase_output odd antisymmetric c v n =
    cond (odd && not antisymmetric)
    (add binary32 (phase_acc odd antisymmetric c v n (length c)) (earlier v n (length c)))
    (phase_acc odd antisymmetric c v n (length c))

unfoldable pub phase_filtered : Bool → Bool → List Float → List Float → List Float
phase_filtered odd antisymmetric c v = listed (length v) (phase_output odd antisymmetric c v)
