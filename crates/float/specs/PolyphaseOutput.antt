-- 01, section 5: one output of the resampler at mu, with P phases, T taps, the delay d and the prototype h, in the order of its operations, each rounded
-- once. 02, §5, adds the setting: wrapped phase reads the prototype as 01 says, straight phase has that paragraph as its definition.
use Rattle.std.specs.Prelude.{ℕ, zero, suc, ◌+◌, ◌*◌, ◌%◌, Bool, cond, List, pos, nat_lt, slice_index_or, Float}
use Rattle.std.specs.Float.{nan, binary32}
use Rattle.std.specs.Float.Ieee.{of_int, to_unsigned, add, sub, mul, lt}
use Rattle.float.specs.F32.{zero32, one32, blend}

-- "tap t of phase p at t × P + p": the reading of the prototype in wrapped phase
unfoldable pub tap : List Float → ℕ → ℕ → ℕ → Float
tap h P p t = slice_index_or h (t * P + p) nan

-- "reads the packed prototype at t × P + p and t × P + p + 1, zero past its end": its end is P × T, whatever lies behind it
unfoldable pub straight_tap : List Float → ℕ → ℕ → ℕ → ℕ → Float
straight_tap h P T p t = cond (nat_lt (t * P + p) (P * T)) (slice_index_or h (t * P + p) nan) zero32

-- by the setting: tap t from place p on
unfoldable pub reading : Bool → List Float → ℕ → ℕ → ℕ → ℕ → Float
reading straight h P T p = cond straight (straight_tap h P T p) (tap h P p)

-- "mu cut to 0..1"; a NaN stays one
unfoldable pub cut_unit : Float → Float
cut_unit x = cond (lt x zero32) zero32 (cond (lt one32 x) one32 x)

-- "q = (1.0 − mu cut to 0..1) × P"
unfoldable pub phase_position : ℕ → Float → Float
phase_position P mu = mul binary32 (sub binary32 one32 (cut_unit mu)) (of_int binary32 (pos P))

-- "p0 = floor(q) modulo P"
unfoldable pub phase0 : ℕ → Float → ℕ
phase0 P q = to_unsigned 64 q % P

-- "p1 = (p0+1) modulo P"
unfoldable pub phase1 : ℕ → ℕ → ℕ
phase1 P p0 = (p0 + 1) % P

-- by the setting: straight phase has "p = floor(q) unreduced", and p + 1 after it
unfoldable pub first_place : Bool → ℕ → Float → ℕ
first_place straight P q = cond straight (to_unsigned 64 q) (phase0 P q)

unfoldable pub second_place : Bool → ℕ → ℕ → ℕ
second_place straight P p = cond straight (p + 1) (phase1 P p)

-- "f = q − p0", in wrapped phase P where q = P; "f = q − p" in straight phase, below 1
unfoldable pub fraction : Float → ℕ → Float
fraction q p = sub binary32 q (of_int binary32 (pos p))

-- "y0 and y1 add tap × delay from 0.0 for t = 0 up": the first t taps, as they are read
unfoldable pub phase_sum : (ℕ → Float) → List Float → ℕ → Float
phase_sum taps d zero = zero32
phase_sum taps d (suc t) = add binary32 (phase_sum taps d t) (mul binary32 (taps t) (slice_index_or d t nan))

-- "the result is y0 × (1.0 − f) + y1 × f"
unfoldable pub output : Bool → ℕ → ℕ → Float → List Float → List Float → Float
output straight P T mu d h =
    let q = phase_position P mu in
    let p = first_place straight P q in
    blend (phase_sum (reading straight h P T p) d T) (phase_sum (reading straight h P T (second_place straight P p)) d T) (fraction q p)
