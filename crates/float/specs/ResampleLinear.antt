-- 01, section 7: `resample_linear_f32` of the samples s with a ratio.
use Rattle.std.specs.Prelude.{ℕ, ◌+◌, ◌-◌, min, cond, List, length, pos, nat_le, slice_index_or, Float}
use Rattle.std.specs.Float.{nan, binary32}
use Rattle.std.specs.Float.Ieee.{of_int, to_unsigned, mul, sub}
use Rattle.theory.specs.Lists.{listed}
use Rattle.refusal.specs.Outcome.{Answer}
use Rattle.refusal.specs.Rows.{samples_refused}
use Rattle.float.specs.F32.{above_zero, blend}

-- "i × ratio rounded to f32"
unfoldable pub position : Float → ℕ → Float
position ratio i = mul binary32 (of_int binary32 (pos i)) ratio

-- "index its whole part": 2^64 − 1 from 2^64 on, which is past every end
unfoldable pub index_of : Float → ℕ
index_of p = to_unsigned 64 p

-- "past the end the last sample; else s0 × (1.0−frac) + s1 × frac, s1 the last sample where the next is missing"
unfoldable pub linear_at : List Float → Float → ℕ → Float
linear_at s ratio i =
    let p = position ratio i in
    let k = index_of p in
    cond (nat_le (length s) k) (slice_index_or s (length s - 1) nan)
    (blend (slice_index_or s k nan) (slice_index_or s (min (k + 1) (length s - 1)) nan) (sub binary32 p (of_int binary32 (pos k))))

-- 7, then 9; else the whole span o is written
unfoldable pub linear_answer : List Float → List Float → Float → Answer ℕ
linear_answer s o ratio =
    cond (samples_refused (length s) (length o)) (record { number = 7; value = 0 })
    (cond (above_zero ratio) (record { number = 0; value = length o }) (record { number = 9; value = 0 }))

unfoldable pub linear_span : List Float → List Float → Float → List Float
linear_span s o ratio = cond (samples_refused (length s) (length o)) o (cond (above_zero ratio) (listed (length o) (linear_at s ratio)) o)
