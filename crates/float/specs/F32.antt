-- f32 values and operations that several places of 01 name.
use Rattle.std.specs.Prelude.{Bool, ◌&&◌, from_bits, Float}
use Rattle.std.specs.Float.{binary32}
use Rattle.std.specs.Float.Ieee.{add, sub, mul, lt, le}

-- 0.0 and 1.0
abbrev pub zero32 : Float
zero32 = from_bits binary32 0

abbrev pub one32 : Float
one32 = from_bits binary32 0x3f80_0000

-- the largest f32: what is above it is infinite
abbrev pub largest32 : Float
largest32 = from_bits binary32 0x7f7f_ffff

-- refusals 9 and 14, "not above zero or not finite": an f32 is finite where it is at most the largest (`above_zero_is`), and a NaN compares with nothing
unfoldable pub above_zero : Float → Bool
above_zero x = lt zero32 x && le x largest32

-- "y0 × (1.0 − f) + y1 × f"
abbrev pub blend : Float → Float → Float → Float
blend y0 y1 f = add binary32 (mul binary32 y0 (sub binary32 one32 f)) (mul binary32 y1 f)
