-- 01, section 4: "The bits divided by 32768.0, exact".
use Rattle.std.specs.Prelude.{suc, true, false, ℤ, pos, negsuc, from_bits, Float}
use Rattle.std.specs.Float.{binary32}
use Rattle.std.specs.Float.Ieee.{of_int, div}
use Rattle.std.specs.Float.Ieee.Exact.{HasValue}

-- the bits divided by 32768.0, in f32
unfoldable pub level : ℤ → Float
level z = div binary32 (of_int binary32 z) (from_bits binary32 0x4700_0000)

-- exact: the float is the number of 1/32768ths itself, 0 without a sign. `HasValue x s a c` says that x is finite, has the sign s, and is a / c in size
abbrev pub IsLevel : ℤ → Float → Type 0
IsLevel (pos n) x = HasValue x false n 32768
IsLevel (negsuc n) x = HasValue x true (suc n) 32768
