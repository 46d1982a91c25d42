-- 02, §14: "Two f32 samples now count as equal only if their bits are, all NaNs being one."
use Rattle.std.specs.Prelude.{Bool, ◌&&◌, ◌||◌, ◌==◌, is_nan, to_bits, Float}
use Rattle.std.specs.Float.{binary32}

unfoldable pub same : Float → Float → Bool
same x y = (is_nan x && is_nan y) || to_bits binary32 x == to_bits binary32 y
