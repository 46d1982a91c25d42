-- 01: "Two f32 samples are equal when IEEE 754 compares them equal or both are NaN."
use Rattle.std.specs.Prelude.{◌≡◌, Bool, true, ◌&&◌, ◌||◌, Float}
use Rattle.std.specs.Float.Ieee.{eq, is_nan}

unfoldable pub equal : Float → Float → Bool
equal x y = eq x y || (is_nan x && is_nan y)

abbrev pub Equal : Float → Float → Type 0
Equal x y = equal x y ≡ true
