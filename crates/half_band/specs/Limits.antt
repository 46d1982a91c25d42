-- 01, "Where each call is turned back": the limits of the half-band converters.
use Rattle.std.specs.Prelude.{ℕ}

-- half-band, 10: "M not 1..23"
abbrev pub most_half_band_taps : ℕ
most_half_band_taps = 23

-- cascade, 11: "depth over 5"
abbrev pub most_depth : ℕ
most_depth = 5
