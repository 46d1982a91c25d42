-- What the code of the resampler and of the half-band interpolators does with a tape; no place of 01 speaks of it.
use Rattle.std.specs.Prelude.{◌-◌, cond, List, ◌++◌, length, take, nat_lt, Float}

-- the span with the samples w at its end; a shorter span stays
unfoldable pub ending_in : List Float → List Float → List Float
ending_in w span = cond (nat_lt (length span) (length w)) span (take (length span - length w) span ++ w)
