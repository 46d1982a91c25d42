-- Where the count of cut values holds.
use Rattle.std.specs.Prelude.{ℕ}

-- 02, §4: "a count of cut values, at sections 2 and 3 of document 01 together, holding at 2^32−1"
abbrev pub most_cuts : ℕ
most_cuts = 4294967295
