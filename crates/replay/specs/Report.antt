-- What the program says of a list.
use Rattle.std.specs.Prelude.{ℕ, ◌-◌, ◌^◌, List, [], ◌++◌, codes, decimal, false}
use Rattle.std.specs.Fmt.{digits, format_spec, padded_integral}

-- a number as eight hexadecimal digits or more, in lower case
abbrev pub eight_digits : ℕ → List ℕ
eight_digits n = padded_integral (format_spec 32 0 4 8 (2 ^ 64 - 1)) false [] (digits 16 false n)

-- how many records there were, and how many differ
abbrev pub count_text : ℕ → ℕ → List ℕ
count_text records differences = decimal records ++ codes " records, " ++ decimal differences ++ codes " differences\n"

-- which record differs first, and its operation
abbrev pub difference_text : ℕ → ℕ → List ℕ
difference_text first operation =
    codes "first difference: record " ++ (decimal first ++ codes ", operation ") ++ (eight_digits operation ++ codes "\n")
