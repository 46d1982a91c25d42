-- The text of a record.
use Rattle.std.specs.Prelude.{ℕ, zero, suc, ◌+◌, ◌/◌, ◌%◌, List, [], ◌∷◌, ◌++◌, false, slice_index, ◌==◌, if◌then◌else◌}
use Rattle.std.specs.Fmt.{digit_glyph}

-- the last k hexadecimal digits of x, in lower case
abbrev pub hex_digits : ℕ → ℕ → List ℕ
hex_digits zero x = []
hex_digits (suc k) x = hex_digits k (x / 16) ++ digit_glyph false (x % 16) ∷ []

-- a word's eight digits and the byte behind them
abbrev pub word_text : ℕ → ℕ → List ℕ
word_text x behind = hex_digits 8 x ++ behind ∷ []

-- the byte behind the i-th of so many words: a blank, and after the last the line's end
abbrev pub separator_of : ℕ → ℕ → ℕ
separator_of i count = if i + 1 == count then 10 else 32

-- the first i of so many words
abbrev pub words_text : ℕ → ℕ → List ℕ → List ℕ
words_text count zero words = []
words_text count (suc i) words = words_text count i words ++ word_text (slice_index words i) (separator_of i count)

-- a record: how many words it has, and the words
abbrev pub record_text : ℕ → List ℕ → List ℕ
record_text count words = word_text count 32 ++ words_text count count words
