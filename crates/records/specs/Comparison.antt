-- What a comparison of answers with a record's words comes to. A comparison stands at a place; the record agrees where it ends at the last word.
use Rattle.std.specs.Prelude.{ℕ, ◌≡◌, ◌≤◌, ◌<◌, ◌+◌, ◌*◌, ◌/◌, ◌%◌, Bool, cond, drop, get_or, IsFalse, IsTrue, List, length, ℤ, ◌==◌, from_bits, nat_lt, slice_index, to_bits, Float}
use Rattle.std.specs.Int.{Width}
use Rattle.std.proofs.Common.{of_z}
use Rattle.std.specs.Float.{binary32, nan}
use Rattle.std.specs.Float.Ieee.{eq}

-- where it stands once a word differed: past the end of every record
abbrev pub lost : ℕ
lost = 18446744073709551615

-- the word at a place, 0 past the end
abbrev pub word_at : List ℕ → ℕ → ℕ
word_at w at = slice_index w at

-- the i-th word of a slice that a record lends: one of those listed, or else the pattern with i times the stride
abbrev pub lent_word : ℕ → ℕ → List ℕ → ℕ → ℕ
lent_word pattern stride listed i = get_or listed i ((pattern + stride * (i % 4294967296)) % 4294967296)

-- the f32 whose bits n is; a NaN's bits all give one NaN
unfoldable pub float_of : ℕ → Float
float_of n = cond (nat_lt 2139095040 (n % 2147483648)) nan (from_bits binary32 n)

-- an f32's bits, those of every NaN being one
unfoldable pub bits_of : Float → ℕ
bits_of x = cond (eq x x) (to_bits binary32 x) 2143289344

-- after x: at the next word where this one is x, else lost
unfoldable pub after : List ℕ → ℕ → ℕ → ℕ
after w at x = cond (nat_lt at (length w)) (cond (word_at w at == x) (at + 1) lost) lost

-- whether two numbers have the same two's complement of so many bits
abbrev pub same_bits : Width → ℤ → ℤ → Bool
same_bits w a b = of_z w a == of_z w b

-- after a word that was tested already: at the next where it passed, else lost
unfoldable pub after_if : Bool → List ℕ → ℕ → ℕ
after_if passed w at = cond passed (after w at (word_at w at)) lost

-- after a number of 64 bits: the low word, then the high one
abbrev pub after_long : List ℕ → ℕ → ℕ → ℕ
after_long w at x = after w (after w at (x % 4294967296)) (x / 4294967296)

-- a comparison of the words that are left, whose place is to be `place`: it says whether they agree, and where they do goes on from there
pub record Compares (agrees : Bool) (old new : List ℕ) (place : ℕ) : Type 0 where
  pub past : length old < lost
  pub differs : IsFalse agrees → place ≡ lost
  pub within : IsTrue agrees → place ≤ length old
  pub left : IsTrue agrees → new ≡ drop place old
