-- 02, request 6: the fields of an entry. Numbers and floats stand in it one behind the other, each as the little-endian bytes of its bits; "Floats go by their bits".
use Rattle.std.specs.Prelude.{Bool, List, [], ◌∷◌, ◌++◌, ℕ, zero, suc, ◌+◌, ◌*◌, T, eqb, ℤ, Float}
use Rattle.std.specs.Float.{binary32}
use Rattle.std.specs.Float.Ieee.{fits, to_bits, of_bits}
use Rattle.std.specs.Int.{w16, w32}
use Rattle.std.proofs.Common.{to_z, of_z}
use Rattle.sheet.specs.Sheet.{le16, le32, bytes16, bytes32, every}

-- a value's bytes
abbrev pub i16_bytes : ℤ → List ℕ
i16_bytes x = bytes16 (of_z w16 x)

abbrev pub i32_bytes : ℤ → List ℕ
i32_bytes x = bytes32 (of_z w32 x)

abbrev pub f32_bytes : Float → List ℕ
f32_bytes x = bytes32 (to_bits binary32 x)

-- values one behind the other
unfoldable pub joined : {A : Type 0} → (A → List ℕ) → List A → List ℕ
joined bytes [] = []
joined bytes (x ∷ xs) = bytes x ++ joined bytes xs

-- the value that stands at a place
abbrev pub i16_at : List ℕ → ℕ → ℤ
i16_at b at = to_z w16 (le16 b at)

abbrev pub i32_at : List ℕ → ℕ → ℤ
i32_at b at = to_z w32 (le32 b at)

abbrev pub f32_at : List ℕ → ℕ → Float
f32_at b at = of_bits binary32 (le32 b at)

-- n values of w bytes each, from a place on
unfoldable pub values_at : {A : Type 0} → (List ℕ → ℕ → A) → ℕ → List ℕ → ℕ → ℕ → List A
values_at read w b at zero = []
values_at read w b at (suc n) = read b at ∷ values_at read w b (at + w) n

-- whether a word is one that parking writes for a float: all but the NaNs that are not the one that it writes
abbrev pub is_float : ℕ → Bool
is_float n = eqb (to_bits binary32 (of_bits binary32 n)) n

-- n of them, from a place on
unfoldable pub floats_at : List ℕ → ℕ → ℕ → Bool
floats_at b at n = every n (λ i. is_float (le32 b (at + 4 * i)))

-- what holds of every element
abbrev pub All : {A : Type 0} → (A → Type 0) → List A → Type 0
All P [] = Unit {0}
All P (x ∷ xs) = P x × All P xs

-- a value that an f32 has
abbrev pub IsFloat : Float → Type 0
IsFloat x = T (fits binary32 x)
