-- The half-band filters with a state, a window of the last samples: 4M of them for the decimator, 2M for the interpolator. `proofs/WholeLists.antt` shows
-- that from a window of zeros they make what 01 says of the whole list.
use Rattle.std.specs.Prelude.{List, [], ◌∷◌, ◌++◌, ℕ, zero, suc, ◌-◌, ◌*◌, length, get_or, take, drop, Float, Some}
use Rattle.std.specs.Float.{nan, binary32}
use Rattle.std.specs.Float.Ieee.{add, mul}
use Rattle.theory.specs.Sections.{Section}
use Rattle.half_band.specs.HalfBand.{half32}
use Rattle.float.specs.F32.{zero32}

-- the window after the samples p: as many of the oldest fall out
unfoldable pub slid : List Float → List Float → List Float
slid w p = drop (length p) w ++ p

-- from acc, tap × (sum of two places as far from the window's two ends), in steps of s, for so many taps
unfoldable pub folded : ℕ → List Float → List Float → Float → ℕ → Float
folded s c w acc zero = acc
folded s c w acc (suc t) = add binary32 (folded s c w acc t) (mul binary32 (get_or c t nan) (add binary32 (get_or w (s * t) nan) (get_or w (length w - s - s * t) nan)))

-- the decimator's output at a window
unfoldable pub dec_value : List Float → List Float → Float
dec_value c w = mul binary32 half32 (folded 2 c w (get_or w (2 * length c - 1) nan) (length c))

-- the interpolator's
unfoldable pub int_value : List Float → List Float → Float × Float
int_value c w = (get_or w (length c) nan, folded 1 c w zero32 (length c))

-- samples two by two, an odd last one left out
abbrev pub pairs : {A : Type 0} → List A → List (A × A)
pairs [] = []
pairs (a ∷ []) = []
pairs (a ∷ b ∷ w) = (a, b) ∷ pairs w

-- a window that takes samples and makes two outputs of each
unfoldable pub interpolator : List Float → Section (List Float) Float (Float × Float)
interpolator c = record { next = λ w x. slid w (x ∷ []); out = λ w x. Some (int_value c (slid w (x ∷ []))) }

-- the list d with w in place of the n places from `from` on
abbrev pub spliced : ℕ → ℕ → List Float → List Float → List Float
spliced from n w d = take from d ++ (w ++ drop n (drop from d))
