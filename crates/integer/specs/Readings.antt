-- 01, "Gauge-board readings": the starred ones of section 1, as one list that the definitions satisfy.
use Rattle.std.specs.Prelude.{◌≡◌, ℕ, List, [], ◌∷◌, ℤ, pos, negsuc}
use Rattle.integer.specs.Gain.{gain_bits}
use Rattle.integer.specs.MovingSums.{sums, scaled_sums}
use Rattle.integer.specs.CicDecimator.{fresh, scaled_step}

-- a reading of N stages and factor r
pub data Reading : Type 0 where
  -- the samples give the sums
  given : ℕ → ℕ → List ℤ → List ℤ → Reading
  -- the samples give the scaled sums
  scaled : ℕ → ℕ → List ℤ → List ℤ → Reading
  -- so many gain bits
  bits : ℕ → ℕ → ℕ → Reading
  -- a scaled sample is refused by this number
  refused : ℕ → ℕ → ℕ → Reading

abbrev pub Holds : Reading → Type 0
Holds (given N r w y) = sums N r w ≡ y
Holds (scaled N r w y) = scaled_sums N r w ≡ y
Holds (bits N r g) = gain_bits N r ≡ g
Holds (refused N r n) = (x : ℤ) → (scaled_step (fresh N r) x).number ≡ n

abbrev pub AllHold : List Reading → Type 0
AllHold [] = Unit {0}
AllHold (x ∷ xs) = Holds x × AllHold xs

abbrev pub readings : List Reading
readings =
    given 1 4 (pos 1 ∷ pos 2 ∷ pos 3 ∷ pos 4 ∷ pos 5 ∷ pos 6 ∷ pos 7 ∷ pos 8 ∷ []) (pos 10 ∷ pos 26 ∷ [])
    ∷ given 2 2 (pos 1 ∷ pos 2 ∷ pos 3 ∷ pos 4 ∷ []) (pos 4 ∷ pos 12 ∷ [])
    ∷ given 1 2 (pos 2147483647 ∷ pos 1 ∷ pos 0 ∷ pos 0 ∷ []) (negsuc 2147483647 ∷ pos 0 ∷ [])
    ∷ bits 3 5 7
    ∷ bits 8 14 31
    ∷ bits 8 15 32
    ∷ refused 8 15 3
    ∷ scaled 1 3 (pos 3 ∷ pos 3 ∷ pos 3 ∷ []) (pos 2 ∷ [])
    ∷ scaled 1 2 (negsuc 0 ∷ pos 0 ∷ []) (negsuc 0 ∷ [])
    ∷ []
