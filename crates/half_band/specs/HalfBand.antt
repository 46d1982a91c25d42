-- 01, section 4 and the half-band part of section 7, on a whole list v of samples: M taps c, "Samples before the start are zero", each operation rounds once.
use Rattle.std.specs.Prelude.{List, [], ◌∷◌, cond, ℕ, zero, suc, ◌+◌, ◌-◌, ◌*◌, ◌/◌, ltb, length, get_or, Float}
use Rattle.std.specs.Float.{nan, binary32}
use Rattle.std.specs.Float.Ieee.{of_bits, add, mul}
use Rattle.theory.specs.Lists.{listed}
use Rattle.float.specs.F32.{zero32}

-- 0.5
abbrev pub half32 : Float
half32 = of_bits binary32 0x3f00_0000

-- v[n − k]
unfoldable pub earlier : List Float → ℕ → ℕ → Float
earlier v n k = cond (ltb n k) zero32 (get_or v (n - k) nan)

-- "for pair j of samples v: acc begins as v[2j+1−2M]; for t = 0 to M−1 it gains c[t] × (v[2j+2−4M+2t] + v[2j−2t])": acc after so many taps
unfoldable pub dec_acc : List Float → List Float → ℕ → ℕ → Float
dec_acc c v j zero = earlier v (2 * j + 1) (2 * length c)
dec_acc c v j (suc t) =
    add binary32 (dec_acc c v j t) (mul binary32 (get_or c t nan) (add binary32 (earlier v (2 * j + 2 + 2 * t) (4 * length c)) (earlier v (2 * j) (2 * t))))

-- "the output is 0.5 × acc"
unfoldable pub dec_output : List Float → List Float → ℕ → Float
dec_output c v j = mul binary32 half32 (dec_acc c v j (length c))

-- section 6: "floor(n/2) at each half-band stage, an odd last value giving nothing"
unfoldable pub decimated : List Float → List Float → List Float
decimated c v = listed (length v / 2) (dec_output c v)

-- "even v[n−M+1]"
unfoldable pub even_output : List Float → List Float → ℕ → Float
even_output c v n = earlier v (n + 1) (length c)

-- "odd, from 0.0, gains c[t] × (v[n−2M+1+t] + v[n−t])": after so many taps
unfoldable pub odd_acc : List Float → List Float → ℕ → ℕ → Float
odd_acc c v n zero = zero32
odd_acc c v n (suc t) =
    add binary32 (odd_acc c v n t) (mul binary32 (get_or c t nan) (add binary32 (earlier v (n + 1 + t) (2 * length c)) (earlier v n t)))

unfoldable pub odd_output : List Float → List Float → ℕ → Float
odd_output c v n = odd_acc c v n (length c)

-- pairs one after the other
abbrev pub flat : {A : Type 0} → List (A × A) → List A
flat [] = []
flat (p ∷ w) = p.0 ∷ p.1 ∷ flat w

-- each sample gives an even and an odd output
unfoldable pub interpolated : List Float → List Float → List Float
interpolated c v = flat (listed (length v) (λ n. (even_output c v n, odd_output c v n)))

-- section 6: "those of each section run on the whole list of the section before": n stages from stage k on, `taps` the taps of each
unfoldable pub decimated_by : (ℕ → List Float) → ℕ → ℕ → List Float → List Float
decimated_by taps k zero v = v
decimated_by taps k (suc n) v = decimated_by taps (suc k) n (decimated (taps k) v)

unfoldable pub interpolated_by : (ℕ → List Float) → ℕ → ℕ → List Float → List Float
interpolated_by taps k zero v = v
interpolated_by taps k (suc n) v = interpolated_by taps (suc k) n (interpolated (taps k) v)
