-- The gain bits are the least b with 2^b no less than the gain, for every gain up to 2^64: the search passes only what is too small.
use Rattle.std.proofs.Common.{◌≡◌, ℕ, zero, suc, ◌+◌, ◌-◌, ◌*◌, ◌^◌, ◌<◌, ◌≤◌, pow-suc, arith, pow_mono, below_more, le-leb}
use Rattle.std.specs.Int.Count.{count_leading_zeros, leading_of_zero}
use Rattle.std.proofs.lemmas.Nat.{leading_length}
use native.Mathlib.Decide.{dec_le}
use borrow.Author.Tests.{lt-leb}
use Rattle.integer.specs.Gain.{gain_of, gain_bits, bits_from, bits_of, Least}

-- it is the least: whatever is below does not reach g, and it does, unless it is 64
bits_least' : (fuel b g : ℕ) → ((k : ℕ) → k < b → 2 ^ k < g) → (k : ℕ) → k < bits_from fuel b g → 2 ^ k < g
bits_least' zero b g below = below
bits_least' (suc fuel) b g below = go (λ h. bits_least' fuel (b + 1) g (below_more (λ k. 2 ^ k < g) b below h)) (dec_le g (2 ^ b))
  where
    go : (2 ^ b < g → (k : ℕ) → k < bits_from fuel (b + 1) g → 2 ^ k < g) → Dec (g ≤ 2 ^ b) → (k : ℕ) → k < bits_from (suc fuel) b g → 2 ^ k < g
    go rec (yes l) = rw (le-leb g (2 ^ b) l) below
    go rec (no f) = let h : 2 ^ b < g = omega arith in rw (lt-leb g (2 ^ b) h) (rec h)

pub bits_least : (g k : ℕ) → k < bits_of g → 2 ^ k < g
unfolding bits_of
bits_least g = bits_least' 64 0 g (λ k h. absurd (omega arith))

bits_reach' : (fuel b g : ℕ) → g ≤ 2 ^ (b + fuel) → g ≤ 2 ^ bits_from fuel b g
bits_reach' zero b g h = let e : b + 0 ≡ b = omega arith in rw e at h
bits_reach' (suc fuel) b g h = go (bits_reach' fuel (b + 1) g (let e : b + suc fuel ≡ b + 1 + fuel = omega arith in rw e at h)) (dec_le g (2 ^ b))
  where
    go : g ≤ 2 ^ bits_from fuel (b + 1) g → Dec (g ≤ 2 ^ b) → g ≤ 2 ^ bits_from (suc fuel) b g
    go rec (yes l) = rw (le-leb g (2 ^ b) l) l
    go rec (no f) = let h : 2 ^ b < g = omega arith in rw (lt-leb g (2 ^ b) h) rec

pub bits_reach : (g : ℕ) → g ≤ 2 ^ 64 → g ≤ 2 ^ bits_of g
unfolding bits_of
bits_reach g h = bits_reach' 64 0 g h

-- no other b reaches g without being twice as far as need be
pub bits_only : (g b : ℕ) → g ≤ 2 ^ 64 → g ≤ 2 ^ b → 2 ^ b < 2 * g → b ≡ bits_of g
bits_only g b h reached near = go (dec_le b (bits_of g)) (dec_le (bits_of g) b)
  where
    go : Dec (b ≤ bits_of g) → Dec (bits_of g ≤ b) → b ≡ bits_of g
    go (yes l) (yes u) = omega arith
    go (yes l) (no u) = let e : 2 ^ b < g = bits_least g b (omega arith) in absurd (omega arith)
    go (no l) u =
        let p : 2 ^ suc (bits_of g) ≤ 2 ^ b = pow_mono (let q : suc (bits_of g) ≤ b = omega arith in q) in
        let e : g ≤ 2 ^ bits_of g = bits_reach g h in
        absurd (omega (arith, pow-suc 2 (bits_of g)))

pub gain_least : (n r : ℕ) → Least (gain_of n r) (gain_bits n r)
gain_least n r = record { reaches = bits_reach (gain_of n r) (omega arith); least = bits_least (gain_of n r) }

-- they are the length of g - 1 in bits, so 0 of no gain
pub bits_length : (g : ℕ) → g < 2 ^ 64 → 64 - count_leading_zeros 64 (g - 1) ≡ bits_of g
unfolding bits_of
bits_length zero h = rw (leading_of_zero 64)
bits_length (suc k) h =
    let l = leading_length 64 (suc k - 1) (omega arith) in
    omega (arith, l.1, bits_only (suc k) l.0 (omega arith) (omega (arith, l.2)) (omega (arith, l.3)))
