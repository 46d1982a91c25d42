-- A shift of an i32 by 31 or more leaves its sign, so bits past 31 shift no further.
use Rattle.std.proofs.Common.{◌≡◌, ℕ, ◌/◌, ◌^◌, ◌<◌, ◌≤◌, min, ℤ, pos, negsuc, sym, ap, ◌∙◌, lt_of_lt_of_le, lt_of_le_of_lt, arith, pow_mono, w32, SFits}
use native.Mathlib.Nat.{div-eq_of_lt, min-eq_left, min-eq_right}
use native.Mathlib.Decide.{dec_le}
use lib.Signed.{shr_z, mag_shr}

pub shifted_fits : (y : ℤ) (m : ℕ) → SFits w32 y → SFits w32 (shr_z y m)
shifted_fits y m f = record { sfits = lt_of_le_of_lt (mag_shr y m) f.sfits }

gone : (n b : ℕ) → n < 2 ^ 31 → 31 ≤ b → n / 2 ^ b ≡ 0
gone n b h l = div-eq_of_lt (lt_of_lt_of_le h (pow_mono l))

no_further : (y : ℤ) (b : ℕ) → SFits w32 y → 31 ≤ b → shr_z y (2 ^ 31) ≡ shr_z y (2 ^ b)
no_further (pos n) b f l = ap pos (gone n 31 f.sfits (omega arith) ∙ sym (gone n b f.sfits l))
no_further (negsuc n) b f l = ap negsuc (gone n 31 f.sfits (omega arith) ∙ sym (gone n b f.sfits l))

pub held_shift : (y : ℤ) (b : ℕ) → SFits w32 y → shr_z y (2 ^ min b 31) ≡ shr_z y (2 ^ b)
held_shift y b f = go (dec_le b 31)
  where
    go : Dec (b ≤ 31) → shr_z y (2 ^ min b 31) ≡ shr_z y (2 ^ b)
    go (yes h) = ap (λ k. shr_z y (2 ^ k)) (min-eq_left h)
    go (no h) = let l : 31 ≤ b = omega arith in ap (λ k. shr_z y (2 ^ k)) (min-eq_right l) ∙ no_further y b f l
