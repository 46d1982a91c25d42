-- What std's `wrapping_add` and `wrapping_sub` leave in the bits of an i32 is the sum or the difference modulo 2^32: it fits, and differs from it by whole turns.
use Rattle.std.proofs.Common.{◌≡◌, ℕ, ◌+◌, ◌-◌, ◌^◌, ◌%◌, ◌<◌, ℤ, pos, ◌+ℤ◌, ◌-ℤ◌, arith, to_z-of_z, w32, SFits, to_z, of_z}
use native.Mathlib.Nat.{mod-lt}
use mir.Facts.{Fits-of_z, sfits_to_z}
use Rattle.theory.specs.Wrap.{wrap}
use Rattle.theory.proofs.Integers.{sub_is_ℤ}
use Rattle.theory.proofs.Wrap.{Cong, cong_sym, cong_trans, cong_add, cong_sub, residue_cong, to_z_cong, wrap_unique}

-- the bits of a number are congruent to it
bits_cong : (a : ℤ) → SFits w32 a → Cong (2 ^ 32) (pos (of_z w32 a)) a
bits_cong a f = cong_sym (rw (to_z-of_z f) at (to_z_cong w32 (of_z w32 a) (Fits-of_z f).fits))

-- what is left of a number that is congruent to z
left_is : (n : ℕ) (z : ℤ) → Cong (2 ^ 32) (pos n) z → to_z w32 (n % 2 ^ 32) ≡ wrap w32 z
left_is n z h =
    let some : 0 < 2 ^ 32 = omega arith in
    let below = mod-lt n some in
    wrap_unique w32 (to_z w32 (n % 2 ^ 32)) z (sfits_to_z (record { fits = below }))
    (cong_trans (to_z_cong w32 (n % 2 ^ 32) below) (cong_trans (residue_cong some (pos n)) h))

module _ (a b : ℤ) (f : SFits w32 a) (g : SFits w32 b) where
  pub wrapped_sum : to_z w32 ((of_z w32 a + of_z w32 b) % 2 ^ 32) ≡ wrap w32 (a +ℤ b)
  wrapped_sum = left_is (of_z w32 a + of_z w32 b) (a +ℤ b) (cong_add (bits_cong a f) (bits_cong b g))

  pub wrapped_difference : to_z w32 ((of_z w32 a + (2 ^ 32 - of_z w32 b)) % 2 ^ 32) ≡ wrap w32 (a -ℤ b)
  wrapped_difference =
      let m = of_z w32 a in
      let n = of_z w32 b in
      let below = (Fits-of_z g).fits in
      let turn : Cong (2 ^ 32) (pos (m + (2 ^ 32 - n))) (pos m -ℤ pos n) = record { j = 0; k = 1; eq = omega (arith, below, sub_is_ℤ (pos m) (pos n)) } in
      left_is (m + (2 ^ 32 - n)) (a -ℤ b) (cong_trans turn (cong_sub (bits_cong a f) (bits_cong b g)))
