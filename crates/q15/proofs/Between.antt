-- A floored part of a difference lies between zero and the difference, so that a value between two samples fits where they do.
use mathlib.Core.Path.{◌≡◌}
use mathlib.Core.Bool.{true}
use Prim.Native.Nat.{ℕ, ◌+◌, ◌*◌, ◌^◌, ◌≤◌, ◌<◌}
use native.Mathlib.Nat.{mul-le-mul_left}
use native.Mathlib.Omega.{arith}
use lib.Dec.{T, lit<}
use lib.IntN.{ℤ, pos, negsuc, nat_abs, ◌*ℤ◌, ◌+ℤ◌, ◌-ℤ◌}
use lib.Signed.{lt_z, non_neg}
use mir.Syntax.{w16, w32, w64}
use mir.Val.{SFits, Fits}
use Rattle.theory.proofs.Integers.{up, dn, fits_of, fits_is, mul_is, add_is, sub_is_ℤ, floor, lt_true}
use Rattle.q15.specs.ResampleLinear.{part_of, between}

module _ (d : ℤ) (frac : ℕ) (l : frac < 65536) where
  part_within : (up (part_of d frac) ≤ up d + dn (part_of d frac)) × (dn (part_of d frac) ≤ dn d + up (part_of d frac))
  unfolding part_of
  part_within =
      let f = floor (d *ℤ pos frac) 65536 (lit< tt) in
      let m = mul_is d (pos frac) in
      let a : up d * frac ≤ up d * 65536 = mul-le-mul_left (up d) (omega arith) in
      let b : dn d * frac ≤ dn d * 65536 = mul-le-mul_left (dn d) (omega arith) in
      let u = f.is in
      let v = f.below in
      (omega arith, omega arith)

module _ (a b : ℤ) (f : SFits w16 a) (g : SFits w16 b) where
  pub between_fits : (frac : ℕ) → frac < 65536 → SFits w16 (between a b frac)
  unfolding between
  between_fits frac l = go (b -ℤ a) (sub_is_ℤ b a)
    where
      go : (d : ℤ) → up d + (dn b + up a) ≡ (up b + dn a) + dn d → SFits w16 (a +ℤ part_of d frac)
      go (pos e) h = fits_of (a +ℤ part_of (pos e) frac) (omega (arith, part_within (pos e) frac l, add_is a (part_of (pos e) frac), fits_is a f, fits_is b g, h))
      go (negsuc e) h = fits_of (a +ℤ part_of (negsuc e) frac) (omega (arith, part_within (negsuc e) frac l, add_is a (part_of (negsuc e) frac), fits_is a f, fits_is b g, h))

-- a ratio above zero as an unsigned number
pub ratio_fits : (z : ℤ) → SFits w32 z → lt_z (pos 0) z ≡ true → (T (non_neg z) × Fits w64 (nat_abs z)) × (nat_abs z < 2 ^ 31)
ratio_fits (pos n) f e = ((tt, record { fits = omega (arith, f.sfits) }), f.sfits)
ratio_fits (negsuc n) f e = let h = lt_true (pos 0) (negsuc n) e in absurd (omega arith)
