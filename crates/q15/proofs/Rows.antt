-- The table's rows for blocks: what holds of a block to which none applies.
use mathlib.Core.Path.{◌≡◌, refl}
use mathlib.Core.Bool.{Bool, true, false, cond}
use Prim.Native.Nat.{ℕ, suc, ◌%◌, ◌<◌}
use native.Mathlib.Omega.{arith}
use borrow.Author.Tests.{eqb-true}
use lib.Dec.{eqb}
use lib.IntN.{ℤ, pos}
use lib.Signed.{lt_z}
use Rattle.refusal.proofs.Limits.{Between, within, Lengths, lengths_fine_lem, first_none}
use Rattle.q15.specs.PolyphaseInterpolate.{interpolate_number}
use Rattle.q15.specs.ResampleLinear.{linear_number}
use Rattle.refusal.specs.Rows.{outside, most_block, samples_refused}
use Rattle.q15.specs.Block.{most_factor, samples_number, fir_number, block_number}

-- row q does not apply, nor do those below it
passed : (b : Bool) (q rest : ℕ) → cond b (suc q) rest ≡ 0 → (b ≡ false) × (rest ≡ 0)
passed true q rest e = absurd (omega (arith, e))
passed false q rest e = (refl, e)

-- a block to which none of rows 5 to 7 applies
pub record BlockIn (D T n m : ℕ) : Type 0 where
  pub factor : Between 1 D most_factor
  pub taps : Between 1 T most_block
  pub rest : Lengths n m

samples_in : (n m : ℕ) → samples_number n m ≡ 0 → Lengths n m
unfolding samples_number
samples_in n m e = lengths_fine_lem n m (passed (samples_refused n m) 6 0 e).0

-- settings to which neither of rows 5 and 6 applies
pub fir_in : (most D T : ℕ) → fir_number most D T ≡ 0 → Between 1 D most_factor × Between 1 T most
unfolding fir_number
fir_in most D T e =
    let a = passed (outside D 1 most_factor) 4 (cond (outside T 1 most) 6 0) e in
    let b = passed (outside T 1 most) 5 0 a.1 in
    (within D 1 most_factor a.0, within T 1 most b.0)

pub block_in : (D T n m : ℕ) → block_number D T n m ≡ 0 → BlockIn D T n m
unfolding block_number
block_in D T n m e =
    let a = first_none (fir_number most_block D T) (samples_number n m) e in
    let b = fir_in most_block D T a.0 in
    record { factor = b.0; taps = b.1; rest = samples_in n m a.1 }

pub factor_some : (D T n m : ℕ) → block_number D T n m ≡ 0 → 0 < D
factor_some D T n m e = let b = block_in D T n m e in b.factor.least

kept : (b : Bool) (q : ℕ) → cond b 0 (suc q) ≡ 0 → b ≡ true
kept true q e = refl
kept false q e = absurd (omega (arith, e))

-- rows 8 and 9
pub interpolate_in : (L T n m : ℕ) → interpolate_number L T n m ≡ 0 → BlockIn L T n m × (T % L ≡ 0)
unfolding interpolate_number
interpolate_in L T n m e =
    let a = first_none (block_number L T n m) (cond (eqb (T % L) 0) 0 8) e in
    (block_in L T n m a.0, eqb-true (T % L) 0 (kept (eqb (T % L) 0) 7 a.1))

pub linear_in : (n m : ℕ) (ratio : ℤ) → linear_number n m ratio ≡ 0 → Lengths n m × (lt_z (pos 0) ratio ≡ true)
unfolding linear_number
linear_in n m ratio e =
    let a = first_none (samples_number n m) (cond (lt_z (pos 0) ratio) 0 9) e in
    (samples_in n m a.0, kept (lt_z (pos 0) ratio) 8 a.1)
