-- What rounding each product down takes from a sum of T products is 0 to 32767 × T 32768ths: 0 to 32767 for each, added up.
use mathlib.Core.Path.{◌≡◌}
use mathlib.Core.List.{List}
use Prim.Native.Nat.{ℕ, zero, suc, ◌+◌, ◌*◌, ◌≤◌}
use native.Mathlib.Omega.{arith}
use lib.IntN.{ℤ, pos, ◌-ℤ◌, ◌*ℤ◌}
use lib.ListN.{length}
use lib.Signed.{◌≤ℤ◌}
use Rattle.theory.proofs.Integers.{up, dn, add_is, sub_is_ℤ, mul_is, le_of, floor}
use Rattle.q15.specs.Fixed.{floored_product, at}
use Rattle.q15.specs.FirSum.{sum, fir_sum}
use Rattle.q15.specs.Rounding.{rounded_off, Rounded}

-- 32768 y ≤ x ≤ 32768 y + n, as `omega` reads it
abbrev Off : ℕ → ℤ → ℤ → Type 0
Off n x y = (32768 * up y + dn x ≤ up x + 32768 * dn y) × (up x + 32768 * dn y ≤ 32768 * up y + dn x + n)

one_product : (s c : ℤ) → Off 32767 (s *ℤ c) (floored_product s c)
unfolding floored_product
one_product s c = let f = floor (s *ℤ c) 32768 (omega arith) in (omega (arith, f.is, f.below), omega (arith, f.is, f.below))

all_products : (n : ℕ) (f g : ℕ → ℤ) → ((t : ℕ) → Off 32767 (f t) (g t)) → Off (32767 * n) (sum n f) (sum n g)
all_products zero f g h = (omega arith, omega arith)
all_products (suc n) f g h =
    let a = all_products n f g h in
    let b = h n in
    (omega (arith, add_is (sum n f) (f n), add_is (sum n g) (g n)), omega (arith, add_is (sum n f) (f n), add_is (sum n g) (g n)))

times : (y : ℤ) → up (pos 32768 *ℤ y) + 32768 * dn y ≡ 32768 * up y + dn (pos 32768 *ℤ y)
times y = omega (arith, mul_is (pos 32768) y)

window_rounded : (c : List ℤ) (T : ℕ) (s : List ℤ) (from : ℕ) → (pos 0 ≤ℤ rounded_off c T s from) × (rounded_off c T s from ≤ℤ pos (32767 * T))
unfolding fir_sum
window_rounded c T s from =
    let x = sum T (λ t. at s (from + t) *ℤ at c t) in
    let y = sum T (λ t. floored_product (at s (from + t)) (at c t)) in
    let o = all_products T (λ t. at s (from + t) *ℤ at c t) (λ t. floored_product (at s (from + t)) (at c t)) (λ t. one_product (at s (from + t)) (at c t)) in
    let d = sub_is_ℤ x (pos 32768 *ℤ y) in
    let m = times y in
    (le_of (pos 0) (x -ℤ pos 32768 *ℤ y) (omega (arith, o.0, d, m)), le_of (x -ℤ pos 32768 *ℤ y) (pos (32767 * T)) (omega (arith, o.1, d, m)))

pub rounded : (c : List ℤ) (D : ℕ) (s : List ℤ) → Rounded c D s
rounded c D s i = window_rounded c (length c) s (i * D)
