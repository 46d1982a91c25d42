-- Each output that 01 counts has its samples: a count is a quotient or a product, and an index below it stays below when it is multiplied back.
use mathlib.Core.Path.{◌≡◌, ap}
use mathlib.Core.Bool.{Bool, cond}
use Prim.Native.Nat.{ℕ, ◌+◌, ◌*◌, ◌/◌, ◌-◌, ◌≤◌, ◌<◌}
use native.Mathlib.Nat.{mul-le-mul_right, div-mul-le_self, lt_of_mul-lt-mul_right}
use native.Mathlib.Omega.{arith}
use native.Mathlib.Decide.{dec_le}
use borrow.Author.Tests.{le-leb, lt-leb}
use Rattle.q15.specs.PolyphaseDecimate.{decimated_count}
use Rattle.q15.specs.PolyphaseInterpolate.{interpolated_count}

pub decimated_in : (T D n i : ℕ) → i < decimated_count T D n → i * D + T ≤ n
decimated_in T D n i l = elim (dec_le T n) [
  | yes h ↦
      (let e : decimated_count T D n ≡ (n - T) / D + 1 = ap (λ (b : Bool). cond b ((n - T) / D + 1) 0) (le-leb T n h) in
      let m : i * D ≤ (n - T) / D * D = mul-le-mul_right D (let q : i ≤ (n - T) / D = omega (arith, e, l) in q) in
      let z : i * D + T ≤ n = omega (arith, m, div-mul-le_self (n - T) D, h) in z)
  | no h ↦
      (let e : decimated_count T D n ≡ 0 = ap (λ (b : Bool). cond b ((n - T) / D + 1) 0) (lt-leb T n (omega arith)) in
      absurd (omega (arith, e, l)))
]

pub interpolated_in : (K L n i p : ℕ) → i * L + p < interpolated_count K L n → i + K ≤ n
interpolated_in K L n i p l = elim (dec_le K n) [
  | yes h ↦
      (let e : interpolated_count K L n ≡ (n - K + 1) * L = ap (λ (b : Bool). cond b ((n - K + 1) * L) 0) (le-leb K n h) in
      let m : i < n - K + 1 = lt_of_mul-lt-mul_right L (let q : i * L < (n - K + 1) * L = omega (arith, e, l) in q) in
      let z : i + K ≤ n = omega arith in z)
  | no h ↦
      (let e : interpolated_count K L n ≡ 0 = ap (λ (b : Bool). cond b ((n - K + 1) * L) 0) (lt-leb K n (omega arith)) in
      absurd (omega (arith, e, l)))
]
