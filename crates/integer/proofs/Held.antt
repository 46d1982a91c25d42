-- A product that is held stays right where one factor was held before: the factor that was held is already past the end.
use Rattle.std.proofs.Common.{◌≡◌, ℕ, zero, suc, ◌+◌, ◌*◌, ◌^◌, ◌≤◌, sym, ap, ◌∙◌, mul-le-mul_right, pow-suc, add-one, arith}
use native.Mathlib.Nat.{min-eq_left, min-eq_right}
use native.Mathlib.Decide.{dec_le}
use Rattle.integer.specs.Gain.{held}

held_mul : (x r : ℕ) → held (held x * r) ≡ held (x * r)
held_mul x r = go (dec_le x 18446744073709551615)
  where
    over : (r : ℕ) → 18446744073709551615 ≤ x → held (18446744073709551615 * r) ≡ held (x * r)
    over zero l = omega arith
    over (suc r) l = let e : 18446744073709551615 * suc r ≤ x * suc r = mul-le-mul_right (suc r) l in omega arith

    go : Dec (x ≤ 18446744073709551615) → held (held x * r) ≡ held (x * r)
    go (yes l) = ap (λ n. held (n * r)) (min-eq_left l)
    go (no f) = let l : 18446744073709551615 ≤ x = omega arith in ap (λ n. held (n * r)) (min-eq_right l) ∙ over r l

pub held_pow : (r i : ℕ) → held (held (r ^ i) * r) ≡ held (r ^ (i + 1))
held_pow r i = held_mul (r ^ i) r ∙ ap held (sym (pow-suc r i) ∙ ap (λ n. r ^ n) (sym (add-one i)))
