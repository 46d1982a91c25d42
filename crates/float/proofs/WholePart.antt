-- Rust's `as usize` of an f32: from 1 to below 2^24 the 24 leading digits of the value, counted in the smallest f32, are its pattern's, and cut by the
-- exponent they are the whole part; below 1 and of a NaN that is 0, and from 2^64 on the largest number.
use Rattle.std.proofs.Common.{◌≡◌, ℕ, ◌+◌, ◌-◌, ◌*◌, ◌/◌, ◌%◌, ◌^◌, ◌<◌, ◌≤◌, min, true, false, not, T, eqb, ℤ, pos, sym, refl, ap, ◌∙◌, subst, true≢false, le_trans, lt_of_lt_of_le, lt_irrefl, mul-le-mul_right, mul_assoc, mul_comm, div-lt_iff_lt-mul, mul-lt-mul_of_pos_right, mul-pos, lt_of_not-le, le-div_iff_mul-le, zero-add, arith, lt→ltb, nltb→le, pow_pos, pow_mono, pow-add, shr-shr, eqb-true, lit≤}
use native.Mathlib.Nat.{mul-div-mul_right, div-div-eq-div-mul, div-eq_of_lt}
use mathlib.Core.Bool.{false≢true}
use lib.Ieee.{Float, nan, inf, fin, binary32, up, down, size, lt, eq, le, is_nan, to_bits, to_unsigned}
use lib.Ieee.Digits.{size-lt, size_reaches, size-le}
use lib.Ieee.Fits.{down_pos, kept-lt}
use lib.Ieee.Positive.{num, den}
use Rattle.theory.proofs.FloatOrder.{nonneg, le→cross, cross→le}
use Rattle.std.proofs.lemmas.Bool.{and_parts}
use Rattle.float.proofs.Flags.{is, is_not, so}

-- ---- a count n of the smallest f32: the digits that its pattern drops, those that it keeps, and the pattern
abbrev dropped : ℕ → ℕ
dropped n = size n - 24

abbrev kept : ℕ → ℕ
kept n = n / 2 ^ dropped n

abbrev pattern : ℕ → ℕ
pattern n = dropped n * 8388608 + kept n

-- what the code does to a pattern
abbrev cut : ℕ → ℕ
cut b = (b % 8388608 + 8388608) / 2 ^ (150 - b / 8388608)

-- the fields of a pattern whose kept digits begin with a one
fields : (k d : ℕ) → 8388608 ≤ d → d < 16777216 → ((k * 8388608 + d) / 8388608 ≡ k + 1) × ((k * 8388608 + d) % 8388608 + 8388608 ≡ d)
fields k d l h = (omega arith, omega arith)

-- from 2^149, which is 1.0, to below 2^24 as many
module _ (n : ℕ) (least : 2 ^ 149 ≤ n) (most : n < 2 ^ 173) where
  size_from : 149 < size n
  size_from = lt_of_not-le (λ (h : size n ≤ 149). lt_irrefl n (lt_of_lt_of_le (size-lt n) (le_trans (pow_mono h) least)))

  few_dropped : dropped n ≤ 149
  few_dropped = let h = size-le n 173 most in omega arith

  kept_from : 8388608 ≤ kept n
  kept_from =
      let s : 23 + dropped n < size n = let h = size_from in omega arith in
      (le-div_iff_mul-le (pow_pos (dropped n))).1 (subst (λ (k : ℕ). k ≤ n) (pow-add 2 23 (dropped n)) (size_reaches n (23 + dropped n) s))

  parts : (pattern n / 8388608 ≡ dropped n + 1) × (pattern n % 8388608 + 8388608 ≡ kept n)
  parts = fields (dropped n) (kept n) kept_from (kept-lt 24 n)

  shift_fits : (pattern n / 8388608 ≤ 150) × (150 - pattern n / 8388608 < 32)
  shift_fits = let p = parts in let f = few_dropped in let s = size_from in (omega arith, omega arith)

  whole_cut : cut (pattern n) ≡ n / 2 ^ 149
  whole_cut =
      let k : 150 - pattern n / 8388608 ≡ 149 - dropped n = let p = parts in let s = size_from in omega arith in
      let j : dropped n + (149 - dropped n) ≡ 149 = let f = few_dropped in omega arith in
      rw (parts.1, k, shr-shr n (dropped n) (149 - dropped n), j)

-- ---- a fraction a / d, counted in the smallest f32: from 1 to below 2^24
abbrev counted : ℕ → ℕ → ℕ
counted a d = a * 2 ^ 149 / d

module _ (a d : ℕ) (some : 0 < d) (least : d ≤ a) (most : a < 16777216 * d) where
  count_from : 2 ^ 149 ≤ counted a d
  count_from = (le-div_iff_mul-le some).1 (subst (λ (k : ℕ). k ≤ a * 2 ^ 149) (mul_comm d (2 ^ 149)) (mul-le-mul_right (2 ^ 149) least))

  count_to : counted a d < 2 ^ 173
  count_to = (div-lt_iff_lt-mul some).1 (subst (λ (k : ℕ). a * 2 ^ 149 < k) (regroup (2 ^ 149)) (mul-lt-mul_of_pos_right most (pow_pos 149)))
    where
      regroup : (l : ℕ) → 16777216 * d * l ≡ 16777216 * l * d
      regroup l = mul_assoc 16777216 d l ∙ ap (λ (k : ℕ). 16777216 * k) (mul_comm d l) ∙ sym (mul_assoc 16777216 l d)

  whole_count : counted a d / 2 ^ 149 ≡ a / d
  whole_count = div-div-eq-div-mul (a * 2 ^ 149) d (2 ^ 149) ∙ mul-div-mul_right a d (pow_pos 149)

-- ---- a float
abbrev one : Float
one = fin false 1 (pos 0)

abbrev all_whole : Float
all_whole = fin false 1 (pos 24)

-- no power of two is at most a negative one
over_negative : (w m : ℕ) (e : ℤ) → le (fin false 1 (pos w)) (fin true m e) ≡ true → ⊥
unfolding le lt eq
over_negative w m e h =
    let b = and_parts (eqb (1 * 2 ^ w * down e) (m * up e * 1)) (eqb (1 * 2 ^ w * down e) 0) h in
    let z : 1 * 2 ^ w * down e ≡ 0 = eqb-true _ _ b.1 in
    let p : 0 < 1 * 2 ^ w * down e = mul-pos (mul-pos (omega arith) (pow_pos w)) (down_pos e) in
    omega arith

not_above : (x y : Float) → T (nonneg x) → T (nonneg y) → le x y ≡ false → num y * den x < num x * den y
not_above x y p q h = lt_of_not-le (λ (c : num x * den y ≤ num y * den x). true≢false (sym (so (le x y) (cross→le x y p q c)) ∙ h))

bits_are : (m : ℕ) (e : ℤ) → to_bits binary32 (fin false m e) ≡ pattern (counted (m * up e) (down e))
unfolding to_bits size
bits_are m e = ap (λ (k : ℕ). k + kept (counted (m * up e) (down e))) (zero-add (dropped (counted (m * up e) (down e)) * 8388608))

-- what the code asks of an x from 1 to below 2^24, and what it makes of its pattern
pub record Shifted (x : Float) (b : ℕ) : Type 0 where
  pub number : T (not (is_nan x))
  pub exponent : b / 8388608 ≤ 150
  pub by : 150 - b / 8388608 < 32
  pub whole : cut b ≡ to_unsigned 64 x

pub shifted : (x : Float) → le one x ≡ true → le all_whole x ≡ false → Shifted x (to_bits binary32 x)
unfolding le lt eq is_nan to_unsigned
shifted nan l h = absurd (false≢true l)
shifted (inf true) l h = absurd (false≢true l)
shifted (inf false) l h = absurd (true≢false h)
shifted (fin true m e) l h = absurd (over_negative 0 m e l)
shifted (fin false m e) l h =
    let least : down e ≤ m * up e = let c = le→cross one (fin false m e) tt tt (is _ l) in omega arith in
    let most : m * up e < 16777216 * down e = let c = not_above all_whole (fin false m e) tt tt h in omega arith in
    let n = counted (m * up e) (down e) in
    let from = count_from (m * up e) (down e) (down_pos e) least most in
    let to = count_to (m * up e) (down e) (down_pos e) least most in
    let small : m * up e / down e < 16777216 = (div-lt_iff_lt-mul (down_pos e)).1 most in
    let held : m * up e / down e ≡ min (m * up e / down e) 18446744073709551615 = omega arith in
    rw (bits_are m e)
    (record {
      number = tt;
      exponent = (shift_fits n from to).0;
      by = (shift_fits n from to).1;
      whole = whole_cut n from to ∙ whole_count (m * up e) (down e) (down_pos e) least most ∙ held;
    })

-- ---- the two ends
pub below_one : (x : Float) → le one x ≡ false → to_unsigned 64 x ≡ 0
unfolding le lt eq to_unsigned
below_one nan h = refl
below_one (inf true) h = refl
below_one (inf false) h = absurd (true≢false h)
below_one (fin true m e) h = refl
below_one (fin false m e) h =
    let under : m * up e < down e = let c = not_above one (fin false m e) tt tt h in omega arith in
    let none : m * up e / down e ≡ 0 = div-eq_of_lt under in
    omega arith

-- from 2^24 on x is above -1, and where it is not below 2^64 the largest number holds it
pub above : (x : Float) → le all_whole x ≡ true → T (lt (fin true 1 (pos 0)) x)
unfolding le lt eq
above nan h = absurd (false≢true h)
above (inf true) h = absurd (false≢true h)
above (inf false) h = tt
above (fin true m e) h = absurd (over_negative 24 m e h)
above (fin false m e) h = let d = down_pos e in lt→ltb 0 (1 * down e + m * up e * 1) (omega arith)

pub held_at_most : (x : Float) → le all_whole x ≡ true → lt x (fin false 1 (pos 64)) ≡ false → to_unsigned 64 x ≡ 18446744073709551615
unfolding le lt eq to_unsigned
held_at_most nan h k = absurd (false≢true h)
held_at_most (inf true) h k = absurd (false≢true h)
held_at_most (inf false) h k = refl
held_at_most (fin true m e) h k = absurd (over_negative 24 m e h)
held_at_most (fin false m e) h k =
    let c : 18446744073709551616 * down e ≤ m * up e = let n = nltb→le (m * up e * 1) (18446744073709551616 * down e) (is_not _ k) in omega arith in
    let q : 18446744073709551616 ≤ m * up e / down e = (le-div_iff_mul-le (down_pos e)).1 c in
    omega arith

-- and from 2^24 on the whole part is no less
pub reaches : (x : Float) → le all_whole x ≡ true → 16777216 ≤ to_unsigned 64 x
unfolding le lt eq to_unsigned
reaches nan h = absurd (false≢true h)
reaches (inf true) h = absurd (false≢true h)
reaches (inf false) h = lit≤ tt
reaches (fin true m e) h = absurd (over_negative 24 m e h)
reaches (fin false m e) h =
    let c : 16777216 * down e ≤ m * up e = let k = le→cross all_whole (fin false m e) tt tt (is _ h) in omega arith in
    let q : 16777216 ≤ m * up e / down e = (le-div_iff_mul-le (down_pos e)).1 c in
    omega arith
