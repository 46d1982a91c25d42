-- Where an output lies among the phases: q = (1 − mu cut to 0..1) × P is a NaN or from 0 to P, since rounding keeps a fraction below a whole number that
-- the format holds; so its whole part is at most P and is read off its digits.
use Rattle.std.proofs.Common.{◌≡◌, ℕ, zero, suc, ◌+◌, ◌-◌, ◌*◌, ◌/◌, ◌^◌, ◌<◌, ◌≤◌, Bool, true, false, cond, not, T, ltb, pos, sym, refl, ap, ◌∙◌, subst, true≢false, le_trans, le_of_eq, mul-le-mul_right, mul_comm, mul-pos, mul-one, mul_right_comm, le_of_mul-le-mul_right, mul_left_comm, arith, eqb→eq, nltb→le, ltb-true, le-ltb}
use native.Mathlib.Nat.{div-le_of_le-mul}
use lib.Ieee.{Float, nan, inf, fin, binary32, of_bits, up, down, odd, units, round, neg, sum, add, sub, mul, lt, le, of_int, to_unsigned}
use lib.Ieee.Back.{round_whole}
use lib.Ieee.Exact.{HasValue}
use lib.Ieee.Fits.{up_pos, down_pos, round_is, round-fits}
use lib.Ieee.Positive.{num, den, den_pos}
use Rattle.theory.proofs.FloatOrder.{nonneg, le→cross, round_below, value_nonneg, value→cross}
use Rattle.float.specs.F32.{zero32, one32}
use Rattle.float.specs.PolyphaseOutput.{cut_unit, phase_position}
use Rattle.float.proofs.Flags.{is_not}

-- a NaN, or from 0 to n, and not -0
abbrev pub UpTo : ℕ → Float → Type 0
UpTo n nan = Unit
UpTo n (inf s) = ⊥
UpTo n (fin true m e) = ⊥
UpTo n (fin false m e) = m * up e ≤ n * down e

-- ---- what a fraction of at most n rounds to
abbrev unsigned : Float → Bool
unsigned nan = true
unsigned (inf s) = not s
unsigned (fin s m e) = not s

odd_unsigned : (d q k l : ℕ) → T (unsigned (odd d false q k l))
unfolding odd
odd_unsigned d zero k l = tt
odd_unsigned d (suc q) k l = tt

units_unsigned : (q k : ℕ) → T (unsigned (units binary32 false q k))
unfolding units
units_unsigned q k = go (ltb (q * 2 ^ k) (2 ^ 277))
  where
    go : (b : Bool) → T (unsigned (cond b (odd 25 false q k 149) (inf false)))
    go true = odd_unsigned 25 q k 149
    go false = tt

round_unsigned : (a c : ℕ) → T (unsigned (round binary32 false a c))
round_unsigned a c = rw (round_is binary32 false a c) (units_unsigned _ _)

bounded : (n : ℕ) (x : Float) → T (nonneg x) → T (unsigned x) → num x ≤ n * den x → UpTo n x
bounded n nan p u h = absurd p
bounded n (inf s) p u h = absurd p
bounded n (fin true m e) p u h = absurd u
bounded n (fin false m e) p u h = h

round_up_to : (a c n : ℕ) → 0 < c → n ≤ 16777216 → a ≤ n * c → UpTo n (round binary32 false a c)
round_up_to a c n C N h =
    let x = round binary32 false a c in
    let y = round binary32 false n 1 in
    let v : HasValue y false n 1 = round_whole binary32 false n N in
    let whole : num y ≡ n * den y = sym (mul-one (num y)) ∙ value→cross y n 1 v in
    let Y : T (nonneg y) = value_nonneg y n 1 v in
    let under : a * den y ≤ num y * c = le_trans (mul-le-mul_right (den y) h) (le_of_eq (mul_right_comm n c (den y) ∙ ap (λ (k : ℕ). k * c) (sym whole))) in
    let b = round_below binary32 a c y C Y (round-fits binary32 false n 1) under in
    let cross : num x * den y ≤ n * den x * den y = le_trans (le→cross x y b.0 Y b.1) (le_of_eq (ap (λ (k : ℕ). k * den x) whole ∙ mul_right_comm n (den y) (den x))) in
    bounded n x b.0 (round_unsigned a c) (le_of_mul-le-mul_right cross (den_pos y))

-- ---- mu cut to 0..1, -0 among it, and 1 less that
abbrev UnitCut : Float → Type 0
UnitCut nan = Unit
UnitCut (inf s) = ⊥
UnitCut (fin s m e) = T (nonneg (fin s m e)) × (m * up e ≤ down e)

uncut : (x : Float) → lt x zero32 ≡ false → lt one32 x ≡ false → UnitCut x
unfolding lt of_bits
uncut nan a b = tt
uncut (inf true) a b = absurd (true≢false a)
uncut (inf false) a b = absurd (true≢false b)
uncut (fin true zero e) a b = (tt, omega arith)
uncut (fin true (suc m) e) a b =
    let p : 0 < suc m * up e = mul-pos (omega arith) (up_pos e) in
    let n = nltb→le 0 (suc m * up e * 1 + 0 * down e) (is_not _ a) in
    absurd (omega arith)
uncut (fin false m e) a b = (tt, (let l = nltb→le (1 * down e) (m * up e * 1) (is_not _ b) in omega arith))

cut_unit_lem : (mu : Float) → UnitCut (cut_unit mu)
unfolding cut_unit
cut_unit_lem mu = go (lt mu zero32) refl (lt one32 mu) refl
  where
    go : (b : Bool) → lt mu zero32 ≡ b → (c : Bool) → lt one32 mu ≡ c → UnitCut (cond b zero32 (cond c one32 mu))
    go true h c k = unfold of_bits in (tt, omega arith)
    go false h true k = unfold of_bits in (tt, omega arith)
    go false h false k = uncut mu h k

-- what is below 1 is not above it
pub below_one : (x : Float) → lt x one32 ≡ true → lt one32 x ≡ false
unfolding lt of_bits
below_one nan h = refl
below_one (inf true) h = refl
below_one (inf false) h = absurd (true≢false (sym h))
below_one (fin true m e) h = refl
below_one (fin false m e) h = le-ltb (1 * down e) (m * up e * 1) (let l = ltb-true (m * up e * 1) (1 * down e) h in omega arith)

-- a mu that is cut stays
cut_is : (mu : Float) (b c : Bool) → lt mu zero32 ≡ b → lt one32 mu ≡ c → cut_unit mu ≡ cond b zero32 (cond c one32 mu)
unfolding cut_unit
cut_is mu b c h k = rw (h, k)

zero_cut : cut_unit zero32 ≡ zero32
unfolding cut_unit lt of_bits
zero_cut = refl

one_cut : cut_unit one32 ≡ one32
unfolding cut_unit lt of_bits
one_cut = refl

pub cut_cut : (mu : Float) → cut_unit mu ≡ cut_unit (cut_unit mu)
cut_cut mu = go (lt mu zero32) refl (lt one32 mu) refl
  where
    go : (b : Bool) → lt mu zero32 ≡ b → (c : Bool) → lt one32 mu ≡ c → cut_unit mu ≡ cut_unit (cut_unit mu)
    go true h c k = let e = cut_is mu true c h k in e ∙ sym zero_cut ∙ ap cut_unit (sym e)
    go false h true k = let e = cut_is mu false true h k in e ∙ sym one_cut ∙ ap cut_unit (sym e)
    go false h false k = ap cut_unit (sym (cut_is mu false false h k))

less_cut : (c : Float) → UnitCut c → UpTo 1 (sub binary32 one32 c)
unfolding sub add neg sum of_bits
less_cut nan u = tt
less_cut (inf s) u = absurd u
less_cut (fin true m e) u =
    let d = down_pos e in
    rw (eqb→eq m 0 u.0) (round_up_to (1 * down e + 0 * up e * 1) (1 * down e) 1 (omega arith) (omega arith) (omega arith))
less_cut (fin false m e) u =
    let d = down_pos e in
    let l : m * up e * 1 ≤ 1 * down e = omega arith in
    rw (le-ltb (1 * down e) (m * up e * 1) l) (round_up_to (1 * down e - m * up e * 1) (1 * down e) 1 (omega arith) (omega arith) (omega arith))

-- ---- times P
times : (P : ℕ) (w y : Float) → P ≤ 64 → UpTo 1 w → HasValue y false P 1 → UpTo P (mul binary32 w y)
unfolding mul
times P nan y h u v = tt
times P (inf s) y h u v = absurd u
times P (fin true m e) y h u v = absurd u
times P (fin false m e) nan h u v = absurd v
times P (fin false m e) (inf s) h u v = absurd v
times P (fin false m e) (fin true n d) h u v = absurd (true≢false v.0)
times P (fin false m e) (fin false n d) h u v =
    let y : n * up d ≡ P * down d = sym (mul-one (n * up d)) ∙ v.1 in
    let w : m * up e ≤ down e = omega arith in
    let a : m * up e * (n * up d) ≤ P * (down e * down d) =
    le_trans (mul-le-mul_right (n * up d) w) (le_of_eq (ap (λ (k : ℕ). down e * k) y ∙ mul_left_comm (down e) P (down d))) in
    round_up_to _ _ P (mul-pos (down_pos e) (down_pos d)) (omega arith) a

pub place_up_to : (P : ℕ) (mu : Float) → P ≤ 64 → UpTo P (phase_position P mu)
unfolding phase_position of_int
place_up_to P mu h = times P _ (round binary32 false P 1) h (less_cut _ (cut_unit_lem mu)) (round_whole binary32 false P (omega arith))

-- ---- so the whole part is that of a value below 2^24, and at most P
refuted : (b : Bool) → (T b → ⊥) → b ≡ false
refuted true f = absurd (f tt)
refuted false f = refl

pub below_all_whole : (P : ℕ) (q : Float) → P ≤ 64 → UpTo P q → le (of_bits binary32 0x4b80_0000) q ≡ false
unfolding le lt of_bits
below_all_whole P nan h u = refl
below_all_whole P (inf s) h u = absurd u
below_all_whole P (fin true m e) h u = absurd u
below_all_whole P (fin false m e) h u =
    let k : P * down e ≤ 64 * down e = mul-le-mul_right (down e) h in
    let d = down_pos e in
    refuted _ (λ t. let c = le→cross (fin false 1 (pos 24)) (fin false m e) tt tt t in omega arith)

pub whole_up_to : (P : ℕ) (q : Float) → UpTo P q → to_unsigned 64 q ≤ P
unfolding to_unsigned
whole_up_to P nan u = omega arith
whole_up_to P (inf s) u = absurd u
whole_up_to P (fin true m e) u = absurd u
whole_up_to P (fin false m e) u =
    let k : m * up e / down e ≤ P = div-le_of_le-mul (down e) (subst (λ (k : ℕ). m * up e ≤ k) (mul_comm P (down e)) u) in
    omega arith
