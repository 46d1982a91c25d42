-- 01's equality of samples is respected by sums and products: `round` sees only the value of its fraction, and where a sign is not told the fraction is zero.
use mathlib.Core.Path.{◌≡◌, refl, sym, ap, ap₂, ◌∙◌, subst}
use mathlib.Core.Bool.{Bool, true, false, cond, ◌&&◌, ◌||◌, beq, true≢false}
use Prim.Native.Nat.{ℕ, zero, suc, ◌+◌, ◌-◌, ◌*◌, ◌≤◌, ◌<◌}
use native.Mathlib.Nat.{mul_comm, zero-mul, mul-pos, add-mul, mul-sub, mul-mul-mul_comm, mul-lt-mul_of_pos_right, lt_of_mul-lt-mul_right}
use native.Mathlib.Decide.{dec_lt}
use native.Mathlib.Omega.{arith}
use borrow.Author.Tests.{eqb-true, eq-eqb, ne_eqb, lt-ltb, le-ltb}
use lib.Dec.{eqb, ltb}
use lib.IntN.{ℤ, pos}
use lib.Ieee.{Float, nan, inf, fin, binary32, up, down, unlike, level, eq, is_nan, round, sum, add, mul}
use lib.Ieee.Fits.{up_pos, down_pos}
use lib.Ieee.Scale.{round_same}
use Rattle.theory.proofs.FloatOrder.{zero_prod}
use Rattle.half_band.specs.Equal.{equal, Equal}

-- ---- what it says of two finite values: the same number, and the same sign unless that is zero
pub record Level (s : Bool) (m : ℕ) (e : ℤ) (t : Bool) (n : ℕ) (d : ℤ) : Type 0 where
  pub number : m * up e * down d ≡ n * up d * down e
  pub sign : (m ≡ 0 → ⊥) → s ≡ t

product_zero : (m u v : ℕ) → 0 < u → 0 < v → m * u * v ≡ 0 → m ≡ 0
product_zero zero u v hu hv e = refl
product_zero (suc m) u v hu hv e = let p : 0 < suc m * u * v = mul-pos (mul-pos (omega arith) hu) hv in absurd (omega (arith, p, e))

level_say : (s t : Bool) (a b : ℕ) → (level s a t b || (false && false)) ≡ true → (a ≡ b) × ((a ≡ 0 → ⊥) → s ≡ t)
level_say s t a b h = go (eqb a b) refl (beq s t) (eqb a 0) refl (signs s t) h
  where
    signs : (s t : Bool) → beq s t ≡ true → s ≡ t
    signs true true e = refl
    signs true false e = absurd (true≢false (sym e))
    signs false true e = absurd (true≢false (sym e))
    signs false false e = refl

    go : (p : Bool) → eqb a b ≡ p → (q r : Bool) → eqb a 0 ≡ r → (q ≡ true → s ≡ t) → ((p && (q || r)) || (false && false)) ≡ true → (a ≡ b) × ((a ≡ 0 → ⊥) → s ≡ t)
    go true e true r z k h = (eqb-true a b e, λ n. k refl)
    go true e false true z k h = (eqb-true a b e, λ n. absurd (n (eqb-true a 0 z)))
    go true e false false z k h = absurd (true≢false (sym h))
    go false e q r z k h = absurd (true≢false (sym h))

level_told : (s t : Bool) (a b : ℕ) → a ≡ b → ((a ≡ 0 → ⊥) → s ≡ t) → (level s a t b || (false && false)) ≡ true
level_told s t a b e k = ap (λ (p : Bool). (p && (beq s t || eqb a 0)) || (false && false)) (eq-eqb a b e) ∙ go a k
  where
    same : (s t : Bool) → s ≡ t → beq s t ≡ true
    same true true e = refl
    same true false e = absurd (true≢false e)
    same false true e = absurd (true≢false (sym e))
    same false false e = refl

    either : (q : Bool) → ((q || true) || false) ≡ true
    either true = refl
    either false = refl

    go : (a : ℕ) → ((a ≡ 0 → ⊥) → s ≡ t) → ((beq s t || eqb a 0) || false) ≡ true
    go zero k = either (beq s t)
    go (suc a) k = ap (λ (q : Bool). (q || eqb (suc a) 0) || false) (same s t (k (λ z. absurd (omega (arith, z)))))

pub say : (s : Bool) (m : ℕ) (e : ℤ) (t : Bool) (n : ℕ) (d : ℤ) → Equal (fin s m e) (fin t n d) → Level s m e t n d
unfolding equal eq is_nan
say s m e t n d h =
    let l = level_say s t (m * up e * down d) (n * up d * down e) h in
    record { number = l.0; sign = λ z. l.1 (λ q. z (product_zero m (up e) (down d) (up_pos e) (down_pos d) q)) }

pub told : (s : Bool) (m : ℕ) (e : ℤ) (t : Bool) (n : ℕ) (d : ℤ) → Level s m e t n d → Equal (fin s m e) (fin t n d)
unfolding equal eq is_nan
told s m e t n d l = level_told s t (m * up e * down d) (n * up d * down e) l.number (λ z. l.sign (λ q. z (zero_prod m (up e) (down d) q)))

pub equal_refl : (x : Float) → Equal x x
unfolding equal eq is_nan
equal_refl nan = refl
equal_refl (inf true) = refl
equal_refl (inf false) = refl
equal_refl (fin s m e) = level_told s s (m * up e * down e) (m * up e * down e) refl (λ z. refl)

same : (x y : Float) → x ≡ y → Equal x y
same x y e = subst (λ (z : Float). Equal x z) e (equal_refl x)

-- ---- what an equal of each kind is
nan_only : (y : Float) → Equal nan y → y ≡ nan
unfolding equal eq is_nan
nan_only nan h = refl
nan_only (inf t) h = absurd (true≢false (sym h))
nan_only (fin t n d) h = absurd (true≢false (sym h))

inf_only : (s : Bool) (y : Float) → Equal (inf s) y → y ≡ inf s
unfolding equal eq is_nan
inf_only s nan h = absurd (true≢false (sym h))
inf_only true (inf true) h = refl
inf_only true (inf false) h = absurd (true≢false (sym h))
inf_only false (inf true) h = absurd (true≢false (sym h))
inf_only false (inf false) h = refl
inf_only s (fin t n d) h = absurd (true≢false (sym h))

record Finite (s : Bool) (m : ℕ) (e : ℤ) (y : Float) : Type 0 where
  sign_of : Bool
  digits : ℕ
  exponent : ℤ
  is : y ≡ fin sign_of digits exponent
  levels : Level s m e sign_of digits exponent

fin_only : (s : Bool) (m : ℕ) (e : ℤ) (y : Float) → Equal (fin s m e) y → Finite s m e y
unfolding equal eq is_nan
fin_only s m e nan h = absurd (true≢false (sym h))
fin_only s m e (inf t) h = absurd (true≢false (sym h))
fin_only s m e (fin t n d) h = record { sign_of = t; digits = n; exponent = d; is = refl; levels = say s m e t n d h }

-- ---- rounded fractions
no_ones : (s : Bool) → round binary32 s 0 1 ≡ fin s 0 (pos 0)
unfolding round
no_ones true = refl
no_ones false = refl

round_zero : (s : Bool) (c : ℕ) → 0 < c → round binary32 s 0 c ≡ fin s 0 (pos 0)
round_zero s c h = round_same binary32 s 0 c 0 1 h (omega arith) (zero-mul 1 ∙ sym (zero-mul c)) ∙ no_ones s

zeros : (s t : Bool) (x y : Float) → x ≡ fin s 0 (pos 0) → y ≡ fin t 0 (pos 0) → Equal x y
zeros s t x y e f = subst (λ (z : Float). Equal z y) (sym e) (subst (λ (z : Float). Equal (fin s 0 (pos 0)) z) (sym f) (told s 0 (pos 0) t 0 (pos 0) (record { number = refl; sign = λ z. absurd (z refl) })))

nothing : (a c : ℕ) → 0 < c → 0 ≡ a * c → a ≡ 0
nothing zero c h e = refl
nothing (suc a) c h e = let p : 0 < suc a * c = mul-pos (omega arith) h in absurd (omega (arith, p, e))

something : (a a' c c' : ℕ) → 0 < a → 0 < c' → a * c' ≡ a' * c → 0 < a'
something a zero c c' h hc e = let p : 0 < a * c' = mul-pos h hc in absurd (omega (arith, p, e, zero-mul c))
something a (suc a') c c' h hc e = omega arith

-- equal fractions, the same sign unless they are zero
round_equal : (s t : Bool) (a c a' c' : ℕ) → 0 < c → 0 < c' → a * c' ≡ a' * c → ((a ≡ 0 → ⊥) → s ≡ t) → Equal (round binary32 s a c) (round binary32 t a' c')
round_equal s t zero c a' c' h h' e k =
    let z : a' ≡ 0 = nothing a' c h (sym (zero-mul c') ∙ e) in
    zeros s t _ _ (round_zero s c h) (ap (λ (n : ℕ). round binary32 t n c') z ∙ round_zero t c' h')
round_equal s t (suc a) c a' c' h h' e k =
    let q : s ≡ t = k (λ z. absurd (omega (arith, z))) in
    same _ _ (round_same binary32 s (suc a) c a' c' h h' e ∙ ap (λ (b : Bool). round binary32 b a' c') q)

-- ---- sums
sum_zero : (s t : Bool) (c : ℕ) → 0 < c → sum binary32 s 0 t 0 c ≡ fin (s && t) 0 (pos 0)
unfolding sum
sum_zero true true c h = round_zero true c h
sum_zero true false c h = round_zero false c h
sum_zero false true c h = round_zero false c h
sum_zero false false c h = round_zero false c h

sum_left : (s t : Bool) (b c : ℕ) → 0 < b → sum binary32 s 0 t b c ≡ round binary32 t b c
unfolding sum
sum_left s t b c h = go s t
  where
    e : 0 + b ≡ b
    e = omega arith

    f : b - 0 ≡ b
    f = omega arith

    go : (s t : Bool) → cond (beq s t) (round binary32 s (0 + b) c) (cond (ltb 0 b) (round binary32 t (b - 0) c) (round binary32 (s && ltb b 0) (0 - b) c)) ≡ round binary32 t b c
    go true true = ap (λ (n : ℕ). round binary32 true n c) e
    go true false = rw (lt-ltb 0 b h, f)
    go false true = rw (lt-ltb 0 b h, f)
    go false false = ap (λ (n : ℕ). round binary32 false n c) e

sum_right : (s t : Bool) (a c : ℕ) → 0 < a → sum binary32 s a t 0 c ≡ round binary32 s a c
unfolding sum
sum_right s t a c h = go s t
  where
    e : a + 0 ≡ a
    e = omega arith

    f : a - 0 ≡ a
    f = omega arith

    n : ltb a 0 ≡ false
    n = le-ltb a 0 (omega arith)

    go : (s t : Bool) → cond (beq s t) (round binary32 s (a + 0) c) (cond (ltb a 0) (round binary32 t (0 - a) c) (round binary32 (s && ltb 0 a) (a - 0) c)) ≡ round binary32 s a c
    go true true = ap (λ (n : ℕ). round binary32 true n c) e
    go true false = rw (n, lt-ltb 0 a h, f)
    go false true = rw (n, f)
    go false false = ap (λ (n : ℕ). round binary32 false n c) e

module _ (a b c a' b' c' : ℕ) (h : 0 < c) (h' : 0 < c') (ea : a * c' ≡ a' * c) (eb : b * c' ≡ b' * c) where
  -- a difference as the fraction
  less : (a b a' b' : ℕ) → a * c' ≡ a' * c → b * c' ≡ b' * c → (b - a) * c' ≡ (b' - a') * c
  less a b a' b' ea eb =
      mul_comm (b - a) c' ∙ mul-sub c' b a
      ∙ ap₂ (λ (x y : ℕ). x - y) (mul_comm c' b ∙ eb ∙ mul_comm b' c) (mul_comm c' a ∙ ea ∙ mul_comm a' c)
      ∙ sym (mul_comm (b' - a') c ∙ mul-sub c b' a')

  order : (a b a' b' : ℕ) → a * c' ≡ a' * c → b * c' ≡ b' * c → ltb a b ≡ ltb a' b'
  order a b a' b' ea eb = go (dec_lt a b)
    where
      go : Dec (a < b) → ltb a b ≡ ltb a' b'
      go (yes l) =
          let p : a * c' < b * c' = mul-lt-mul_of_pos_right l h' in
          let q : a' * c < b' * c = omega (arith, p, ea, eb) in
          lt-ltb a b l ∙ sym (lt-ltb a' b' (lt_of_mul-lt-mul_right c q))
      go (no n) =
          let k : b ≤ a = omega arith in
          let m : b' ≤ a' = below (dec_lt a' b') k in
          le-ltb a b k ∙ sym (le-ltb a' b' m)
        where
          below : Dec (a' < b') → b ≤ a → b' ≤ a'
          below (yes l) k =
              let p : a' * c < b' * c = mul-lt-mul_of_pos_right l h in
              let q : a * c' < b * c' = omega (arith, p, ea, eb) in
              let r : a < b = lt_of_mul-lt-mul_right c' q in
              absurd (omega arith)
          below (no m) k = omega arith

  sum_same : (s t : Bool) → sum binary32 s a t b c ≡ sum binary32 s a' t b' c'
  unfolding sum
  sum_same s t =
      ap (λ (x : Float). cond (beq s t) x (cond (ltb a b) (round binary32 t (b - a) c) (round binary32 (s && ltb b a) (a - b) c)))
      (round_same binary32 s (a + b) c (a' + b') c' h h' (add-mul a b c' ∙ ap₂ (λ (x y : ℕ). x + y) ea eb ∙ sym (add-mul a' b' c)))
      ∙ ap (λ (x : Float). cond (beq s t) (round binary32 s (a' + b') c') (cond (ltb a b) x (round binary32 (s && ltb b a) (a - b) c)))
      (round_same binary32 t (b - a) c (b' - a') c' h h' (less a b a' b' ea eb))
      ∙ ap (λ (x : Float). cond (beq s t) (round binary32 s (a' + b') c') (cond (ltb a b) (round binary32 t (b' - a') c') x))
      (round_same binary32 (s && ltb b a) (a - b) c (a' - b') c' h h' (less b a b' a' eb ea))
      ∙ ap₂ {C = Float} (λ (p q : Bool). cond (beq s t) (round binary32 s (a' + b') c') (cond p (round binary32 t (b' - a') c') (round binary32 (s && q) (a' - b') c')))
      (order a b a' b' ea eb) (order b a b' a' eb ea)

sum_equal : (s t s' t' : Bool) (a b c a' b' c' : ℕ) → 0 < c → 0 < c' → a * c' ≡ a' * c → b * c' ≡ b' * c → ((a ≡ 0 → ⊥) → s ≡ s') → ((b ≡ 0 → ⊥) → t ≡ t')
    → Equal (sum binary32 s a t b c) (sum binary32 s' a' t' b' c')
sum_equal s t s' t' zero zero c a' b' c' h h' ea eb ka kb =
    let p : a' ≡ 0 = nothing a' c h (sym (zero-mul c') ∙ ea) in
    let q : b' ≡ 0 = nothing b' c h (sym (zero-mul c') ∙ eb) in
    zeros (s && t) (s' && t') _ _ (sum_zero s t c h) (ap₂ {C = Float} (λ (x y : ℕ). sum binary32 s' x t' y c') p q ∙ sum_zero s' t' c' h')
sum_equal s t s' t' zero (suc b) c a' b' c' h h' ea eb ka kb =
    let p : a' ≡ 0 = nothing a' c h (sym (zero-mul c') ∙ ea) in
    let q : t ≡ t' = kb (λ z. absurd (omega (arith, z))) in
    same _ _
    (sum_left s t (suc b) c (omega arith)
    ∙ round_same binary32 t (suc b) c b' c' h h' eb
    ∙ ap (λ (x : Bool). round binary32 x b' c') q
    ∙ sym (ap (λ (x : ℕ). sum binary32 s' x t' b' c') p ∙ sum_left s' t' b' c' (something (suc b) b' c c' (omega arith) h' eb)))
sum_equal s t s' t' (suc a) zero c a' b' c' h h' ea eb ka kb =
    let p : b' ≡ 0 = nothing b' c h (sym (zero-mul c') ∙ eb) in
    let q : s ≡ s' = ka (λ z. absurd (omega (arith, z))) in
    same _ _
    (sum_right s t (suc a) c (omega arith)
    ∙ round_same binary32 s (suc a) c a' c' h h' ea
    ∙ ap (λ (x : Bool). round binary32 x a' c') q
    ∙ sym (ap (λ (x : ℕ). sum binary32 s' a' t' x c') p ∙ sum_right s' t' a' c' (something (suc a) a' c c' (omega arith) h' ea)))
sum_equal s t s' t' (suc a) (suc b) c a' b' c' h h' ea eb ka kb =
    let p : s ≡ s' = ka (λ z. absurd (omega (arith, z))) in
    let q : t ≡ t' = kb (λ z. absurd (omega (arith, z))) in
    same _ _ (sum_same (suc a) (suc b) c a' b' c' h h' ea eb s t ∙ ap₂ {C = Float} (λ (x y : Bool). sum binary32 x a' y b' c') p q)

-- ---- the laws
-- x × r / (q × r) is x / q
widen : (x y p q r r' : ℕ) → x * p ≡ y * q → x * r * (p * r') ≡ y * r' * (q * r)
widen x y p q r r' e =
    mul-mul-mul_comm x r p r' ∙ ap₂ (λ (k l : ℕ). k * l) e (mul_comm r r') ∙ sym (mul-mul-mul_comm y r' q r)

widen_other : (x y p q r r' : ℕ) → x * p ≡ y * q → x * r * (r' * p) ≡ y * r' * (r * q)
widen_other x y p q r r' e = ap (λ (k : ℕ). x * r * k) (mul_comm r' p) ∙ widen x y p q r r' e ∙ ap (λ (k : ℕ). y * r' * k) (mul_comm q r)

fin_add : (s : Bool) (m : ℕ) (e : ℤ) (t : Bool) (n : ℕ) (d : ℤ) (s' : Bool) (m' : ℕ) (e' : ℤ) (t' : Bool) (n' : ℕ) (d' : ℤ)
    → Level s m e s' m' e' → Level t n d t' n' d' → Equal (add binary32 (fin s m e) (fin t n d)) (add binary32 (fin s' m' e') (fin t' n' d'))
unfolding add
fin_add s m e t n d s' m' e' t' n' d' k l =
    sum_equal s t s' t' (m * up e * down d) (n * up d * down e) (down e * down d) (m' * up e' * down d') (n' * up d' * down e') (down e' * down d')
    (mul-pos (down_pos e) (down_pos d)) (mul-pos (down_pos e') (down_pos d'))
    (widen (m * up e) (m' * up e') (down e') (down e) (down d) (down d') k.number)
    (widen_other (n * up d) (n' * up d') (down d') (down d) (down e) (down e') l.number)
    (λ z. k.sign (λ q. z (zero_prod m (up e) (down d) q)))
    (λ z. l.sign (λ q. z (zero_prod n (up d) (down e) q)))

fin_mul : (s : Bool) (m : ℕ) (e : ℤ) (t : Bool) (n : ℕ) (d : ℤ) (s' : Bool) (m' : ℕ) (e' : ℤ) (t' : Bool) (n' : ℕ) (d' : ℤ)
    → Level s m e s' m' e' → Level t n d t' n' d' → Equal (mul binary32 (fin s m e) (fin t n d)) (mul binary32 (fin s' m' e') (fin t' n' d'))
unfolding mul
fin_mul s m e t n d s' m' e' t' n' d' k l =
    round_equal (unlike s t) (unlike s' t') (m * up e * (n * up d)) (down e * down d) (m' * up e' * (n' * up d')) (down e' * down d')
    (mul-pos (down_pos e) (down_pos d)) (mul-pos (down_pos e') (down_pos d'))
    (mul-mul-mul_comm (m * up e) (n * up d) (down e') (down d')
    ∙ ap₂ (λ (x y : ℕ). x * y) k.number l.number
    ∙ sym (mul-mul-mul_comm (m' * up e') (n' * up d') (down e) (down d)))
    (λ z. ap₂ unlike (k.sign (λ q. z (left q))) (l.sign (λ q. z (right q))))
  where
    left : m ≡ 0 → m * up e * (n * up d) ≡ 0
    left q = zero_prod m (up e) (n * up d) q

    right : n ≡ 0 → m * up e * (n * up d) ≡ 0
    right q = ap (λ (x : ℕ). m * up e * (x * up d)) q ∙ ap (λ (x : ℕ). m * up e * x) (zero-mul (up d)) ∙ mul_comm (m * up e) 0 ∙ zero-mul (m * up e)

-- the other operand's equal put in
module _ (g : Float → Float → Float) (x y : Float) where
  for : (x' y' u v : Float) → x' ≡ u → y' ≡ v → Equal (g x y) (g u v) → Equal (g x y) (g x' y')
  for x' y' u v e f h = subst (λ (z : Float). Equal (g x y) (g z y')) (sym e) (subst (λ (z : Float). Equal (g x y) (g u z)) (sym f) h)

pub add_equal : (x x' y y' : Float) → Equal x x' → Equal y y' → Equal (add binary32 x y) (add binary32 x' y')
unfolding add
add_equal nan x' y y' h k = for (add binary32) nan y x' y' nan y' (nan_only x' h) refl (equal_refl nan)
add_equal (inf s) x' nan y' h k = for (add binary32) (inf s) nan x' y' (inf s) nan (inf_only s x' h) (nan_only y' k) (equal_refl nan)
add_equal (inf s) x' (inf t) y' h k = for (add binary32) (inf s) (inf t) x' y' (inf s) (inf t) (inf_only s x' h) (inf_only t y' k) (equal_refl (add binary32 (inf s) (inf t)))
add_equal (inf s) x' (fin t n d) y' h k =
    let l = fin_only t n d y' k in
    for (add binary32) (inf s) (fin t n d) x' y' (inf s) (fin l.sign_of l.digits l.exponent) (inf_only s x' h) l.is (equal_refl (inf s))
add_equal (fin s m e) x' nan y' h k =
    let l = fin_only s m e x' h in
    for (add binary32) (fin s m e) nan x' y' (fin l.sign_of l.digits l.exponent) nan l.is (nan_only y' k) (equal_refl nan)
add_equal (fin s m e) x' (inf t) y' h k =
    let l = fin_only s m e x' h in
    for (add binary32) (fin s m e) (inf t) x' y' (fin l.sign_of l.digits l.exponent) (inf t) l.is (inf_only t y' k) (equal_refl (inf t))
add_equal (fin s m e) x' (fin t n d) y' h k =
    let l = fin_only s m e x' h in
    let r = fin_only t n d y' k in
    for (add binary32) (fin s m e) (fin t n d) x' y' (fin l.sign_of l.digits l.exponent) (fin r.sign_of r.digits r.exponent) l.is r.is
    (fin_add s m e t n d l.sign_of l.digits l.exponent r.sign_of r.digits r.exponent l.levels r.levels)

-- an infinity times a finite value, on either side
times : (s : Bool) (t : Bool) (n : ℕ) (d : ℤ) (t' : Bool) (n' : ℕ) (d' : ℤ) → Level t n d t' n' d'
    → cond (eqb n 0) nan (inf (unlike s t)) ≡ cond (eqb n' 0) nan (inf (unlike s t'))
times s t zero d t' n' d' l =
    let z : n' ≡ 0 = product_zero n' (up d') (down d) (up_pos d') (down_pos d) (sym l.number ∙ zero_prod 0 (up d) (down d') refl) in
    ap {B = Float} (λ (b : Bool). cond b nan (inf (unlike s t'))) (sym (eq-eqb n' 0 z))
times s t (suc n) d t' zero d' l = absurd (omega (arith, l.number, zero_prod 0 (up d') (down d) refl, mul-pos (mul-pos (some n) (up_pos d)) (down_pos d')))
  where
    some : (n : ℕ) → 0 < suc n
    some n = omega arith
times s t (suc n) d t' (suc n') d' l =
    let p : suc n ≡ 0 → ⊥ = omega arith in
    let q : suc n' ≡ 0 → ⊥ = omega arith in
    rw (ne_eqb (suc n) 0 p, ne_eqb (suc n') 0 q) (ap {B = Float} (λ (b : Bool). inf (unlike s b)) (l.sign p))

unlike_comm : (s t : Bool) → unlike s t ≡ unlike t s
unlike_comm true true = refl
unlike_comm true false = refl
unlike_comm false true = refl
unlike_comm false false = refl

pub mul_equal : (x x' y y' : Float) → Equal x x' → Equal y y' → Equal (mul binary32 x y) (mul binary32 x' y')
unfolding mul
mul_equal nan x' y y' h k = for (mul binary32) nan y x' y' nan y' (nan_only x' h) refl (equal_refl nan)
mul_equal (inf s) x' nan y' h k = for (mul binary32) (inf s) nan x' y' (inf s) nan (inf_only s x' h) (nan_only y' k) (equal_refl nan)
mul_equal (inf s) x' (inf t) y' h k = for (mul binary32) (inf s) (inf t) x' y' (inf s) (inf t) (inf_only s x' h) (inf_only t y' k) (equal_refl (inf (unlike s t)))
mul_equal (inf s) x' (fin t n d) y' h k =
    let l = fin_only t n d y' k in
    for (mul binary32) (inf s) (fin t n d) x' y' (inf s) (fin l.sign_of l.digits l.exponent) (inf_only s x' h) l.is
    (same _ _ (times s t n d l.sign_of l.digits l.exponent l.levels))
mul_equal (fin s m e) x' nan y' h k =
    let l = fin_only s m e x' h in
    for (mul binary32) (fin s m e) nan x' y' (fin l.sign_of l.digits l.exponent) nan l.is (nan_only y' k) (equal_refl nan)
mul_equal (fin s m e) x' (inf t) y' h k =
    let l = fin_only s m e x' h in
    for (mul binary32) (fin s m e) (inf t) x' y' (fin l.sign_of l.digits l.exponent) (inf t) l.is (inf_only t y' k)
    (same _ _
    (ap {B = Float} (λ (b : Bool). cond (eqb m 0) nan (inf b)) (unlike_comm s t)
    ∙ times t s m e l.sign_of l.digits l.exponent l.levels
    ∙ ap {B = Float} (λ (b : Bool). cond (eqb l.digits 0) nan (inf b)) (unlike_comm t l.sign_of)))
mul_equal (fin s m e) x' (fin t n d) y' h k =
    let l = fin_only s m e x' h in
    let r = fin_only t n d y' k in
    for (mul binary32) (fin s m e) (fin t n d) x' y' (fin l.sign_of l.digits l.exponent) (fin r.sign_of r.digits r.exponent) l.is r.is
    (fin_mul s m e t n d l.sign_of l.digits l.exponent r.sign_of r.digits r.exponent l.levels r.levels)
