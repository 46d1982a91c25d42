-- The resampler's output from its parts: what the limits of P and T say, that each index lies in the prototype and each phase is a float exactly.
use Rattle.std.proofs.Common.{◌≡◌, ℕ, zero, suc, ◌+◌, ◌*◌, ◌%◌, ◌<◌, ◌≤◌, Bool, true, false, cond, T, ltb, leb, List, length, take, get_or, pos, sym, refl, ap, ◌∙◌, ap₂, le_trans, le_of_lt, mul-le-mul_right, mod-lt, mod-eq_of_lt, suc-mul, mul_comm, mul-le-mul, add-one, arith, get_or-take, lit≤, le→leb, leb→le, ltb-true, ltb-false, lt-ltb, leb-true}
use native.Mathlib.Nat.{mod_self}
use lib.Ieee.{Float, nan, binary32, of_int, in_float, to_unsigned, add, sub, mul}
use Rattle.std.proofs.lemmas.Nat.{mul-add-lt}
use Rattle.std.proofs.lemmas.List.{get_or_default}
use Rattle.std.proofs.Math.ListN.{get_or-eq_default}
use Rattle.float.specs.F32.{one32, zero32, blend}
use Rattle.float.specs.PolyphaseOutput.{tap, straight_tap, reading, cut_unit, phase_position, phase0, phase1, first_place, second_place, fraction, phase_sum, output}
use Rattle.float.specs.PolyphaseOpening.{within, in_limits}
use Rattle.float.specs.inner.Running.{Inside}
use Rattle.std.proofs.lemmas.Bool.{and_parts}
use Rattle.float.proofs.Place.{cut_cut}

within_says : (least most n : ℕ) → within least most n ≡ true → (least ≤ n) × (n ≤ most)
unfolding within
within_says least most n h = let b = and_parts (leb least n) (leb n most) h in (leb-true _ _ b.0, leb-true _ _ b.1)

-- what 12 leaves
pub record Limits (P T : ℕ) : Type 0 where
  pub some_phases : 2 ≤ P
  pub few_phases : P ≤ 64
  pub some_taps : 1 ≤ T
  pub few_taps : T ≤ 16

pub limits_say : (P T : ℕ) → in_limits P T ≡ true → Limits P T
unfolding in_limits
limits_say P T h =
    let b = and_parts (within 2 64 P) (within 1 16 T) h in
    let p = within_says 2 64 P b.0 in
    let t = within_says 1 16 T b.1 in
    record { some_phases = p.0; few_phases = p.1; some_taps = t.0; few_taps = t.1 }

pub inside : (P T : ℕ) → (2 ≤ P) × (P ≤ 64) → (1 ≤ T) × (T ≤ 16) → Limits P T
inside P T p t = record { some_phases = p.0; few_phases = p.1; some_taps = t.0; few_taps = t.1 }

-- a whole number up to 65,536 is a float exactly
pub exact : (n b : ℕ) → n ≤ b → T (leb b 65536) → T (in_float binary32 (pos n))
unfolding in_float
exact n b h t = le→leb n 16777216 (le_trans h (le_trans (leb→le b 65536 t) (lit≤ tt)))

-- ---- places of the prototype
pub few_cells : (P T : ℕ) → Limits P T → P * T ≤ 1024
few_cells P T l = mul-le-mul l.few_phases l.few_taps

-- a tap before the n-th is P or more before its end
before : (t n P : ℕ) → t < n → t * P + P ≤ n * P
before t n P h = let q : suc t * P ≤ n * P = mul-le-mul_right P h in omega (arith, suc-mul t P)

pub phase_inside : (P T p : ℕ) → Limits P T → p < P → Inside P T p
unfolding Inside
phase_inside P T p l m t h = omega (arith, mul-add-lt t P p T h m, few_cells P T l)

-- so do the places up to P + 1 of all taps but the last
pub near : (t P p T : ℕ) → 2 ≤ P → t + 1 < T → p ≤ P + 1 → t * P + p < P * T
near t P p T s h m =
    let q : (t + 1) * P + P ≤ T * P = before (t + 1) T P h in
    let e : (t + 1) * P ≡ t * P + P = ap (λ (n : ℕ). n * P) (add-one t) ∙ suc-mul t P in
    go s q e
  where
    go : 2 ≤ P → (t + 1) * P + P ≤ T * P → (t + 1) * P ≡ t * P + P → t * P + p < P * T
    go s q e = omega (arith, mul_comm P T)

pub near_inside : (P T n p : ℕ) → Limits P T → n + 1 ≤ T → p ≤ P + 1 → Inside P n p
unfolding Inside
near_inside P T n p l k m t h = omega (arith, near t P p T l.some_phases (omega arith) m, few_cells P T l)

-- ---- sums
-- one tap more
pub one_tap :
    (taps : ℕ → Float) (d : List Float) (t : ℕ) (y c : Float) → y ≡ phase_sum taps d t → c ≡ taps t
    → add binary32 y (mul binary32 c (get_or d t nan)) ≡ phase_sum taps d (t + 1)
unfolding phase_sum
one_tap taps d t y c ey ec =
    ap₂ {C = Float} (λ (a b : Float). add binary32 a (mul binary32 b (get_or d t nan))) ey ec ∙ sym (ap (phase_sum taps d) (add-one t))

-- sums of taps and delays that are alike as far as they are read
pub sums_alike :
    (taps other : ℕ → Float) (d e : List Float) (T : ℕ) → ((t : ℕ) → t < T → taps t ≡ other t) → ((t : ℕ) → t < T → get_or d t nan ≡ get_or e t nan)
    → (t : ℕ) → t ≤ T → phase_sum taps d t ≡ phase_sum other e t
unfolding phase_sum
sums_alike taps other d e T alike delays zero a = refl
sums_alike taps other d e T alike delays (suc t) a = rw (sums_alike taps other d e T alike delays t (omega arith), alike t a, delays t a)

-- a front has the sums of its list, as far as it goes
pub sum_front : (taps : ℕ → Float) (d : List Float) (n m : ℕ) → m ≡ n → phase_sum taps (take n d) m ≡ phase_sum taps d n
sum_front taps d n m e = rw e (sums_alike taps taps (take n d) d n (λ t a. refl) (λ t a. get_or-take n d t nan a) n (omega arith))

-- before the prototype's end the two readings are one
pub read_before : (h : List Float) (P T p t : ℕ) → t * P + p < P * T → tap h P p t ≡ straight_tap h P T p t
unfolding tap straight_tap
read_before h P T p t l = rw (lt-ltb (t * P + p) (P * T) l)

pub sums_before : (h d : List Float) (P T p : ℕ) → p < P → phase_sum (tap h P p) d T ≡ phase_sum (straight_tap h P T p) d T
sums_before h d P T p m = sums_alike (tap h P p) (straight_tap h P T p) d d T (λ t a. read_before h P T p t (mul-add-lt t P p T a m)) (λ t a. refl) T (omega arith)

-- a cell of the n in front, or zero past them
pub cell_front : (w h : List Float) (n i : ℕ) → (w ≡ take n h) × (length w ≡ n) → get_or w i zero32 ≡ cond (ltb i n) (get_or h i nan) zero32
cell_front w h n i e = go (ltb i n) refl
  where
    go : (b : Bool) → ltb i n ≡ b → get_or w i zero32 ≡ cond b (get_or h i nan) zero32
    go true q = let l = ltb-true i n q in get_or_default w i zero32 nan (omega (arith, l, e.1)) ∙ rw e.0 (get_or-take n h i nan l)
    go false q = get_or-eq_default w zero32 (omega (arith, ltb-false i n q, e.1))

-- in straight phase, the last tap's cell i added to the sum of all others
pub last_straight :
    (h d : List Float) (P T n p i : ℕ) (y c : Float) → Limits P T → T ≡ n + 1 → p ≤ P + 1 → i ≡ n * P + p
    → y ≡ phase_sum (tap h P p) d n → c ≡ cond (ltb i (P * T)) (get_or h i nan) zero32
    → add binary32 y (mul binary32 c (get_or d n nan)) ≡ phase_sum (straight_tap h P T p) d T
unfolding straight_tap
last_straight h d P T n p i y c l e m ei ey ec =
    one_tap (straight_tap h P T p) d n y c
    (ey ∙ sums_alike (tap h P p) (straight_tap h P T p) d d n (λ t a. read_before h P T p t (near t P p T l.some_phases (omega arith) m)) (λ t a. refl) n (omega arith))
    (ec ∙ ap (λ (j : ℕ). cond (ltb j (P * T)) (get_or h j nan) zero32) ei)
    ∙ ap (phase_sum (straight_tap h P T p) d) (sym e)

-- where floor(q) is at most P, so is the first place, and in wrapped phase it is below P
pub first_below : (P : ℕ) (q : Float) → 0 < P → first_place false P q < P
unfolding first_place phase0
first_below P q some = mod-lt _ some

pub first_up_to : (straight : Bool) (P : ℕ) (q : Float) → 0 < P → to_unsigned 64 q ≤ P → first_place straight P q ≤ P
unfolding first_place
first_up_to true P q some a = a
first_up_to false P q some a = le_of_lt (first_below P q some)

-- a whole part before the end of the first places, and one that is not
pub within_places : (straight : Bool) (P : ℕ) (q : Float) (w n : ℕ) → w ≡ to_unsigned 64 q → n ≡ cond straight (P + 1) P → w < n → w ≡ first_place straight P q
unfolding first_place phase0
within_places true P q w n e m h = e
within_places false P q w n e m h = let l : to_unsigned 64 q < P = omega (arith, e, m, h) in e ∙ sym (mod-eq_of_lt l)

pub past_places : (straight : Bool) (P : ℕ) (q : Float) (w n : ℕ) → w ≡ to_unsigned 64 q → n ≡ cond straight (P + 1) P → to_unsigned 64 q ≤ P → n ≤ w → 0 ≡ first_place straight P q
unfolding first_place phase0
past_places true P q w n e m a h = absurd (omega (arith, e, m, a, h))
past_places false P q w n e m a h = let t : to_unsigned 64 q ≡ P = omega (arith, e, m, a, h) in rw t (sym (mod_self P))

-- ---- the output at a mu that is cut
pub output_cut : (straight : Bool) (P T : ℕ) (mu : Float) (d h : List Float) → output straight P T (cut_unit mu) d h ≡ output straight P T mu d h
unfolding output phase_position
output_cut straight P T mu d h = rw (← cut_cut mu)

-- ---- the result, from what its parts ensure
whole :
    (straight : Bool) (P T : ℕ) (mu : Float) (d h : List Float) (cut : Float) (p0 p1 : ℕ) (r : Float)
    → cut ≡ cut_unit mu → p0 ≡ first_place straight P (mul binary32 (sub binary32 one32 cut) (of_int binary32 (pos P))) → p1 ≡ second_place straight P p0
    → r ≡ blend (phase_sum (reading straight h P T p0) d T) (phase_sum (reading straight h P T p1) d T) (sub binary32 (mul binary32 (sub binary32 one32 cut) (of_int binary32 (pos P))) (of_int binary32 (pos p0)))
    → r ≡ output straight P T mu d h
unfolding output phase_position fraction
whole straight P T mu d h cut p0 p1 r c a b e = e ∙ rw (b, a, c)

-- by the setting
module _
    (straight : Bool) (P T : ℕ) (mu : Float) (d h : List Float) (cut : Float) (p : ℕ) (r : Float) (cuts : cut ≡ cut_unit mu)
    (first : p ≡ first_place straight P (mul binary32 (sub binary32 one32 cut) (of_int binary32 (pos P))))
  where
    abbrev between : Float
    between = sub binary32 (mul binary32 (sub binary32 one32 cut) (of_int binary32 (pos P))) (of_int binary32 (pos p))

    -- straight phase reads the places p and p + 1
    pub whole_straight :
        straight ≡ true → r ≡ blend (phase_sum (straight_tap h P T p) d T) (phase_sum (straight_tap h P T (p + 1)) d T) between → r ≡ output straight P T mu d h
    unfolding reading second_place
    whole_straight s e = rw s (whole true P T mu d h cut p (p + 1) r cuts (rw s at first) refl e)

    whole_wrapped :
        (p1 : ℕ) → straight ≡ false → p1 ≡ (p + 1) % P → r ≡ blend (phase_sum (tap h P p) d T) (phase_sum (tap h P p1) d T) between → r ≡ output straight P T mu d h
    unfolding reading second_place phase1
    whole_wrapped p1 s next e = rw s (whole false P T mu d h cut p p1 r cuts (rw s at first) next e)

    -- below the last phase the settings read the same cells
    pub whole_before :
        p + 1 < P → r ≡ blend (phase_sum (tap h P p) d T) (phase_sum (tap h P (p + 1)) d T) between → r ≡ output straight P T mu d h
    whole_before m e = go straight refl
      where
        go : (b : Bool) → straight ≡ b → r ≡ output straight P T mu d h
        go true s = whole_straight s (e ∙ rw (sums_before h d P T p (omega arith), sums_before h d P T (p + 1) m))
        go false s = whole_wrapped (p + 1) s (sym (mod-eq_of_lt m)) e

    -- from it on wrapped phase goes back to the first
    pub whole_last :
        0 < P → P ≤ p + 1 → straight ≡ false → r ≡ blend (phase_sum (tap h P p) d T) (phase_sum (tap h P 0) d T) between → r ≡ output straight P T mu d h
    whole_last some m s e =
        let below : p < P = rw (first, s) (first_below P _ some) in
        let l : p + 1 ≡ P = omega (arith, below, m) in
        whole_wrapped 0 s (sym (ap (λ (i : ℕ). i % P) l ∙ mod_self P)) e

-- ---- outputs of prototypes and delays that are alike as far as they are read: the first P × T cells and the first T delays
module _
    (P T : ℕ) (h k d e : List Float) (some : 0 < P)
    (cells : (i : ℕ) → i < P * T → get_or h i nan ≡ get_or k i nan) (delays : (t : ℕ) → t < T → get_or d t nan ≡ get_or e t nan)
  where
    straight_alike : (p t : ℕ) → straight_tap h P T p t ≡ straight_tap k P T p t
    unfolding straight_tap
    straight_alike p t = go (ltb (t * P + p) (P * T)) refl
      where
        go : (b : Bool) → ltb (t * P + p) (P * T) ≡ b → cond b (get_or h (t * P + p) nan) zero32 ≡ cond b (get_or k (t * P + p) nan) zero32
        go true q = cells (t * P + p) (ltb-true _ _ q)
        go false q = refl

    tap_alike : (p : ℕ) → p < P → (t : ℕ) → t < T → tap h P p t ≡ tap k P p t
    unfolding tap
    tap_alike p m t a = cells (t * P + p) (mul-add-lt t P p T a m)

    pub outputs_alike : (straight : Bool) (mu : Float) → output straight P T mu d h ≡ output straight P T mu e k
    unfolding output reading first_place second_place phase0 phase1
    outputs_alike true mu =
        let q : Float = phase_position P mu in
        let p : ℕ = to_unsigned 64 q in
        ap₂ {C = Float} (λ a b. blend a b (fraction q p))
        (sums_alike (straight_tap h P T p) (straight_tap k P T p) d e T (λ t a. straight_alike p t) delays T (omega arith))
        (sums_alike (straight_tap h P T (p + 1)) (straight_tap k P T (p + 1)) d e T (λ t a. straight_alike (p + 1) t) delays T (omega arith))
    outputs_alike false mu =
        let q : Float = phase_position P mu in
        let p0 : ℕ = phase0 P q in
        let p1 : ℕ = phase1 P p0 in
        ap₂ {C = Float} (λ a b. blend a b (fraction q p0))
        (sums_alike (tap h P p0) (tap k P p0) d e T (tap_alike p0 (mod-lt _ some)) delays T (omega arith))
        (sums_alike (tap h P p1) (tap k P p1) d e T (tap_alike p1 (mod-lt _ some)) delays T (omega arith))
