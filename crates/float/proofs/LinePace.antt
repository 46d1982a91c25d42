-- In the line so many values leave a place: an output takes mu by the stride at least further and a value by 4096 back, both as rounded, so theory's pace of mu holds of the
-- resampler; one that is off makes an output of each value.
use Rattle.std.proofs.Common.{◌≡◌, ℕ, zero, suc, ◌-◌, ◌*◌, ◌/◌, ◌^◌, ◌<◌, ◌≤◌, min, Bool, true, false, cond, T, eqb, List, length, pos, sym, refl, ap, ◌∙◌, subst, le_trans, le_of_eq, mul-le-mul_right, zero-mul, mul-one, div-mul-le_self, le_of_mul-le-mul_right, arith}
use mathlib.Core.Path.{subst⁻¹}
use Rattle.std.specs.Prelude.{None}
use native.Mathlib.Decide.{dec_le}
use lib.Ieee.{Float, nan, inf, fin, binary32, of_bits, up, down, round, add, mul, lt, to_unsigned}
use lib.Ieee.Back.{round_whole}
use lib.Ieee.Positive.{num, den, den_pos, positive, own_value, mul_at}
use lib.Ieee.Positive as Positive
use Rattle.theory.specs.Feeds.{feed}
use Rattle.theory.proofs.FloatOrder.{nonneg, round_within}
use Rattle.float.proofs.MuInLine.{most_step, StepOk, step_positive}
use Rattle.float.proofs.MuPaces.{Past}
use Rattle.float.proofs.MuMachines.{HasMu, mu_leaves}
use Rattle.theory.proofs.Paces.{Pace, place_by_pace, pace_off}
use Rattle.float.specs.F32.{one32}
use Rattle.float.specs.PolyphaseOpening.{valid_in_line}
use Rattle.float.specs.PolyphaseResamp.{is_on, consumed, passed, in_line}
use Rattle.float.specs.declared.polyphase_resamp.PolyphaseResampF32.{PolyphaseResampF32}
use Rattle.float.proofs.Flags.{is, is_not}
use Rattle.float.proofs.PolyphaseRange.{step_says, ValidOn, on_says, on_passed, on_consumed}

-- ---- the stride
-- how far an output takes the resampler at least, in 4096ths of a value: the whole 4096ths of a step, less one, since the product is rounded; off, it makes an output of each value
unfoldable pub stride_of : ℕ → Float → ℕ
stride_of P step = cond (eqb P 0) 4096 (to_unsigned 64 (mul binary32 step (of_bits binary32 0x4580_0000)) - 1)

-- a whole part is not above its value
whole_below : (x : Float) → T (nonneg x) → to_unsigned 64 x * den x ≤ num x
unfolding to_unsigned
whole_below nan p = absurd p
whole_below (inf s) p = absurd p
whole_below (fin true m e) p = le_trans (le_of_eq (zero-mul (down e))) (omega arith)
whole_below (fin false m e) p =
    let q : ℕ = m * up e / down e in
    let small : min q (2 ^ 64 - 1) ≤ q = omega arith in
    le_trans (mul-le-mul_right (down e) small) (div-mul-le_self (m * up e) (down e))

abbrev scale : Float
scale = fin false 1 (pos 12)

scaled_is : (step : Float) → T (positive step) → mul binary32 step scale ≡ round binary32 false (num step * 4096) (den step * 1)
scaled_is step p = mul_at binary32 step scale (num step) (den step) 4096 1 p tt (den_pos step) (omega arith) (own_value step p) (refl, refl)

-- the product as rounded, and its whole part
abbrev product : Float → Float
product step = round binary32 false (num step * 4096) (den step * 1)

abbrev whole : Float → ℕ
whole step = to_unsigned 64 (product step)

module _ (step : Float) (ok : StepOk step) where
  abbrev x : Float
  x = product step

  abbrev j : ℕ
  j = whole step

  D : 0 < den step * 1
  D = let d = den_pos step in omega (arith, mul-one (den step))

  -- 64 in 4096ths is 2^18
  under : (num step * 4096) * 1 ≤ 262144 * (den step * 1)
  under =
      let c : num step * 1 ≤ 64 * den step = Positive.le→cross step most_step (step_positive step ok) tt ok.1 in
      omega (arith, c, mul-one (den step))

  most : T (nonneg x) × (num x * 1 ≤ 262144 * den x)
  most = round_within binary32 (num step * 4096) (den step * 1) 262144 1 D (omega arith) (round_whole binary32 false 262144 (omega arith)) under

  few : j ≤ 262144
  few =
      let a : j * den x ≤ num x = whole_below x most.0 in
      let b : j * den x ≤ 262144 * den x = le_trans a (let m = most.1 in omega arith) in
      le_of_mul-le-mul_right b (den_pos x)

  -- were a whole number below the whole part above the exact product, it would be so of the rounded one
  past_by : (b : ℕ) → suc b ≡ j → Dec (b * den step ≤ num step * 4096) → b * den step ≤ num step * 4096
  past_by b e (yes l) = l
  past_by b e (no n) =
      let small : b ≤ 16777216 = let f = few in omega arith in
      let h : (num step * 4096) * 1 ≤ b * (den step * 1) = let z : b * (den step * 1) ≡ b * den step = ap (λ (d : ℕ). b * d) (mul-one (den step)) in omega (arith, n, z) in
      let r = round_within binary32 (num step * 4096) (den step * 1) b 1 D (omega arith) (round_whole binary32 false b small) h in
      let a : suc b * den x ≤ num x = subst⁻¹ (λ (k : ℕ). k * den x ≤ num x) e (whole_below x most.0) in
      let t : suc b * den x ≤ b * den x = le_trans a (let m = r.1 in omega arith) in
      let f : suc b ≤ b = le_of_mul-le-mul_right t (den_pos x) in
      absurd (omega arith)

  past : Past (j - 1) step
  past = go j refl
    where
      go : (k : ℕ) → j ≡ k → Past (k - 1) step
      go zero e = let z : 0 - 1 ≡ 0 = omega arith in subst⁻¹ (λ (k : ℕ). Past k step) z (omega arith)
      go (suc b) e = let z : suc b - 1 ≡ b = omega arith in subst⁻¹ (λ (k : ℕ). Past k step) z (past_by b (sym e) (dec_le (b * den step) (num step * 4096)))

abbrev far : Float → ℕ
far step = to_unsigned 64 (mul binary32 step (of_bits binary32 0x4580_0000)) - 1

far_is : (step : Float) → StepOk step → far step ≡ whole step - 1
unfolding of_bits
far_is step ok = ap (λ (z : Float). to_unsigned 64 z - 1) (scaled_is step (step_positive step ok))

far_past : (step : Float) → StepOk step → Past (far step) step
far_past step ok = subst⁻¹ (λ (k : ℕ). Past k step) (far_is step ok) (past step ok)

far_most : (step : Float) → StepOk step → far step ≤ 262144
far_most step ok = let e = far_is step ok in let f = few step ok in omega arith

-- ---- the resampler, on
record Held (step : Float) (s : PolyphaseResampF32) : Type 0 where
  on : is_on s ≡ true
  by : s.step ≡ step
  fine : ValidOn s

due_on : (s : PolyphaseResampF32) → is_on s ≡ true → in_line.due s ≡ lt s.mu one32
unfolding in_line
due_on s o = rw o

next_on : (s : PolyphaseResampF32) (x : Float) → is_on s ≡ true → in_line.next s x ≡ consumed s x
unfolding in_line
next_on s x o = rw o

now_on : (s : PolyphaseResampF32) (x : Float) → is_on s ≡ true → in_line.now s x ≡ None
unfolding in_line
now_on s x o = rw o

held_passed : (step : Float) (s : PolyphaseResampF32) → Held step s → lt s.mu one32 ≡ true → Held step (passed s)
unfolding passed is_on
held_passed step s h d = record { on = h.on; by = h.by; fine = unfold passed in on_passed s h.fine d }

held_consumed : (step : Float) (s : PolyphaseResampF32) (x : Float) → Held step s → lt s.mu one32 ≡ false → Held step (consumed s x)
unfolding consumed is_on
held_consumed step s x h d = record { on = h.on; by = h.by; fine = unfold consumed in on_consumed s x h.fine d }

has_mu : (step : Float) → HasMu in_line (Held step) (λ s. s.mu) step
unfolding passed consumed of_bits in_line
has_mu step =
    record {
      in_range = λ s h. rw (← h.by) h.fine.range;
      due_below = λ s h d. is (lt s.mu one32) (sym (due_on s h.on) ∙ d);
      not_due = λ s h d. is_not (lt s.mu one32) (sym (due_on s h.on) ∙ d);
      after_good = λ s h d. held_passed step s h (sym (due_on s h.on) ∙ d);
      after_mu = λ s h. ap (λ (z : Float). add binary32 s.mu z) h.by;
      next_good = λ s x h d. subst⁻¹ (Held step) (next_on s x h.on) (held_consumed step s x h (sym (due_on s h.on) ∙ d));
      next_mu = λ s x h. ap (λ (r : PolyphaseResampF32). r.mu) (next_on s x h.on);
      none_now = λ s x h. now_on s x h.on;
    }

-- ---- off
off_pace : Pace in_line 4096 4096 (λ w c s. (w ≡ c) × (is_on s ≡ false))
unfolding in_line
off_pace =
    pace_off in_line (λ s. is_on s ≡ false) (λ x. x) 4096 (omega arith) (λ s o. rw o) (λ s x o. rw o o) (λ s x o. rw o)

-- ---- either way
-- from a state at which nothing is due, c values with c × 4096 ≤ n × stride leave a place of n + 1
pub leaves_place :
    (s : PolyphaseResampF32) (xs : List Float) (n : ℕ) → valid_in_line s ≡ true → in_line.due s ≡ false → length xs * 4096 ≤ n * stride_of s.phases s.step
    → length (feed in_line s xs (suc n)).written < suc n
leaves_place s xs n v d h = go (eqb s.phases 0) refl
  where
    by_on : is_on s ≡ true → stride_of s.phases s.step ≡ far s.step → length (feed in_line s xs (suc n)).written < suc n
    by_on o e =
        let f = on_says s o v in
        let ok : StepOk s.step = step_says s.step f.steps in
        mu_leaves in_line (Held s.step) (λ r. r.mu) s.step (has_mu s.step) (far s.step) ok (far_past s.step ok) (far_most s.step ok) s xs n
        (record { on = o; by = refl; fine = f }) d (subst (λ (j : ℕ). length xs * 4096 ≤ n * j) e h)

    by_off : is_on s ≡ false → stride_of s.phases s.step ≡ 4096 → length (feed in_line s xs (suc n)).written < suc n
    by_off o e =
        place_by_pace in_line 4096 4096 (λ w c r. (w ≡ c) × (is_on r ≡ false)) off_pace s xs n (refl, o) (subst (λ (j : ℕ). length xs * 4096 ≤ n * j) e h)

    go : (b : Bool) → eqb s.phases 0 ≡ b → length (feed in_line s xs (suc n)).written < suc n
    go true e = by_off (unfold is_on in rw e) (unfold stride_of in rw e)
    go false e = by_on (unfold is_on in rw e) (unfold stride_of in rw e)
