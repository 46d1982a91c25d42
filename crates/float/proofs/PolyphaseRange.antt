-- mu stays in its range from every valid state, beside the line and in it, so that no later call is refused; and in the line 64 outputs between two
-- values suffice. What the tests say is turned into the ranges of theory's `MuBeside` and `MuInLine`.
use Rattle.std.proofs.Common.{◌≡◌, ℕ, zero, suc, ◌*◌, ◌<◌, Bool, true, false, cond, not, ◌&&◌, ◌||◌, T, eqb, List, refl, sym, ap, ◌∙◌, mul-pos, zero-mul, arith, ltb→lt, lt→ltb}
use mathlib.Core.Bool.{false≢true}
use lib.Ieee.{Float, nan, inf, fin, binary32, of_bits, up, down, add, lt, le, fits}
use lib.Ieee.Fits.{up_pos}
use lib.Ieee.Positive.{positive, first_pos}
use lib.Ieee.Scale.{finite}
use Rattle.std.specs.Float.{float_is_finite}
use Rattle.theory.proofs.Machines.{Lawful, enough_by_rank}
use Rattle.theory.proofs.FloatOrder.{zero_f, le_trans_nonneg, positive_nonneg}
use Rattle.float.proofs.MuInLine.{most_step, StepOk, InRange, AtLeast, step_positive, in_nonneg, at_start, reached, grows}
use Rattle.float.proofs.MuInLine as line
use Rattle.float.proofs.MuBeside.{max_f, most_finite, StepPos, InWide, low_nonneg, limit_in, wide_input, wide_output}
use Rattle.float.specs.F32.{zero32, one32, largest32, above_zero}
use Rattle.float.specs.PolyphaseOpening.{in_limits, mu_from, lowest_mu, valid_at, least_line_step, most_line_step, step_in_line, valid_in_line_at, valid, valid_in_line, fresh}
use Rattle.float.specs.PolyphaseResamp.{consumed, passed, is_on, in_line}
use Rattle.float.specs.declared.polyphase_resamp.PolyphaseResampF32.{PolyphaseResampF32}
use Rattle.float.proofs.PolyphaseOutput.{Limits, limits_say}
use Rattle.std.proofs.lemmas.Bool.{and_parts, and_from, or_right}
use Rattle.float.proofs.Flags.{is, is_not, so, not_so}

-- ---- what the tests say
-- finite and above zero
above_zero_lem : (x : Float) → T (lt zero_f x) → T (le x max_f) → T (positive x)
unfolding lt le
above_zero_lem nan t u = absurd t
above_zero_lem (inf true) t u = absurd t
above_zero_lem (inf false) t u = absurd u
above_zero_lem (fin true m e) t u = absurd t
above_zero_lem (fin false m e) t u = lt→ltb 0 m (first_pos m (up e) (let h = ltb→lt (0 * down e) (m * up e * 1) t in omega (arith, zero-mul (down e))))

above_says : (step : Float) → above_zero step ≡ true → StepPos step
unfolding above_zero of_bits
above_says step h =
    let b = and_parts (lt zero32 step) (le step largest32) h in
    (above_zero_lem step (is (lt zero32 step) b.0) (is (le step largest32) b.1), is (le step largest32) b.1)

zero_below : (x : Float) → T (positive x) → T (lt zero_f x)
unfolding lt
zero_below nan p = absurd p
zero_below (inf s) p = absurd p
zero_below (fin true m e) p = absurd p
zero_below (fin false m e) p = lt→ltb (0 * down e) (m * up e * 1) (let h : 0 < m * up e = mul-pos (ltb→lt 0 m p) (up_pos e) in omega (arith, zero-mul (down e)))

above_so : (step : Float) → StepPos step → above_zero step ≡ true
unfolding above_zero of_bits
above_so step p = and_from (lt zero32 step) (le step largest32) (so (lt zero32 step) (zero_below step p.0)) (so (le step largest32) p.1)

-- of an f32 the test says what 01 does: above zero and finite
pub above_zero_is : (x : Float) → fits binary32 x ≡ true → above_zero x ≡ (lt zero32 x && finite x)
unfolding above_zero of_bits lt le
above_zero_is nan f = refl
above_zero_is (inf true) f = refl
above_zero_is (inf false) f = refl
above_zero_is (fin true m e) f = refl
above_zero_is (fin false zero e) f = rw (zero-mul (up e), zero-mul (down e))
above_zero_is (fin false (suc m) e) f =
    ap (λ (b : Bool). lt zero32 (fin false (suc m) e) && b) (so (le (fin false (suc m) e) max_f) (most_finite (fin false (suc m) e) (lt→ltb 0 (suc m) (omega arith)) (is (fits binary32 (fin false (suc m) e)) f)))

-- above zero, an f32 that is finite is at most the largest
pub at_most_largest : (x : Float) → T (fits binary32 x) → lt zero32 x ≡ true → float_is_finite x ≡ le x largest32
unfolding float_is_finite above_zero
at_most_largest x f h = same x ∙ sym (ap (λ (b : Bool). b && finite x) h) ∙ sym (above_zero_is x (so (fits binary32 x) f)) ∙ ap (λ (b : Bool). b && le x largest32) h
  where
    same : (x : Float) → float_is_finite x ≡ finite x
    same nan = refl
    same (inf s) = refl
    same (fin s m e) = refl

wide_says : (step mu : Float) → mu_from lowest_mu step mu ≡ true → InWide step mu
unfolding mu_from of_bits
wide_says step mu h =
    let b = and_parts (le lowest_mu mu) (le mu (add binary32 one32 step)) h in
    (is (le lowest_mu mu) b.0, is (le mu (add binary32 one32 step)) b.1)

wide_so : (step mu : Float) → InWide step mu → mu_from lowest_mu step mu ≡ true
unfolding mu_from of_bits
wide_so step mu w = and_from (le lowest_mu mu) (le mu (add binary32 one32 step)) (so (le lowest_mu mu) w.0) (so (le mu (add binary32 one32 step)) w.1)

-- ---- beside the line
record Valid (s : PolyphaseResampF32) : Type 0 where
  limits : in_limits s.phases s.taps ≡ true
  above : above_zero s.step ≡ true
  range : InWide s.step s.mu

valid_says : (s : PolyphaseResampF32) → valid s ≡ true → Valid s
unfolding valid valid_at
valid_says s h =
    let a = and_parts (in_limits s.phases s.taps) (above_zero s.step && mu_from lowest_mu s.step s.mu) h in
    let b = and_parts (above_zero s.step) (mu_from lowest_mu s.step s.mu) a.1 in
    record { limits = a.0; above = b.0; range = wide_says s.step s.mu b.1 }

valid_so : (s : PolyphaseResampF32) → Valid s → valid s ≡ true
unfolding valid valid_at
valid_so s v =
    and_from (in_limits s.phases s.taps) (above_zero s.step && mu_from lowest_mu s.step s.mu) v.limits
    (and_from (above_zero s.step) (mu_from lowest_mu s.step s.mu) v.above (wide_so s.step s.mu v.range))

pub valid_in_limits : (s : PolyphaseResampF32) → valid s ≡ true → in_limits s.phases s.taps ≡ true
valid_in_limits s h = (valid_says s h).limits

pub valid_above : (s : PolyphaseResampF32) → valid s ≡ true → above_zero s.step ≡ true
valid_above s h = (valid_says s h).above

pub valid_limits : (s : PolyphaseResampF32) → valid s ≡ true → Limits s.phases s.taps
valid_limits s h = limits_say s.phases s.taps (valid_in_limits s h)

-- a consumed sample, whatever mu is
pub valid_consumed : (s : PolyphaseResampF32) (x : Float) → valid s ≡ true → valid (consumed s x) ≡ true
unfolding consumed of_bits
valid_consumed s x h =
    let v = valid_says s h in
    valid_so (consumed s x) (record { limits = v.limits; above = v.above; range = wide_input s.step s.mu (above_says s.step v.above) v.range })

-- an output that is due
pub valid_passed : (s : PolyphaseResampF32) → valid s ≡ true → lt s.mu one32 ≡ true → valid (passed s) ≡ true
unfolding passed of_bits
valid_passed s h d =
    let v = valid_says s h in
    valid_so (passed s)
    (record { limits = v.limits; above = v.above; range = wide_output s.step s.mu (above_says s.step v.above) v.range (is (lt s.mu one32) d) })

-- an opened state
pub valid_fresh : (straight : Bool) (P T : ℕ) (h : List Float) (step : Float) → in_limits P T ≡ true → above_zero step ≡ true → valid (fresh straight P T h step) ≡ true
unfolding fresh of_bits le
valid_fresh straight P T h step l a =
    valid_so (fresh straight P T h step) (record { limits = l; above = a; range = (tt, (limit_in step (above_says step a)).0) })

-- ---- in the line
pub step_says : (step : Float) → step_in_line step ≡ true → StepOk step
unfolding step_in_line of_bits
step_says step h =
    let b = and_parts (le least_line_step step) (le step most_line_step) h in
    (is (le least_line_step step) b.0, is (le step most_line_step) b.1)

step_pos : (step : Float) → StepOk step → StepPos step
unfolding le
step_pos step s = let p : T (positive step) = step_positive step s in (p, le_trans_nonneg step most_step max_f (positive_nonneg step p) tt tt s.1 tt)

range_says : (step mu : Float) → mu_from zero32 step mu ≡ true → InRange step mu
unfolding mu_from of_bits
range_says step mu h =
    let b = and_parts (le zero32 mu) (le mu (add binary32 one32 step)) h in
    (is (le zero32 mu) b.0, is (le mu (add binary32 one32 step)) b.1)

range_so : (step mu : Float) → InRange step mu → mu_from zero32 step mu ≡ true
unfolding mu_from of_bits
range_so step mu w = and_from (le zero32 mu) (le mu (add binary32 one32 step)) (so (le zero32 mu) w.0) (so (le mu (add binary32 one32 step)) w.1)

pub record ValidOn (s : PolyphaseResampF32) : Type 0 where
  pub limits : in_limits s.phases s.taps ≡ true
  pub steps : step_in_line s.step ≡ true
  pub range : InRange s.step s.mu

pub on_says : (s : PolyphaseResampF32) → is_on s ≡ true → valid_in_line s ≡ true → ValidOn s
unfolding is_on valid_in_line valid_in_line_at
on_says s o h = go (eqb s.phases 0) o h
  where
    go : (b : Bool) → not b ≡ true → (b || (in_limits s.phases s.taps && (step_in_line s.step && mu_from zero32 s.step s.mu))) ≡ true → ValidOn s
    go true o h = absurd (false≢true o)
    go false o h =
        let a = and_parts (in_limits s.phases s.taps) (step_in_line s.step && mu_from zero32 s.step s.mu) h in
        let b = and_parts (step_in_line s.step) (mu_from zero32 s.step s.mu) a.1 in
        record { limits = a.0; steps = b.0; range = range_says s.step s.mu b.1 }

on_so : (s : PolyphaseResampF32) → ValidOn s → valid_in_line s ≡ true
unfolding valid_in_line valid_in_line_at
on_so s v =
    or_right (eqb s.phases 0) (in_limits s.phases s.taps && (step_in_line s.step && mu_from zero32 s.step s.mu))
    (and_from (in_limits s.phases s.taps) (step_in_line s.step && mu_from zero32 s.step s.mu) v.limits
    (and_from (step_in_line s.step) (mu_from zero32 s.step s.mu) v.steps (range_so s.step s.mu v.range)))

-- a state that is on and accepted is inside 12's limits
pub on_in_limits : (s : PolyphaseResampF32) → is_on s ≡ true → valid_in_line s ≡ true → in_limits s.phases s.taps ≡ true
on_in_limits s o h = (on_says s o h).limits

pub on_step : (s : PolyphaseResampF32) → is_on s ≡ true → valid_in_line s ≡ true → step_in_line s.step ≡ true
on_step s o h = (on_says s o h).steps

-- what is valid in the line and on is valid beside it
pub on_valid : (s : PolyphaseResampF32) → is_on s ≡ true → valid_in_line s ≡ true → valid s ≡ true
on_valid s o h =
    let v = on_says s o h in
    let k = step_says s.step v.steps in
    valid_so s (record { limits = v.limits; above = above_so s.step (step_pos s.step k); range = (low_nonneg s.mu (in_nonneg s.step s.mu k v.range), v.range.1) })

-- an output that is due, and a consumed value, with the resampler on
pub on_passed : (s : PolyphaseResampF32) → ValidOn s → lt s.mu one32 ≡ true → ValidOn (passed s)
unfolding passed of_bits
on_passed s v d =
    record { limits = v.limits; steps = v.steps; range = line.after_output s.step s.mu (step_says s.step v.steps) v.range (is (lt s.mu one32) d) }

pub on_consumed : (s : PolyphaseResampF32) (x : Float) → ValidOn s → lt s.mu one32 ≡ false → ValidOn (consumed s x)
unfolding consumed of_bits
on_consumed s x v d =
    record {
      limits = v.limits;
      steps = v.steps;
      range = line.after_input s.step s.mu (step_says s.step v.steps) v.range (is_not (lt s.mu one32) d);
    }

-- the mu of a state that is on is k / 64 at least
Rank : ℕ → PolyphaseResampF32 → Type 0
Rank k s = is_on s ≡ true → AtLeast k s.mu

-- of a due output
due_says : (s : PolyphaseResampF32) → in_line.due s ≡ true → (is_on s ≡ true) × (lt s.mu one32 ≡ true)
unfolding in_line
due_says s d = and_parts (is_on s) (lt s.mu one32) d

line_after : (s : PolyphaseResampF32) → valid_in_line s ≡ true → in_line.due s ≡ true → valid_in_line (in_line.after s) ≡ true
unfolding in_line
line_after s g d = let b = due_says s d in on_so (passed s) (on_passed s (on_says s b.0 g) b.1)

line_next : (s : PolyphaseResampF32) (x : Float) → valid_in_line s ≡ true → in_line.due s ≡ false → valid_in_line (in_line.next s x) ≡ true
unfolding in_line
line_next s x g d = go (is_on s) refl d
  where
    go : (b : Bool) → is_on s ≡ b → (b && lt s.mu one32) ≡ false → valid_in_line (cond b (consumed s x) s) ≡ true
    go true o d = on_so (consumed s x) (on_consumed s x (on_says s o g) d)
    go false o d = g

rank_rises : (k : ℕ) (s : PolyphaseResampF32) → k < 64 → valid_in_line s ≡ true → Rank k s → in_line.due s ≡ true → Rank (suc k) (in_line.after s)
unfolding Rank in_line passed of_bits
rank_rises k s l g r d o =
    let b = due_says s d in
    let v = on_says s b.0 g in
    grows s.step s.mu k (step_says s.step v.steps) v.range (is (lt s.mu one32) b.1) l (r b.0)

rank_stops : (s : PolyphaseResampF32) → valid_in_line s ≡ true → Rank 64 s → in_line.due s ≡ false
unfolding Rank in_line of_bits
rank_stops s g r = go (is_on s) refl
  where
    go : (b : Bool) → is_on s ≡ b → (b && lt s.mu one32) ≡ false
    go true o =
        let v = on_says s o g in
        not_so (lt s.mu one32) (reached s.mu (in_nonneg s.step s.mu (step_says s.step v.steps) v.range) (r o))
    go false o = refl

-- in the line no step leads to a state that is refused, and 64 outputs between two values suffice
pub line_lawful : Lawful in_line 64 (λ s. valid_in_line s ≡ true)
unfolding Rank
line_lawful =
    record {
      good_after = line_after;
      good_next = line_next;
      enough = enough_by_rank in_line (λ s. valid_in_line s ≡ true) Rank 64 line_after rank_rises rank_stops (λ s g o. at_start s.mu);
    }

-- an opened state, and one that is off
pub line_fresh : (straight : Bool) (P T : ℕ) (h : List Float) (step : Float) → in_limits P T ≡ true → step_in_line step ≡ true → valid_in_line (fresh straight P T h step) ≡ true
unfolding fresh of_bits le
line_fresh straight P T h step l a =
    on_so (fresh straight P T h step) (record { limits = l; steps = a; range = (tt, (limit_in step (step_pos step (step_says step a))).0) })

pub line_off : (s : PolyphaseResampF32) → s.phases ≡ 0 → valid_in_line s ≡ true
unfolding valid_in_line valid_in_line_at
line_off s e = rw e
