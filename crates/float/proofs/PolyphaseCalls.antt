-- What the contracts of the opening, `process_block` and `push` claim follows from the equations they state: an opened state is valid and its runs are
-- the whole list's, and a feed of the machine keeps validity and conserves its run.
use Rattle.std.proofs.Common.{◌≡◌, ℕ, ◌-◌, ◌*◌, ◌<◌, ◌≤◌, Bool, true, false, cond, ap, eqb, ltb, List, [], length, take, drop, sym, refl, ◌∙◌, subst, arith, ltb-false, ltb-true, eq-eqb, eqb-true}
use mathlib.Core.Path.{subst⁻¹}
use lib.Seq.{take-append_seam, drop-nil}
use lib.Ieee.{Float, binary32, sub, lt}
use Rattle.theory.specs.Feeds.{Fed, feed}
use Rattle.theory.specs.Runs.{Runs}
use Rattle.theory.proofs.FeedRules.{Between, Ended, between_start, after_output, ended_full, ended_dry, feed_keeps, feed_short, feed_conserves}
use Rattle.refusal.specs.Outcome.{Outcome, Opened}
use Rattle.refusal.specs.declared.Moved.{Moved}
use Rattle.float.specs.F32.{one32, above_zero}
use Rattle.float.specs.PolyphaseOutput.{output}
use Rattle.theory.specs.Lists.{in_front}
use Rattle.float.specs.PolyphaseOpening.{in_limits, valid, fresh, settings_number, refused_opening, opening, own_taps, reset}
use Rattle.float.specs.inner.Running.{Emitted, emitted, emitted_from}
use Rattle.float.specs.PolyphaseResamp.{consumed, output_of, passed, resampler, Counts, together, state_of, shifted_in, block, block_outcome, block_span, push, push_outcome, push_span}
use Rattle.float.specs.inner.Running.{RanTo}
use Rattle.float.specs.PolyphaseWhole.{Opens, Resets, Conserves, BlockKept, PushKept}
use Rattle.float.specs.declared.polyphase_resamp.PolyphaseResampF32.{PolyphaseResampF32}
use Rattle.float.specs.declared.settings.Setting.{Setting}
use Rattle.float.proofs.PolyphaseOutput.{limits_say, few_cells}
use Rattle.float.proofs.PolyphaseRange.{valid_in_limits, valid_above, valid_consumed, valid_passed, valid_fresh}
use Rattle.float.proofs.DueOutputs.{emitted_keeps, emitted_all}
use Rattle.float.proofs.PolyphaseWhole.{fresh_becomes, becomes_fresh, becomes_all}

-- ---- the opening
refused_opens : (straight : Bool) (P T : ℕ) (h : List Float) (step : Float) (n : ℕ) → (n ≡ 0 → ⊥) → Opens straight P T h step (refused_opening n)
refused_opens straight P T h step n refused =
    record {
      accepted = λ z. absurd (refused z);
      whole = λ z. absurd (refused z);
      every = λ z. absurd (refused z);
      some = λ z. absurd (refused z);
    }

pub opens : (straight : Bool) (P T : ℕ) (h : List Float) (step : Float) (r : Opened PolyphaseResampF32) → r ≡ opening straight P T h step → Opens straight P T h step r
unfolding opening
opens straight P T h step r e = rw e (go (in_limits P T) refl (eqb (length h) (P * T)) refl (above_zero step) refl)
  where
    go :
        (a : Bool) → in_limits P T ≡ a → (b : Bool) → eqb (length h) (P * T) ≡ b → (c : Bool) → above_zero step ≡ c
        → Opens straight P T h step (cond a (cond b (cond c (record { number = 0; state = fresh straight P T h step }) (refused_opening 14)) (refused_opening 13)) (refused_opening 12))
    go false l b m c s = refused_opens straight P T h step 12 (λ z. omega arith)
    go true l false m c s = refused_opens straight P T h step 13 (λ z. omega arith)
    go true l true m false s = refused_opens straight P T h step 14 (λ z. omega arith)
    go true l true m true s =
        let n : length h ≡ P * T = eqb-true (length h) (P * T) m in
        record {
          accepted = λ z. valid_fresh straight P T h step l s;
          whole = λ z xs o r. fresh_becomes straight P T h l n step xs o r;
          every = λ z xs o r. becomes_fresh straight P T h l n step xs o r;
          some = λ z k xs. (_, becomes_all straight P T h l n step k xs);
        }

-- an opening's number is that of its settings
pub opening_number : (straight : Bool) (P T : ℕ) (h : List Float) (step : Float) → settings_number P T (length h) (above_zero step) ≡ (opening straight P T h step).number
unfolding opening
opening_number straight P T h step = go (in_limits P T) (eqb (length h) (P * T)) (above_zero step)
  where
    go :
        (a b c : Bool)
        → cond a (cond b (cond c 0 14) 13) 12
        ≡ (cond a (cond b (cond c (record { number = 0; state = fresh straight P T h step }) (refused_opening 14)) (refused_opening 13)) (refused_opening 12)).number
    go true true true = refl
    go true true false = refl
    go true false c = refl
    go false b c = refl

-- an opening with nothing to refuse
pub opens_fresh :
    (straight : Bool) (P T : ℕ) (h : List Float) (step : Float) → in_limits P T ≡ true → length h ≡ P * T → above_zero step ≡ true
    → opening straight P T h step ≡ record { number = 0; state = fresh straight P T h step }
unfolding opening
opens_fresh straight P T h step l n a = rw (l, eq-eqb (length h) (P * T) n, a)

-- the opening by its number
pub refused_by :
    (straight : Bool) (P T : ℕ) (h : List Float) (step : Float) (n : ℕ) → 0 < n → n ≡ (opening straight P T h step).number
    → refused_opening n ≡ opening straight P T h step
unfolding opening
refused_by straight P T h step n some e = go (in_limits P T) (eqb (length h) (P * T)) (above_zero step) e
  where
    go :
        (a b c : Bool)
        → n ≡ (cond a (cond b (cond c (record { number = 0; state = fresh straight P T h step }) (refused_opening 14)) (refused_opening 13)) (refused_opening 12)).number
        → refused_opening n ≡ cond a (cond b (cond c (record { number = 0; state = fresh straight P T h step }) (refused_opening 14)) (refused_opening 13)) (refused_opening 12)
    go false b c k = ap refused_opening k
    go true false c k = ap refused_opening k
    go true true false k = ap refused_opening k
    go true true true k = absurd (omega arith)

pub record Taken (straight : Bool) (P T : ℕ) (h : List Float) (step : Float) : Type 0 where
  pub limits : in_limits P T ≡ true
  pub long : length h ≡ P * T
  pub above : above_zero step ≡ true
  pub fits : length h ≤ 1024
  pub whole : opening straight P T h step ≡ record { number = 0; state = fresh straight P T h step }

pub taken_by : (straight : Bool) (P T : ℕ) (h : List Float) (step : Float) → 0 ≡ (opening straight P T h step).number → Taken straight P T h step
unfolding opening
taken_by straight P T h step e = go (in_limits P T) refl (eqb (length h) (P * T)) refl (above_zero step) refl e
  where
    go :
        (a : Bool) → in_limits P T ≡ a → (b : Bool) → eqb (length h) (P * T) ≡ b → (c : Bool) → above_zero step ≡ c
        → 0 ≡ (cond a (cond b (cond c (record { number = 0; state = fresh straight P T h step }) (refused_opening 14)) (refused_opening 13)) (refused_opening 12)).number
        → Taken straight P T h step
    go false l b m c s k = absurd (omega arith)
    go true l false m c s k = absurd (omega arith)
    go true l true m false s k = absurd (omega arith)
    go true l true m true s k =
        let n : length h ≡ P * T = eqb-true (length h) (P * T) m in
        record { limits = l; long = n; above = s; fits = omega (arith, n, few_cells P T (limits_say P T l)); whole = opens_fresh straight P T h step l n s }

-- both clauses of the opening's contract
pub opening_answer :
    {straight : Bool} {P T : ℕ} {h : List Float} {step : Float} {r : Opened PolyphaseResampF32} → r ≡ opening straight P T h step → (r ≡ opening straight P T h step) × Opens straight P T h step r
opening_answer {straight} {P} {T} {h} {step} {r} e = (e, opens straight P T h step r e)

-- both clauses of a reset's contract, of a state that is not refused
pub reset_fresh :
    (s : PolyphaseResampF32) (r : Opened PolyphaseResampF32) → valid s ≡ true → length (own_taps s) ≡ s.phases * s.taps
    → r ≡ record { number = 0; state = fresh s.straight s.phases s.taps (own_taps s) s.step } → (r ≡ reset s) × Resets s r
unfolding reset Resets
reset_fresh s r v n e =
    let o : r ≡ opening s.straight s.phases s.taps (own_taps s) s.step =
    e ∙ sym (opens_fresh s.straight s.phases s.taps (own_taps s) s.step (valid_in_limits s v) n (valid_above s v))
    in
    (rw v o, λ t. (rw e, opens s.straight s.phases s.taps (own_taps s) s.step r o))

-- ---- a feed of the machine
fed_valid : (s : PolyphaseResampF32) (xs : List Float) (n : ℕ) → valid s ≡ true → valid (feed resampler s xs n).line ≡ true
unfolding resampler
fed_valid s xs n v = feed_keeps resampler (λ t. valid t ≡ true) (λ t g d. valid_passed t g d) (λ t x g d. valid_consumed t x g) s xs n v

fed_conserves : (s : PolyphaseResampF32) (xs : List Float) (n : ℕ) (written : List Float) → written ≡ (feed resampler s xs n).written → Conserves s xs written (feed resampler s xs n).taken (feed resampler s xs n).line
fed_conserves s xs n written e = let c = feed_conserves resampler s xs n in rw e (record { onward = c.onward; only = c.only })

-- a loop over the machine that has ended is a run
pub finished :
    (q : Setting) (mu₀ : Float) (h d₀ xs o₀ : List Float) (r : Moved) (mu : Float) (d o : List Float)
    (mid : Between resampler (state_of q mu₀ d₀ h) xs o₀ o (state_of q mu d h) r.taken r.written)
    → Ended resampler _ _ _ _ _ _ _ mid → RanTo q mu₀ h d₀ xs o₀ r mu d o
finished q mu₀ h d₀ xs o₀ r mu d o mid e =
    record { state = rw e.is_fed; taken = rw e.is_fed; written = rw e.is_fed (sym e.count); span = rw e.is_fed e.span }

-- the outputs that are due carry it on, where the delay d that they are made of gives those of the state's e; and where a place is left, nothing more is due
pub due_between :
    (straight : Bool) (P T : ℕ) (step : Float) (d e h : List Float) (s₀ : PolyphaseResampF32) (xs o₀ : List Float) (t : ℕ)
    → ((mu : Float) → output straight P T mu d h ≡ output straight P T mu e h)
    → (mu : Float) (w : ℕ) (o : List Float) → Between resampler s₀ xs o₀ o (together straight P T mu step e h) t w
    → (f : Emitted) → f ≡ emitted straight P T step d h (length o - w) mu w o
    → Between resampler s₀ xs o₀ f.span (together straight P T f.mu step e h) t f.written × (f.written < length f.span → lt f.mu one32 ≡ false)
unfolding resampler output_of passed
due_between straight P T step d e h s₀ xs o₀ t alike mu w o b f q =
    rw q (
      emitted_keeps straight P T step d h (λ mu' w' o'. Between resampler s₀ xs o₀ o' (together straight P T mu' step e h) t w')
          (λ mu' w' o' k due place. rw (alike mu') (after_output resampler _ _ _ _ _ _ _ k due place))
          (length o - w) mu w o refl b,
      emitted_all straight P T step d h (length o - w) mu w o refl,
    )

-- and with no samples to consume they are a run
pub emitted_ran :
    (q : Setting) (mu : Float) (h d o₀ : List Float) (e : Emitted) → in_limits q.phases q.phase_taps ≡ true
    → e ≡ emitted_from q.straight q.phases q.phase_taps q.step d h mu 0 o₀ → RanTo q mu h d [] o₀ (record { taken = 0; written = e.written }) e.mu d e.span
unfolding emitted_from resampler
emitted_ran q mu h d o₀ e l same =
    let made = due_between q.straight q.phases q.phase_taps q.step d d h (state_of q mu d h) [] o₀ 0 (λ mu'. refl) mu 0 o₀ (between_start resampler (state_of q mu d h) [] o₀) e (rw l at same) in
    finished q mu h d [] o₀ (record { taken = 0; written = e.written }) e.mu d e.span made.0 (go e made.0 made.1 (ltb e.written (length e.span)) refl)
  where
    go :
        (f : Emitted) (mid : Between resampler (state_of q mu d h) [] o₀ f.span (state_of q f.mu d h) 0 f.written)
        → (f.written < length f.span → lt f.mu one32 ≡ false) → (b : Bool) → ltb f.written (length f.span) ≡ b → Ended resampler _ _ _ _ _ _ _ mid
    go f mid all true b = ended_dry resampler _ _ _ _ _ _ _ mid (all (ltb-true _ _ b)) (omega arith)
    go f mid all false b = ended_full resampler _ _ _ _ _ _ _ mid (ltb-false _ _ b)

-- where two counts leave the same samples
left_alike : {s t : PolyphaseResampF32} {xs w : List Float} {n k : ℕ} → drop n xs ≡ drop k xs → Conserves s xs w n t → Conserves s xs w k t
left_alike {s} {t} {xs} {w} e c =
    record {
      onward = λ o r. c.onward o (subst⁻¹ (λ (l : List Float). Runs resampler t l o) e r);
      only = λ o r. let i = c.only o r in (i.0, subst (λ (l : List Float). Runs resampler t l (drop (length w) o)) e i.1);
    }

-- the outputs in front of the span
front : (w o : List Float) → take (length w) (in_front w o) ≡ w
front w o = take-append_seam w (drop (length w) o)

pub block_kept :
    (s : PolyphaseResampF32) (xs before after : List Float) (r : Outcome Counts PolyphaseResampF32) → r ≡ block_outcome s xs before → after ≡ block_span s xs before
    → BlockKept s xs before after r
unfolding block_outcome block_span block
block_kept s xs before after r er ea =
    let f : Fed PolyphaseResampF32 Float = feed resampler s xs (length before) in
    record {
      accepted = λ v. rw (er, v) (fed_valid s xs (length before) v);
      conserved = λ v. rw (er, ea, v) (fed_conserves s xs (length before) _ (front f.written before));
      drained = λ v. rw (er, v) (feed_short resampler s xs (length before));
    }

-- the answer and the span of a block
abbrev pub BlockMade : PolyphaseResampF32 → List Float → List Float → List Float → Outcome Counts PolyphaseResampF32 → Type 0
BlockMade s xs before after r = (r ≡ block_outcome s xs before) × (after ≡ block_span s xs before)

pub block_ran :
    (q : Setting) (mu₀ : Float) (d₀ h xs before : List Float) (r : Moved) (mu : Float) (d after : List Float) → valid (state_of q mu₀ d₀ h) ≡ true
    → RanTo q mu₀ h d₀ xs before r mu d after
    → BlockMade (state_of q mu₀ d₀ h) xs before after (record { number = 0; value = r; state = state_of q mu d h })
unfolding block_outcome block_span block
block_ran q mu₀ d₀ h xs before r mu d after v e = (rw (v, ← e.written, ← e.taken, ← e.state), rw v e.span)

pub push_kept :
    (s : PolyphaseResampF32) (x : Float) (before after : List Float) (r : Outcome ℕ PolyphaseResampF32) → r ≡ push_outcome s x before → after ≡ push_span s x before
    → PushKept s x before after r
unfolding push_outcome push_span push
push_kept s x before after r er ea =
    let f : Fed PolyphaseResampF32 Float = feed resampler (consumed s x) [] (length before) in
    record {
      accepted = λ v. rw (er, v) (fed_valid (consumed s x) [] (length before) (valid_consumed s x v));
      conserved = λ v. rw (er, ea, v) (left_alike (drop-nil f.taken) (fed_conserves (consumed s x) [] (length before) _ (front f.written before)));
      drained = λ v. rw (er, v) (λ h. (feed_short resampler (consumed s x) [] (length before) h).1);
    }

-- the answer and the span of a push
abbrev pub PushMade : PolyphaseResampF32 → Float → List Float → List Float → Outcome ℕ PolyphaseResampF32 → Type 0
PushMade s x before after r = (r ≡ push_outcome s x before) × (after ≡ push_span s x before)

pub push_ran :
    (q : Setting) (mu₀ : Float) (d₀ h : List Float) (x : Float) (before : List Float) (r : Moved) (mu : Float) (d₁ d after : List Float)
    → valid (state_of q mu₀ d₀ h) ≡ true → d₁ ≡ shifted_in q.phase_taps x d₀ → RanTo q (sub binary32 mu₀ one32) h d₁ [] before r mu d after
    → PushMade (state_of q mu₀ d₀ h) x before after (record { number = 0; value = r.written; state = state_of q mu d h })
unfolding push_outcome push_span push
push_ran q mu₀ d₀ h x before r mu d₁ d after v k e =
    let c : state_of q (sub binary32 mu₀ one32) d₁ h ≡ consumed (state_of q mu₀ d₀ h) x = unfold consumed in rw k in
    (rw (v, e.written, e.state, c), rw v (e.span ∙ rw c))
