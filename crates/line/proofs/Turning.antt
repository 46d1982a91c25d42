-- A turn of the loop that feeds sample by sample: the outputs that are due, the samples that complete no sum and the next sample each have their law, joined here.
use mathlib.Core.Path.{◌≡◌, refl, sym, ap, ap₂, ◌∙◌}
use mathlib.Core.Bool.{Bool, true, false}
use mathlib.Core.List.{List, ◌++◌, append-nil}
use Rattle.std.specs.Prelude.{Option, None, Some}
use Prim.Native.Nat.{ℕ, ◌+◌, ◌-◌, ◌≤◌, ◌<◌}
use borrow.Author.Tests.{le-ltb, lt-ltb}
use lib.Dec.{ltb}
use lib.Seq.{take_all, length-take-le}
use native.Mathlib.Nat.{zero-add, add-zero}
use native.Mathlib.Omega.{arith}
use lib.IntN.{ℤ, pos}
use lib.Ieee.{Float}
use lib.ListN.{length, take, drop, set, get_or, take-append-drop, drop_of_length-le}
use Rattle.theory.specs.Feeds.{Stepped, taking, head_of, step}
use Rattle.theory.specs.Feeds as F
use Rattle.theory.proofs.FeedLoop.{Midway, start, after_took, after_both, after_stopped}
use Rattle.theory.proofs.FeedRules.{feed_end}
use Rattle.theory.proofs.Steps.{step_full, step_ended, step_took}
use Rattle.integer.specs.Stages.{ran}
use Rattle.nonrecursive.specs.EitherKind.{kind_of, next_by, out_by}
use Rattle.nonrecursive.proofs.EitherKind.{either_answers}
use Rattle.chain.specs.Chain.{from2}
use Rattle.line.specs.Openings.{thinner_of}
use Rattle.line.specs.Line.{parts_of}
use Rattle.line.proofs.Lawful.{to_parts}
use Rattle.line.proofs.Taking.{line_waits}
use Rattle.std.specs.Prelude.{cond}
use Rattle.float.specs.inner.Running.{Emitted, emitted_from}
use Rattle.float.specs.PolyphaseResamp.{in_line, is_on}
use Rattle.float.specs.inner.Running.{setting_of}
use Rattle.float.specs.declared.settings.Setting.{Setting}
use Rattle.chain.specs.declared.arrays.Arrays.{Arrays}
use Rattle.chain.specs.declared.clock.Clock.{Clock}
use Rattle.chain.specs.declared.fixed.Fixed.{Fixed}
use Rattle.nonrecursive.specs.declared.thinning.Thinning.TheVariants as thinning
use Rattle.line.specs.Openings.{valid}
use Rattle.line.specs.Line.{line, fed_line}
use Rattle.line.specs.inner.Together.{Takes, Begun, RanTo, line_held, due_at}
use Rattle.line.specs.declared.gauge_line.Line.{Line}
use Rattle.line.proofs.Lawful.{Good, line_lawful}
use Rattle.line.proofs.Left.{left, left_are, left_long}
use Rattle.line.proofs.AtOnce.{with_sums, after_at_once}
use Rattle.line.proofs.Emitting.{Drained, emptied, with_mu}

-- where a step would stop, what the loop keeps is what it answers
stops :
    {l₀ : Line} {xs : List ℤ} {out₀ out : List Float} {l : Line} {t w : ℕ} → Midway line 64 Good line_lawful l₀ xs out₀ out l t w
    → (s : Stepped Line Float) → s ≡ step line (ltb w (length out)) l (head_of (drop t xs)) → s.event ≡ F.stopped → RanTo l₀ xs out₀ out t w s.line
unfolding fed_line
stops {l₀} {xs} {out₀} {out} {l} {t} {w} mid s by v =
    let f = after_stopped line 64 Good line_lawful l₀ xs out₀ out l t w mid s by v in
    record {
      took = sym (ap (λ (g : F.Fed Line Float). g.taken) f.is_fed);
      wrote = sym (ap (λ (g : F.Fed Line Float). length g.written) f.is_fed ∙ f.count);
      line = sym (ap (λ (g : F.Fed Line Float). g.line) f.is_fed);
      span = f.span ∙ sym (ap (λ (g : F.Fed Line Float). g.written ++ drop (length g.written) out₀) f.is_fed);
    }

-- a feed that only integrates its samples: a place is left, nothing is due, and they complete no sum
pub rested :
    (f : Fixed) (c : Clock) (lent : Arrays) (xs : List ℤ) (out : List Float) (counter : ℕ) (sums : List ℤ) → valid (line_held f c lent) ≡ true
    → (f.settings.thinning ≡ thinning.Integrators) × (0 < length out) × (due_at f c.mu ≡ false) × (c.sample_counter + length xs < f.settings.r)
    → counter ≡ c.sample_counter + length xs → sums ≡ (ran f.settings.stages lent.integrators.now (pos 0) xs).state
    → RanTo (line_held f c lent) xs out out (length xs) 0 (with_sums (line_held f c lent) sums counter)
unfolding in_line is_on due_at
rested f c lent xs out counter sums good only moved made =
    let l = line_held f c lent in
    let still : line.due l ≡ false = only.2 in
    let all_left : take (length xs) (left 0 xs) ≡ xs = ap (take (length xs)) (left_are 0 xs) ∙ take_all (length xs) xs (omega arith) in
    let long = left_long 0 xs in
    let fits : (length xs ≤ length (left 0 xs)) × (counter < f.settings.r) = (omega (arith, long), omega (arith, moved, only.3)) in
    let all_made : sums ≡ (ran f.settings.stages lent.integrators.now (pos 0) (take (length xs) (left 0 xs))).state = rw all_left made in
    let sped = after_at_once (start line 64 Good line_lawful l xs out good) only.1 still {b = false} (sym only.0) (λ n. refl) fits moved all_made in
    let here : ltb 0 (length out) ≡ true = lt-ltb 0 (length out) only.1 in
    rw (zero-add (length xs)) at (stops sped _ (step_ended line (with_sums l sums counter) (ltb 0 (length out)) xs (0 + length xs) here still (omega arith)) refl)

-- a feed takes its one sample where a place is left and nothing is due
module _ (f : Fixed) (c : Clock) (lent : Arrays) (xs : List ℤ) (out : List Float) (good : valid (line_held f c lent) ≡ true)
    (one : (length xs ≡ 1) × (0 < length out) × (due_at f c.mu ≡ false)) {o : Option Float} {k : Line} (takes : Takes line (line_held f c lent) (get_or xs 0 (pos 0)) o k) where
  abbrev whole : Line
  whole = line_held f c lent

  alone : record { event = taking o; line = k } ≡ step line (ltb 0 (length out)) whole (head_of (drop 0 xs))
  unfolding in_line is_on due_at
  alone = step_took line whole (ltb 0 (length out)) xs 0 (lt-ltb 0 (length out) one.1) (pos 0) o k one.2 (omega arith) takes.0 takes.1

  pub alone_took : o ≡ None → Midway line 64 Good line_lawful whole xs out out k 1 0
  alone_took v = (after_took line 64 Good line_lawful whole xs out out whole 0 0 (start line 64 Good line_lawful whole xs out good) _ alone (ap taking v)).1

  pub alone_both : {y : Float} → o ≡ Some y → Midway line 64 Good line_lawful whole xs out (set out 0 y) k 1 1
  alone_both {y} v = (after_both line 64 Good line_lawful whole xs out out whole 0 0 (start line 64 Good line_lawful whole xs out good) _ alone y (ap taking v)).2

-- a feed's one sample completes no sum: nothing else moves
pub waited :
    (f : Fixed) (c : Clock) (lent : Arrays) (xs : List ℤ) (out : List Float) → valid (line_held f c lent) ≡ true
    → (length xs ≡ 1) × (0 < length out) × (due_at f c.mu ≡ false) → c.sample_counter + 1 < f.settings.r → {k : Line}
    → thinner_of k ≡ next_by f.settings.thinning (thinner_of (line_held f c lent)) (get_or xs 0 (pos 0)) → (parts_of k).1 ≡ (parts_of (line_held f c lent)).1 → k.cuts ≡ c.cuts
    → RanTo (line_held f c lent) xs out out 1 0 k
unfolding in_line is_on due_at
waited f c lent xs out good one few {k} moved rest cuts =
    let l = line_held f c lent in
    let x = get_or xs 0 (pos 0) in
    let y = either_answers (thinner_of l) x (to_parts l good).0 in
    let none : None ≡ out_by f.settings.thinning (thinner_of l) x = sym (y.1 ∙ ap (λ (b : Bool). cond b None (Some y.0)) (lt-ltb (c.sample_counter + 1) f.settings.r few)) in
    let still : line.due k ≡ false = ap from2.due rest ∙ one.2 in
    stops (alone_took f c lent xs out good one (line_waits l k x moved none rest cuts) refl) _
    (step_ended line k (ltb 0 (length out)) xs 1 (lt-ltb 0 (length out) one.1) still (omega arith)) refl

module _ {l₀ : Line} {xs : List ℤ} {out₀ out : List Float} {l : Line} {t w : ℕ} (mid : Midway line 64 Good line_lawful l₀ xs out₀ out l t w)
    {q : Setting} (setting : q ≡ setting_of l.resampler) {e : Emitted} (due : e ≡ emitted_from q.straight q.phases q.phase_taps q.step l.resampler.delay l.resampler.prototype l.resampler.mu w out) where
  abbrev quiet : Drained l₀ xs out₀ l t e
  quiet = emptied mid setting due

  abbrev place : Bool
  place = ltb e.written (length e.span)

  -- a full span
  pub full : length e.span ≤ e.written → RanTo l₀ xs out₀ e.span t e.written (with_mu l e.mu)
  full h = stops quiet.mid _ (step_full line (with_mu l e.mu) place xs t (le-ltb e.written (length e.span) h)) refl

  -- no sample is left
  pub drained : length xs ≤ t → RanTo l₀ xs out₀ e.span t e.written (with_mu l e.mu)
  drained h = go place refl
    where
      go : (b : Bool) → place ≡ b → RanTo l₀ xs out₀ e.span t e.written (with_mu l e.mu)
      go false p = stops quiet.mid _ (step_full line (with_mu l e.mu) place xs t p) refl
      go true p = stops quiet.mid _ (step_ended line (with_mu l e.mu) place xs t p (quiet.quiet p) h) refl

  -- a place is left
  module _ (room : e.written < length e.span) {b : Bool} (kind : kind_of b ≡ l.thinning) {m counter : ℕ} {sums : List ℤ} (only : 0 < m → b ≡ false)
      (fits : (m ≤ length (left t xs)) × (counter < l.cic.r)) (moved : counter ≡ l.cic.sample_counter + m)
      (made : sums ≡ (ran l.cic.stages l.cic.integrator_state (pos 0) (take m (left t xs))).state) where
    abbrev sped_line : Line
    sped_line = with_sums (with_mu l e.mu) sums counter

    here : place ≡ true
    here = lt-ltb e.written (length e.span) room

    pub sped : Midway line 64 Good line_lawful l₀ xs out₀ e.span sped_line (t + m) e.written
    sped = after_at_once quiet.mid room (quiet.quiet here) kind only fits moved made

    -- no sample
    pub ended : length xs ≤ t + m → RanTo l₀ xs out₀ e.span (t + m) e.written sped_line
    ended h = stops sped _ (step_ended line sped_line place xs (t + m) here (quiet.quiet here) h) refl

    -- the next sample
    module _ (some : t + m < length xs) {o : Option Float} {k : Line} (takes : Takes line sped_line (get_or xs (t + m) (pos 0)) o k) where
      stepped : record { event = taking o; line = k } ≡ step line place sped_line (head_of (drop (t + m) xs))
      stepped = step_took line sped_line place xs (t + m) here (pos 0) o k (quiet.quiet here) some takes.0 takes.1

      pub took : o ≡ None → Midway line 64 Good line_lawful l₀ xs out₀ e.span k (t + m + 1) e.written
      took v = (after_took line 64 Good line_lawful l₀ xs out₀ e.span sped_line (t + m) e.written sped _ stepped (ap taking v)).1

      pub both : {y : Float} → o ≡ Some y → Midway line 64 Good line_lawful l₀ xs out₀ (set e.span e.written y) k (t + m + 1) (e.written + 1)
      both {y} v = (after_both line 64 Good line_lawful l₀ xs out₀ e.span sped_line (t + m) e.written sped _ stepped y (ap taking v)).2

-- no sample is left and nothing is due: the feed has ended where the batches did
pub ended_here :
    (f : Fixed) (c : Clock) (lent : Arrays) (l : Line) (xs : List ℤ) (before after : List Float) (t w : ℕ) → length xs ≤ t → due_at f c.mu ≡ false
    → Begun l xs before after t w (line_held f c lent) → RanTo l xs before after t w (line_held f c lent)
unfolding in_line is_on due_at fed_line
ended_here f c lent l xs before after t w none still b =
    let k = line_held f c lent in
    let places = length before - w in
    let idles : F.feed line k (drop t xs) (length before - w) ≡ F.idle k = ap (λ (v : List ℤ). F.feed line k v places) (drop_of_length-le xs none) ∙ feed_end line k places still in
    let front : length (take w after) ≡ w = length-take-le w after (let s = b.same in let q = b.some_written in omega (arith, s, q)) in
    let wrote : (fed_line l xs (length before)).written ≡ take w after = b.wrote ∙ ap (λ (g : F.Fed Line Float). take w after ++ g.written) idles ∙ append-nil (take w after) in
    record {
      took = sym (b.took ∙ ap (λ (g : F.Fed Line Float). t + g.taken) idles ∙ add-zero t);
      wrote = sym (ap length wrote ∙ front);
      line = sym (b.line ∙ ap (λ (g : F.Fed Line Float). g.line) idles);
      span =
          sym (take-append-drop w after)
          ∙ ap₂ {C = List Float} (λ (x y : List Float). x ++ y) (sym wrote) (b.rest ∙ ap (λ (n : ℕ). drop n before) (sym (ap length wrote ∙ front)));
    }
