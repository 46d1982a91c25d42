-- A block through the cascade in place: what one stage does with the values at the end of a tape, and the loop over the stages, which keeps that the stages left
-- make of the values there what all make of the block.
use mathlib.Core.Path.{◌≡◌, refl, sym, ap, ◌∙◌, subst}
use mathlib.Core.Bool.{cond}
use mathlib.Core.List.{List, [], ◌∷◌, ◌++◌}
use Rattle.std.specs.Bool.{then_some}
use Prim.Native.Nat.{ℕ, zero, suc, ◌+◌, ◌-◌, ◌*◌, ◌/◌, ◌%◌, ◌≤◌, ◌<◌, min}
use native.Mathlib.Omega.{arith}
use lib.Dec.{eqb}
use lib.ListN.{length, get_or, set, take, drop, length-append, length-drop}
use lib.Seq.{length-take-le, get_or-append-add}
use lib.Ieee.{Float, nan}
use Rattle.theory.specs.Sections.{onto, Section, state, outs}
use Rattle.float.specs.F32.{zero32}
use Rattle.theory.proofs.Sections.{outs_few}
use Rattle.half_band.specs.HbfTaps.{stage_taps, decimation}
use Rattle.half_band.specs.inner.FiveStages.{decimation_five}
use Rattle.half_band.specs.Windows.{pairs, spliced}
use Rattle.half_band.specs.inner.Decimator.{decimator}
use Rattle.half_band.specs.HbfStream.{Half, half, stage_in, with_stage, hbf_stream, stream_of}
use Rattle.half_band.specs.inner.HbfStreamBlock.{stage_after, stage_outs}
use Rattle.half_band.specs.declared.hbf_stream.HbfStream.{HbfStream}
use Rattle.half_band.proofs.WholeLists.{length_pairs}
use Rattle.half_band.proofs.Frames.{made_count}
use Rattle.half_band.proofs.Stages.{Sized}
use Rattle.half_band.proofs.StageRuns.{odd_one, odd_is, rested, half_run, half_made}
use Rattle.half_band.proofs.StageLists.{stages_on, with_same, sized_staged, ByStage, by_stage}
use Rattle.half_band.proofs.StageByStage.{stages_all, stages_none}

abbrev T : ℕ → List Float
T = stage_taps decimation

-- none or one value in front of a list
led : (m : ℕ) → m ≤ 1 → (x : Float) (v : List Float) → onto (then_some (eqb m 1) x) v ≡ take m (x ∷ []) ++ v
led zero h x v = refl
led (suc zero) h x v = refl
led (suc (suc m)) h x v = absurd (omega arith)

-- ---- stage k with the arrays lent, over the values of a span
module _ (k : ℕ) (delays held : List Float) (counts : List ℕ) where
  abbrev lent : HbfStream
  lent = stream_of 0 delays held counts

  -- no value
  pub stage_none : (span : List Float) → length span ≡ 0 → (lent ≡ stage_after k lent span) × ((0 ≡ length (stage_outs k lent span)) × (span ≡ stage_outs k lent span))
  stage_none [] e = (sym (with_same T decimation_five k lent), (refl, refl))
  stage_none (x ∷ v) e = absurd (omega arith)

  abbrev window : List Float
  window = take (4 * length (T k)) (drop (96 * k) delays)

  -- some, with `before` samples held before them
  module _ (span : List Float) (before : ℕ) (some_in : 1 ≤ length span) (counted : before ≡ min (get_or counts k 0) 1) where
    abbrev n : ℕ
    n = length span

    abbrev lead : List Float
    lead = take before (get_or held k nan ∷ [])

    abbrev values : List Float
    values = onto (then_some (eqb before 1) (get_or held k nan)) span

    few : before ≤ 1
    few = omega arith

    values_is : values ≡ lead ++ span
    values_is = led before few (get_or held k nan) span

    lead_long : length lead ≡ before
    lead_long = length-take-le before (get_or held k nan ∷ []) few

    values_long : length values ≡ before + n
    values_long = ap length values_is ∙ length-append lead span ∙ ap (λ (m : ℕ). m + n) lead_long

    -- the stage as the arrays have it
    abbrev stage : Half
    stage = record { window = window; held = get_or held k nan; count = get_or counts k 0 }

    stage_is : stage_in T k lent ≡ stage
    unfolding stage_in
    stage_is = refl

    run_is : state (half (T k)) (stage_in T k lent) span ≡ rested (T k) window values
    run_is =
        ap (λ (h : Half). state (half (T k)) h span) stage_is
        ∙ half_run (T k) window (get_or held k nan) (get_or counts k 0) span some_in
        ∙ ap (λ (m : ℕ). rested (T k) window (take m (get_or held k nan ∷ []) ++ span)) (sym counted)
        ∙ ap (rested (T k) window) (sym values_is)

    made_is : stage_outs k lent span ≡ outs (decimator (T k)) window (pairs values)
    made_is =
        ap (λ (h : Half). outs (half (T k)) h span) stage_is
        ∙ half_made (T k) window (get_or held k nan) (get_or counts k 0) span
        ∙ ap (λ (m : ℕ). outs (decimator (T k)) window (pairs (take m (get_or held k nan ∷ []) ++ span))) (sym counted)
        ∙ ap (λ (v : List Float). outs (decimator (T k)) window (pairs v)) (sym values_is)

    last_is : get_or values (before + n - 1) nan ≡ get_or span (n - 1) nan
    last_is = ap (λ (v : List Float). get_or v (before + n - 1) nan) values_is ∙ ap (λ (i : ℕ). get_or (lead ++ span) i nan) (place lead_long) ∙ get_or-append-add lead span (n - 1) nan
      where
        place : length lead ≡ before → before + n - 1 ≡ length lead + (n - 1)
        place e = omega arith

    put : (h : Half) → with_stage T k h lent ≡ stream_of 0 (spliced (96 * k) (4 * length (T k)) h.window delays) (set held k h.held) (set counts k h.count)
    unfolding with_stage
    put h = refl

    pub stage_next :
        (d h : List Float) (c : List ℕ) (z : Float) → d ≡ spliced (96 * k) (4 * length (T k)) (state (decimator (T k)) window (pairs values)) delays
        → z ≡ cond (eqb ((before + n) % 2) 0) zero32 (get_or span (n - 1) nan) → h ≡ set held k z → c ≡ set counts k ((before + n) % 2)
        → stream_of 0 d h c ≡ stage_after k lent span
    stage_next d h c z ed ez eh ec =
        ap (λ (l : List Float). stream_of 0 l h c) ed
        ∙ ap (λ (l : List Float). stream_of 0 (spliced (96 * k) (4 * length (T k)) (state (decimator (T k)) window (pairs values)) delays) l c)
        (eh ∙ ap (set held k) (ez ∙ odd_is values (before + n) (get_or span (n - 1) nan) values_long last_is))
        ∙ ap (λ (l : List ℕ). stream_of 0 (spliced (96 * k) (4 * length (T k)) (state (decimator (T k)) window (pairs values)) delays) (set held k (odd_one values)) l)
        (ec ∙ ap (λ (m : ℕ). set counts k (m % 2)) (sym values_long))
        ∙ sym (put (rested (T k) window values))
        ∙ ap (λ (g : Half). with_stage T k g lent) (sym run_is)

    pub stage_made :
        (long : ℕ) (t : List Float) → drop (long - length (outs (decimator (T k)) window (pairs values))) t ≡ outs (decimator (T k)) window (pairs values)
        → ((before + n) / 2 ≡ length (stage_outs k lent span)) × (drop (long - (before + n) / 2) t ≡ stage_outs k lent span)
    stage_made long t et =
        let many : length (outs (decimator (T k)) window (pairs values)) ≡ (before + n) / 2 = made_count (T k) window (pairs values) ∙ length_pairs values ∙ ap (λ (m : ℕ). m / 2) values_long in (
          sym (ap length made_is ∙ many),
          ap (λ (m : ℕ). drop (long - m) t) (sym many) ∙ et ∙ sym made_is,
        )

-- ---- the depth is nothing to a stage
module _ (depth k : ℕ) (delays held : List Float) (counts : List ℕ) (v : List Float) where
  next_at : (d h : List Float) (c : List ℕ) → stream_of 0 d h c ≡ stage_after k (stream_of 0 delays held counts) v → stream_of depth d h c ≡ stage_after k (stream_of depth delays held counts) v
  unfolding stage_in with_stage
  next_at d h c e = ap (λ (s : HbfStream). stream_of depth s.delays s.held s.counts) e

  outs_at : stage_outs k (stream_of 0 delays held counts) v ≡ stage_outs k (stream_of depth delays held counts) v
  unfolding stage_in
  outs_at = refl

-- ---- the loop over the stages
abbrev left : ℕ → ℕ → Section HbfStream Float Float
left most k = stages_on T decimation_five (most - k) k

-- m values at the end of the tape, which began as tape₀, where k stages are done: what the stages left make of them is what all make of the values v lent
pub record Going (depth most : ℕ) (s₀ : HbfStream) (v tape₀ delays held : List Float) (counts : List ℕ) (tape : List Float) (m k : ℕ) : Type 0 where
  pub stages : k ≤ most
  pub deep : most ≡ min depth 5
  pub sized : Sized (stream_of depth delays held counts)
  pub room : m + 96 ≤ length tape
  pub same : length tape ≡ length tape₀
  pub state_is : state (left most k) (stream_of depth delays held counts) (drop (length tape - m) tape) ≡ state hbf_stream s₀ v
  pub outs_is : outs (left most k) (stream_of depth delays held counts) (drop (length tape - m) tape) ≡ outs hbf_stream s₀ v

module _ (depth most : ℕ) (delays₀ held₀ : List Float) (counts₀ : List ℕ) (n : ℕ) (tape₀ : List Float) where
  abbrev v : List Float
  v = drop (length tape₀ - n) tape₀

  abbrev s₀ : HbfStream
  s₀ = stream_of depth delays₀ held₀ counts₀

  pub going_start : most ≡ min depth 5 → Sized s₀ → n + 96 ≤ length tape₀ → Going depth most s₀ v tape₀ delays₀ held₀ counts₀ tape₀ n 0
  unfolding hbf_stream
  going_start e z fits =
      let many : min depth 5 ≡ most - 0 = omega arith in
      let all = stages_all T decimation_five (most - 0) s₀ v many in
      record { stages = omega arith; deep = e; sized = z; room = fits; same = refl; state_is = all.0; outs_is = all.1 }

  module _ (delays held : List Float) (counts : List ℕ) (tape : List Float) (m k : ℕ) (q : Going depth most s₀ v tape₀ delays held counts tape m k) where
    abbrev s : HbfStream
    s = stream_of depth delays held counts

    abbrev last : List Float
    last = drop (length tape - m) tape

    abbrev made : List Float
    made = stage_outs k s last

    last_long : length last ≡ m
    last_long = omega (arith, length-drop (length tape - m) tape, q.room)

    pub going_next :
        k < most → (d h : List Float) (c : List ℕ) (t : List Float) (r : ℕ) → stream_of 0 d h c ≡ stage_after k (stream_of 0 delays held counts) last → length t ≡ length tape
        → r ≡ length (stage_outs k (stream_of 0 delays held counts) last) → drop (length tape - r) t ≡ stage_outs k (stream_of 0 delays held counts) last
        → Going depth most s₀ v tape₀ d h c t r (k + 1)
    going_next more d h c t r next long count put =
        record {
          stages = omega arith;
          deep = q.deep;
          sized = subst Sized (sym after) (sized_staged T decimation_five most k more under s last q.sized);
          room = omega (arith, few, long, q.room);
          same = long ∙ q.same;
          state_is = ap (state (left most (k + 1)) (stream_of depth d h c)) made_last ∙ ap (λ (u : HbfStream). state (left most (k + 1)) u made) after ∙ sym done.0 ∙ q.state_is;
          outs_is = ap (outs (left most (k + 1)) (stream_of depth d h c)) made_last ∙ ap (λ (u : HbfStream). outs (left most (k + 1)) u made) after ∙ sym done.1 ∙ q.outs_is;
        }
      where
        under : most ≤ 5
        under = omega (arith, q.deep)

        done : ByStage T decimation_five most k more under s last
        done = by_stage T decimation_five most k more under last s q.sized

        after : stream_of depth d h c ≡ stage_after k s last
        after = next_at depth k delays held counts last d h c next

        made_is : stage_outs k (stream_of 0 delays held counts) last ≡ made
        made_is = outs_at depth k delays held counts last

        few : r ≤ m
        few = omega (arith, count, ap length made_is, last_long, outs_few (half (T k)) (stage_in T k s) last)

        made_last : drop (length t - r) t ≡ made
        made_last = ap (λ (j : ℕ). drop (j - r) t) long ∙ put ∙ made_is

    pub going_end : most ≤ k → (stream_of depth delays held counts ≡ state hbf_stream s₀ v) × ((m ≡ length (outs hbf_stream s₀ v)) × (drop (length tape₀ - m) tape ≡ outs hbf_stream s₀ v))
    going_end h =
        let e = stages_none T decimation_five most k s last h in
        let f : last ≡ outs hbf_stream s₀ v = sym e.1 ∙ q.outs_is in
        (sym e.0 ∙ q.state_is, (sym last_long ∙ ap length f, ap (λ (j : ℕ). drop (j - m) tape) (sym q.same) ∙ f))
