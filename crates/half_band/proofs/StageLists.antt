-- Any list through a cascade, stage by stage, is the list sample by sample, whatever its stages hold: the stages behind stage k don't see it, so they may run
-- after all that it makes of the list.
use mathlib.Core.Path.{◌≡◌, refl, sym, ap, ◌∙◌}
use mathlib.Core.List.{List, [], ◌∷◌}
use Rattle.std.specs.Prelude.{Option, None, Some}
use Prim.Native.Nat.{ℕ, zero, suc, ◌+◌, ◌-◌, ◌*◌, ◌≤◌, ◌<◌}
use native.Mathlib.Numerals.{add-one}
use native.Mathlib.Omega.{arith}
use lib.ListN.{length, get_or, set}
use lib.Seq.{set-set, set-get_or, set_comm}
use lib.Ieee.{Float, nan}
use Rattle.theory.specs.Sections.{Section, onto, state, outs}
use Rattle.theory.proofs.Sections.{state_keeps}
use Rattle.half_band.specs.HbfStream.{Half, half, Passed, stage_in, with_stage, through, stream_of}
use Rattle.half_band.specs.declared.hbf_stream.HbfStream.{HbfStream}
use Rattle.half_band.proofs.Splicing.{splice_same, splice_again, splice_order}
use Rattle.half_band.specs.inner.FiveStages.{FiveStages}
use Rattle.half_band.proofs.Passing.{none_through}
use Rattle.half_band.proofs.Stages.{Sized, half_long, window_long, found, sized_with, elsewhere, sized_through, before_through}

module _ (taps : ℕ → List Float) (five : FiveStages taps) where
  -- n stages from stage k on
  abbrev pub stages_on : ℕ → ℕ → Section HbfStream Float Float
  stages_on n k = record { next = λ s x. (through taps n k (Some x) s).state; out = λ s x. (through taps n k (Some x) s).out }

  fits : (k : ℕ) → k < 5 → 4 * length (taps k) ≤ 96
  fits k h = omega (arith, five.most k h)

  -- a stage put back as it was
  pub with_same : (k : ℕ) (s : HbfStream) → with_stage taps k (stage_in taps k s) s ≡ s
  unfolding stage_in with_stage
  with_same k s =
      ap (λ (d : List Float). stream_of s.depth d (set s.held k (get_or s.held k nan)) (set s.counts k (get_or s.counts k 0))) (splice_same (96 * k) (4 * length (taps k)) s.delays)
      ∙ ap (λ (h : List Float). stream_of s.depth s.delays h (set s.counts k (get_or s.counts k 0))) (set-get_or s.held k nan)
      ∙ ap (λ (c : List ℕ). stream_of s.depth s.delays s.held c) (set-get_or s.counts k 0)

  -- stage k put in
  module _ (k : ℕ) (h : Half) (in_range : k < 5) (long : length h.window ≡ 4 * length (taps k)) where
    -- another in its place
    with_again : (g : Half) (s : HbfStream) → Sized s → with_stage taps k g (with_stage taps k h s) ≡ with_stage taps k g s
    unfolding with_stage
    with_again g s z =
        ap (λ (d : List Float). stream_of s.depth d (set (set s.held k h.held) k g.held) (set (set s.counts k h.count) k g.count))
        (splice_again (96 * k) (4 * length (taps k)) h.window s.delays long (omega (arith, fits k in_range, z.delays)) g.window)
        ∙ ap (λ (l : List Float). stream_of s.depth (with_stage taps k g s).delays l (set (set s.counts k h.count) k g.count)) (set-set s.held k h.held g.held)
        ∙ ap (λ (l : List ℕ). stream_of s.depth (with_stage taps k g s).delays (set s.held k g.held) l) (set-set s.counts k h.count g.count)

    -- and one behind it
    with_order : (j : ℕ) (g : Half) (s : HbfStream) → k < j → j < 5 → Sized s → with_stage taps j g (with_stage taps k h s) ≡ with_stage taps k h (with_stage taps j g s)
    unfolding with_stage
    with_order j g s l b z =
        ap (λ (d : List Float). stream_of s.depth d (set (set s.held k h.held) j g.held) (set (set s.counts k h.count) j g.count))
        (splice_order (96 * k) (4 * length (taps k)) h.window s.delays long (omega (arith, fits k in_range, z.delays)) (96 * j) (4 * length (taps j)) g.window (omega (arith, fits k in_range)) (omega (arith, z.delays)))
        ∙ ap (λ (t : List Float). stream_of s.depth (with_stage taps k h (with_stage taps j g s)).delays t (set (set s.counts k h.count) j g.count)) (set_comm s.held k j h.held g.held other)
        ∙ ap (λ (t : List ℕ). stream_of s.depth (with_stage taps k h (with_stage taps j g s)).delays (set (set s.held j g.held) k h.held) t) (set_comm s.counts k j h.count g.count other)
      where
        other : k ≡ j → ⊥
        other = omega arith

    -- the stages behind it go on as they would
    unseen :
        (n j : ℕ) (o : Option Float) (s : HbfStream) → k < j → j + n ≤ 5 → Sized s
        → through taps n j o (with_stage taps k h s) ≡ record { out = (through taps n j o s).out; state = with_stage taps k h (through taps n j o s).state }
    unfolding through
    unseen zero j o s l b z = refl
    unseen (suc n) j None s l b z = refl
    unseen (suc n) j (Some x) s l b z =
        let other : j ≡ k → ⊥ = omega arith in
        ap (λ (g : Half). through taps n (suc j) ((half (taps j)).out g x) (with_stage taps j ((half (taps j)).next g x) (with_stage taps k h s))) (elsewhere taps five k h s in_range z long j (omega arith) other)
        ∙ ap (through taps n (suc j) ((half (taps j)).out (stage_in taps j s) x)) (with_order j ((half (taps j)).next (stage_in taps j s) x) s l (omega arith) z)
        ∙ unseen n (suc j) ((half (taps j)).out (stage_in taps j s) x) (with_stage taps j ((half (taps j)).next (stage_in taps j s) x) s) (omega arith) (omega arith)
        (sized_through taps five 1 j (Some x) s (omega arith) z)

  -- a stage keeps its window's length
  pub kept_long : (k : ℕ) → k < 5 → (h : Half) (v : List Float) → length h.window ≡ 4 * length (taps k) → length (state (half (taps k)) h v).window ≡ 4 * length (taps k)
  kept_long k b h v e = state_keeps (half (taps k)) (λ g. length g.window ≡ 4 * length (taps k)) (λ g x p. half_long (taps k) g x (omega (arith, five.least k b)) ∙ p) h v e

  -- stage k of N
  module _ (N k : ℕ) (in_range : k < N) (deep : N ≤ 5) where
    under : k < 5
    under = omega arith

    abbrev whole : Section HbfStream Float Float
    whole = stages_on (N - k) k

    abbrev behind : Section HbfStream Float Float
    behind = stages_on (N - (k + 1)) (k + 1)

    abbrev one : Section Half Float Float
    one = half (taps k)

    abbrev pub staged : HbfStream → List Float → HbfStream
    staged s v = with_stage taps k (state one (stage_in taps k s) v) s

    pub sized_staged : (s : HbfStream) (v : List Float) → Sized s → Sized (staged s v)
    sized_staged s v z = sized_with taps five k (state one (stage_in taps k s) v) s under z (kept_long k under (stage_in taps k s) v (window_long taps five k s under z))

    -- the list through the stages is the list through stage k, and what it makes through the others
    abbrev pub ByStage : HbfStream → List Float → Type 0
    ByStage s v =
        (state whole s v ≡ state behind (staged s v) (outs one (stage_in taps k s) v))
        × (outs whole s v ≡ outs behind (staged s v) (outs one (stage_in taps k s) v))

    module _ (x : Float) (s : HbfStream) (z : Sized s) where
      abbrev after : Half
      after = one.next (stage_in taps k s) x

      abbrev made : Option Float
      made = one.out (stage_in taps k s) x

      abbrev passed : Passed
      passed = through taps (N - (k + 1)) (k + 1) made (with_stage taps k after s)

      step_is : through taps (N - k) k (Some x) s ≡ passed
      unfolding through
      step_is = ap (λ (m : ℕ). through taps m k (Some x) s) less ∙ ap (λ (j : ℕ). through taps (N - (k + 1)) j made (with_stage taps k after s)) (sym (add-one k))
        where
          less : N - k ≡ suc (N - (k + 1))
          less = omega arith

      after_long_lem : length after.window ≡ 4 * length (taps k)
      after_long_lem = kept_long k under (stage_in taps k s) (x ∷ []) (window_long taps five k s under z)

      sized_after : Sized (with_stage taps k after s)
      sized_after = sized_with taps five k after s under z after_long_lem

      sized_passed : Sized passed.state
      sized_passed = sized_through taps five (N - (k + 1)) (k + 1) made (with_stage taps k after s) (omega arith) sized_after

      same_stage : stage_in taps k passed.state ≡ after
      same_stage =
          before_through taps five (N - (k + 1)) (k + 1) made (with_stage taps k after s) (omega arith) sized_after k (omega arith)
          ∙ found taps five k after s under z after_long_lem

      module _ (v : List Float) (ih : ByStage passed.state v) where
        abbrev last : Half
        last = state one after v

        abbrev more : List Float
        more = outs one after v

        at_last : through taps (N - (k + 1)) (k + 1) made (with_stage taps k last s) ≡ record { out = passed.out; state = with_stage taps k last passed.state }
        at_last =
            ap (through taps (N - (k + 1)) (k + 1) made) (sym (with_again k after under after_long_lem last s z))
            ∙ unseen k last under (kept_long k under after v after_long_lem) (N - (k + 1)) (k + 1) made (with_stage taps k after s) (omega arith) (omega arith) sized_after

        state_on : (o : Option Float) (t : HbfStream) → state behind (through taps (N - (k + 1)) (k + 1) o t).state more ≡ state behind t (onto o more)
        state_on None t = ap (λ (p : Passed). state behind p.state more) (none_through taps (N - (k + 1)) (k + 1) t)
        state_on (Some y) t = refl

        outs_on : (o : Option Float) (t : HbfStream)
            → onto (through taps (N - (k + 1)) (k + 1) o t).out (outs behind (through taps (N - (k + 1)) (k + 1) o t).state more) ≡ outs behind t (onto o more)
        outs_on None t = ap (λ (p : Passed). onto p.out (outs behind p.state more)) (none_through taps (N - (k + 1)) (k + 1) t)
        outs_on (Some y) t = refl

        by_stage_more : ByStage s (x ∷ v)
        by_stage_more = (
          ap (λ (p : Passed). state whole p.state v) step_is
              ∙ ih.0
              ∙ ap (λ (g : Half). state behind (with_stage taps k (state one g v) passed.state) (outs one g v)) same_stage
              ∙ ap (λ (p : Passed). state behind p.state more) (sym at_last)
              ∙ state_on made (with_stage taps k last s),
          ap (λ (p : Passed). onto p.out (outs whole p.state v)) step_is
              ∙ ap (onto passed.out) (
              ih.1
              ∙ ap (λ (g : Half). outs behind (with_stage taps k (state one g v) passed.state) (outs one g v)) same_stage
              )
              ∙ ap (λ (p : Passed). onto p.out (outs behind p.state more)) (sym at_last)
              ∙ outs_on made (with_stage taps k last s),
        )

    pub by_stage : (v : List Float) (s : HbfStream) → Sized s → ByStage s v
    by_stage [] s z = (sym (with_same k s), refl)
    by_stage (x ∷ v) s z = by_stage_more x s z v (by_stage v (passed x s z).state (sized_passed x s z))
