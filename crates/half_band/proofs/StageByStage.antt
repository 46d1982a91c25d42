-- A list of whole frames through a cascade that holds nothing, stage by stage: of an even list a stage that holds nothing makes what the decimator makes of its
-- pairs, and holds nothing again.
use mathlib.Core.Path.{◌≡◌, refl, sym, ap, ◌∙◌}
use mathlib.Core.List.{List, [], ◌∷◌}
use Rattle.std.specs.Prelude.{Some}
use Prim.Native.Nat.{ℕ, ◌+◌, ◌-◌, ◌*◌, ◌%◌, ◌≤◌, ◌<◌, min}
use native.Mathlib.Omega.{arith}
use lib.ListN.{length, get_or, set, take, drop}
use lib.Seq.{set-get_or}
use lib.Ieee.{Float, nan}
use Rattle.theory.specs.Sections.{Section, onto, state, outs}
use Rattle.theory.proofs.Sections.{state_keeps}
use Rattle.float.specs.F32.{zero32}
use Rattle.half_band.specs.Windows.{pairs, spliced}
use Rattle.half_band.specs.inner.Decimator.{decimator}
use Rattle.half_band.specs.HbfStream.{Half, half, Passed, stage_in, with_stage, through, stream, stream_of}
use Rattle.half_band.specs.declared.hbf_stream.HbfStream.{HbfStream}
use Rattle.half_band.proofs.Moving.{length_slid}
use Rattle.half_band.proofs.Parts.{part_long, length_with}
use Rattle.half_band.specs.inner.FiveStages.{FiveStages}
use Rattle.half_band.proofs.Passing.{ended}
use Rattle.half_band.proofs.Stages.{Sized}
use Rattle.half_band.proofs.Streaming.{depth_next, half_pairs}
use Rattle.half_band.proofs.StageRuns.{odd_none, half_rest}
use Rattle.half_band.proofs.StageLists.{stages_on, by_stage}

-- a decimator keeps its window's length
window_kept : (c w : List Float) (p : List (Float × Float)) → 2 ≤ length w → length (state (decimator c) w p) ≡ length w
unfolding decimator
window_kept c w p h = state_keeps (decimator c) (λ u. length u ≡ length w) (λ u x e. length_slid u (x.0 ∷ x.1 ∷ []) (omega arith) ∙ e) w p refl

-- a stage that holds nothing, after an even list
half_even : (c w v : List Float) (m : ℕ) → length v ≡ 2 * m
    → state (half c) (record { window = w; held = zero32; count = 0 }) v ≡ record { window = state (decimator c) w (pairs v); held = zero32; count = 0 }
half_even c w v m h =
    half_rest c w v
    ∙ ap {B = Half} (λ (y : Float). record { window = state (decimator c) w (pairs v); held = y; count = length v % 2 }) (odd_none v even)
    ∙ ap {B = Half} (λ (n : ℕ). record { window = state (decimator c) w (pairs v); held = zero32; count = n }) even
  where
    even : length v % 2 ≡ 0
    even = omega arith

module _ (taps : ℕ → List Float) (five : FiveStages taps) where
  abbrev pub window_of : ℕ → HbfStream → List Float
  window_of k s = take (4 * length (taps k)) (drop (96 * k) s.delays)

  -- another window of stage k
  abbrev pub with_window : ℕ → List Float → HbfStream → HbfStream
  with_window k w s = stream_of s.depth (spliced (96 * k) (4 * length (taps k)) w s.delays) s.held s.counts

  fits : (k : ℕ) → k < 5 → 4 * length (taps k) ≤ 96
  fits k h = omega (arith, five.most k h)

  -- stage k of N, which holds nothing
  module _ (N k : ℕ) (in_range : k < N) (deep : N ≤ 5) where
    pub record Ready (s : HbfStream) : Type 0 where
      pub sized : Sized s
      pub held : get_or s.held k nan ≡ zero32
      pub count : get_or s.counts k 0 ≡ 0

    under : k < 5
    under = omega arith

    abbrev whole : Section HbfStream Float Float
    whole = stages_on taps five (N - k) k

    abbrev behind : Section HbfStream Float Float
    behind = stages_on taps five (N - (k + 1)) (k + 1)

    abbrev first : Section (List Float) (Float × Float) Float
    first = decimator (taps k)

    -- its window after pairs is as long, so the delays are
    pub staged_long : (s : HbfStream) → Sized s → (p : List (Float × Float)) → length (with_window k (state first (window_of k s) p) s).delays ≡ 480
    staged_long s z p =
        let e = part_long 96 (λ j. 4 * length (taps j)) fits s.delays z.delays k under in
        length_with 96 (λ j. 4 * length (taps j)) fits s.delays z.delays k under (state first (window_of k s) p)
        (window_kept (taps k) (window_of k s) p (omega (arith, five.least k under)) ∙ e)
        ∙ z.delays

    -- an even list through the stages is its pairs through stage k, and their outputs through the others
    abbrev pub Staged : HbfStream → List Float → Type 0
    Staged s v =
        (state whole s v ≡ state behind (with_window k (state first (window_of k s) (pairs v)) s) (outs first (window_of k s) (pairs v)))
        × (outs whole s v ≡ outs behind (with_window k (state first (window_of k s) (pairs v)) s) (outs first (window_of k s) (pairs v)))

    module _ (s : HbfStream) (q : Ready s) where
      abbrev bare : List Float → Half
      bare w = record { window = w; held = zero32; count = 0 }

      is_bare : stage_in taps k s ≡ bare (window_of k s)
      unfolding stage_in
      is_bare =
          ap {B = Half} (λ (y : Float). record { window = window_of k s; held = y; count = get_or s.counts k 0 }) q.held
          ∙ ap {B = Half} (λ (n : ℕ). record { window = window_of k s; held = zero32; count = n }) q.count

      put_bare : (w : List Float) → with_stage taps k (bare w) s ≡ with_window k w s
      unfolding with_stage
      put_bare w =
          ap (λ (h : List Float). stream_of s.depth (spliced (96 * k) (4 * length (taps k)) w s.delays) h (set s.counts k 0)) (ap (set s.held k) (sym q.held) ∙ set-get_or s.held k nan)
          ∙ ap (λ (c : List ℕ). stream_of s.depth (spliced (96 * k) (4 * length (taps k)) w s.delays) s.held c) (ap (set s.counts k) (sym q.count) ∙ set-get_or s.counts k 0)

    pub staged : (v : List Float) (m : ℕ) → length v ≡ 2 * m → (s : HbfStream) → Ready s → Staged s v
    staged v m h s q = (by.0 ∙ ap (λ (l : List Float). state behind t l) made ∙ ap (λ (u : HbfStream). state behind u l₀) left, by.1 ∙ ap (λ (l : List Float). outs behind t l) made ∙ ap (λ (u : HbfStream). outs behind u l₀) left)
      where
        t : HbfStream
        t = with_stage taps k (state (half (taps k)) (stage_in taps k s) v) s

        l₀ : List Float
        l₀ = outs first (window_of k s) (pairs v)

        by : (state whole s v ≡ state behind t (outs (half (taps k)) (stage_in taps k s) v)) × (outs whole s v ≡ outs behind t (outs (half (taps k)) (stage_in taps k s) v))
        by = by_stage taps five N k in_range deep v s q.sized

        made : outs (half (taps k)) (stage_in taps k s) v ≡ l₀
        made = ap (λ (g : Half). outs (half (taps k)) g v) (is_bare s q) ∙ half_pairs (taps k) (window_of k s) zero32 v

        left : t ≡ with_window k (state first (window_of k s) (pairs v)) s
        left =
            ap (λ (g : Half). with_stage taps k (state (half (taps k)) g v) s) (is_bare s q)
            ∙ ap (λ (g : Half). with_stage taps k g s) (half_even (taps k) (window_of k s) v m h)
            ∙ put_bare s q (state first (window_of k s) (pairs v))

  -- all stages, and none
  pub stages_all : (N : ℕ) (s : HbfStream) (v : List Float) → min s.depth 5 ≡ N → (state (stages_on taps five N 0) s v ≡ state (stream taps) s v) × (outs (stages_on taps five N 0) s v ≡ outs (stream taps) s v)
  unfolding stream
  stages_all N s [] e = (refl, refl)
  stages_all N s (x ∷ v) e =
      let ih = stages_all N ((stream taps).next s x) v (ap (λ (d : ℕ). min d 5) (depth_next taps five s x) ∙ e) in (
        ap (λ (m : ℕ). state (stages_on taps five N 0) (through taps m 0 (Some x) s).state v) (sym e) ∙ ih.0,
        ap (λ (m : ℕ). onto (through taps m 0 (Some x) s).out (outs (stages_on taps five N 0) (through taps m 0 (Some x) s).state v)) (sym e) ∙ ap (onto ((stream taps).out s x)) ih.1,
      )

  pub stages_none : (N k : ℕ) (s : HbfStream) (v : List Float) → N ≤ k → (state (stages_on taps five (N - k) k) s v ≡ s) × (outs (stages_on taps five (N - k) k) s v ≡ v)
  stages_none N k s [] h = (refl, refl)
  stages_none N k s (x ∷ v) h =
      let e = ended taps N k x s h in
      let ih = stages_none N k s v h in (
        ap (λ (p : Passed). state (stages_on taps five (N - k) k) p.state v) e ∙ ih.0,
        ap (λ (p : Passed). onto p.out (outs (stages_on taps five (N - k) k) p.state v)) e ∙ ap (λ (l : List Float). x ∷ l) ih.1,
      )
