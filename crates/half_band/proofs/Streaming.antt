-- A cascade fed sample by sample makes what each stage makes of the whole list of the stage before: it follows theory's cascade of its stages, and a stage
-- that holds an odd sample makes of a list what the decimator makes of its pairs.
use mathlib.Core.Path.{◌≡◌, refl, sym, ap, ◌∙◌}
use mathlib.Core.List.{List, [], ◌∷◌}
use Rattle.std.specs.Prelude.{Some}
use Prim.Native.Nat.{ℕ, zero, suc, ◌+◌, ◌-◌, ◌*◌, ◌≤◌, ◌<◌, min}
use native.Mathlib.Omega.{arith}
use lib.ListN.{length, get_or, take, replicate, get_or-replicate, length-replicate}
use lib.Ieee.{Float, nan}
use Rattle.theory.specs.Sections.{state, outs}
use Rattle.theory.proofs.Cascades.{cascade, cascaded}
use Rattle.theory.proofs.Sections.{state_keeps}
use Rattle.theory.proofs.Cascades.{outs_cascade}
use Rattle.half_band.specs.HalfBand.{decimated, decimated_by}
use Rattle.float.specs.F32.{zero32}
use Rattle.half_band.specs.Windows.{slid, dec_value, pairs}
use Rattle.half_band.specs.inner.Decimator.{decimator}
use Rattle.half_band.specs.HbfStream.{Half, half, stage_in, stream, stream_fresh}
use Rattle.half_band.specs.declared.hbf_stream.HbfStream.{HbfStream}
use Rattle.std.proofs.lemmas.List.{drop-replicate, take-replicate}
use Rattle.half_band.proofs.WholeLists.{decimator_whole}
use Rattle.half_band.proofs.Along.{outs_along, state_along}
use Rattle.half_band.specs.inner.FiveStages.{FiveStages}
use Rattle.half_band.proofs.Stages.{Sized, stage, stages_from, sized_through, depth_through, out_through, stages_through}

-- a stage that holds nothing
abbrev pub empty : List Float → Half
empty w = record { window = w; held = zero32; count = 0 }

-- its outputs are the decimator's of the pairs; whatever is in the place of the held sample
pub half_pairs : (c w : List Float) (h : Float) (v : List Float) → outs (half c) (record { window = w; held = h; count = 0 }) v ≡ outs (decimator c) w (pairs v)
unfolding half decimator
half_pairs c w h [] = refl
half_pairs c w h (a ∷ []) = refl
half_pairs c w h (a ∷ b ∷ v) = ap (λ (l : List Float). dec_value c (slid w (a ∷ b ∷ [])) ∷ l) (half_pairs c (slid w (a ∷ b ∷ [])) zero32 v)

pub half_whole : (c : List Float) → 1 ≤ length c → (v : List Float) → outs (half c) (empty (replicate (4 * length c) zero32)) v ≡ decimated c v
half_whole c p v = half_pairs c (replicate (4 * length c) zero32) zero32 v ∙ decimator_whole c p v

module _ (taps : ℕ → List Float) (five : FiveStages taps) where
  -- the stages that are run
  abbrev pub view : HbfStream → List Half
  view s = stages_from taps five (min s.depth 5) 0 s

  under : (d : ℕ) → 0 + min d 5 ≤ 5
  under d = omega arith

  pub sized_next : (s : HbfStream) (x : Float) → Sized s → Sized ((stream taps).next s x)
  unfolding stream
  sized_next s x z = sized_through taps five (min s.depth 5) 0 (Some x) s (under s.depth) z

  pub depth_next : (s : HbfStream) (x : Float) → ((stream taps).next s x).depth ≡ s.depth
  unfolding stream
  depth_next s x = depth_through taps five (min s.depth 5) 0 (Some x) s

  view_next : (s : HbfStream) (x : Float) → Sized s → (cascade (stage taps five) 0).next (view s) x ≡ view ((stream taps).next s x)
  unfolding stream
  view_next s x z =
      sym (stages_through taps five (min s.depth 5) 0 x s (under s.depth) z)
      ∙ ap (λ (d : ℕ). stages_from taps five (min d 5) 0 ((stream taps).next s x)) (sym (depth_next s x))

  view_out : (s : HbfStream) (x : Float) → Sized s → (cascade (stage taps five) 0).out (view s) x ≡ (stream taps).out s x
  unfolding stream
  view_out s x z = sym (out_through taps five (min s.depth 5) 0 x s (under s.depth) z)

  pub outs_view : (s : HbfStream) (v : List Float) → Sized s → outs (stream taps) s v ≡ outs (cascade (stage taps five) 0) (view s) v
  outs_view s v z = sym (outs_along (cascade (stage taps five) 0) (stream taps) view Sized sized_next view_next view_out s v z)

  pub state_view : (s : HbfStream) (v : List Float) → Sized s → view (state (stream taps) s v) ≡ state (cascade (stage taps five) 0) (view s) v
  state_view s v z = sym (state_along (cascade (stage taps five) 0) (stream taps) view Sized sized_next view_next view_out s v z)

  pub depth_state : (s : HbfStream) (v : List Float) → (state (stream taps) s v).depth ≡ s.depth
  depth_state s [] = refl
  depth_state s (x ∷ v) = depth_state ((stream taps).next s x) v ∙ depth_next s x

  pub sized_state : (s : HbfStream) (v : List Float) → Sized s → Sized (state (stream taps) s v)
  sized_state s v z = state_keeps (stream taps) Sized sized_next s v z

  -- a fresh state
  pub fresh_sized : (d : ℕ) → Sized (stream_fresh d)
  fresh_sized d = record { delays = length-replicate 480 zero32; held = length-replicate 5 zero32; counts = length-replicate {A = ℕ} 5 0 }

  fresh_stage : (d k : ℕ) → k < 5 → stage_in taps k (stream_fresh d) ≡ empty (replicate (4 * length (taps k)) zero32)
  unfolding stage_in
  fresh_stage d k h =
      let m = five.most k h in
      ap {B = Half} (λ (w : List Float). record { window = take (4 * length (taps k)) w; held = get_or (replicate 5 zero32) k nan; count = get_or (replicate {A = ℕ} 5 0) k 0 }) (drop-replicate (96 * k) 480 zero32)
      ∙ ap {B = Half} (λ (w : List Float). record { window = w; held = get_or (replicate 5 zero32) k nan; count = get_or (replicate {A = ℕ} 5 0) k 0 })
      (take-replicate (4 * length (taps k)) (480 - 96 * k) zero32 (omega arith))
      ∙ ap {B = Half} (λ (y : Float). record { window = replicate (4 * length (taps k)) zero32; held = y; count = get_or (replicate {A = ℕ} 5 0) k 0 }) (get_or-replicate 5 k zero32 nan h)
      ∙ ap {B = Half} (λ (n : ℕ). record { window = replicate (4 * length (taps k)) zero32; held = zero32; count = n }) (get_or-replicate {A = ℕ} 5 k 0 0 h)

  fresh_cascaded : (d n k : ℕ) (v : List Float) → k + n ≤ 5 → cascaded (stage taps five) k (stages_from taps five n k (stream_fresh d)) v ≡ decimated_by taps k n v
  unfolding decimated_by
  fresh_cascaded d zero k v h = refl
  fresh_cascaded d (suc n) k v h =
      ap (λ (e : Half). cascaded (stage taps five) (suc k) (stages_from taps five n (suc k) (stream_fresh d)) (outs (half (taps k)) e v)) (fresh_stage d k (omega arith))
      ∙ ap (cascaded (stage taps five) (suc k) (stages_from taps five n (suc k) (stream_fresh d))) (half_whole (taps k) (five.least k (omega arith)) v)
      ∙ fresh_cascaded d n (suc k) (decimated (taps k) v) (omega arith)

  pub stream_whole : (d : ℕ) → d ≤ 5 → (v : List Float) → outs (stream taps) (stream_fresh d) v ≡ decimated_by taps 0 d v
  stream_whole d h v =
      outs_view (stream_fresh d) v (fresh_sized d)
      ∙ outs_cascade (stage taps five) 0 (view (stream_fresh d)) v
      ∙ ap (λ (n : ℕ). cascaded (stage taps five) 0 (stages_from taps five n 0 (stream_fresh d)) v) all
      ∙ fresh_cascaded d d 0 v (omega arith)
    where
      all : min d 5 ≡ d
      all = omega arith
