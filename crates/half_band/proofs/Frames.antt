-- A cascade of d stages that hold nothing holds nothing again after a whole number of 2^d samples: a stage gives half as many values to the next, and holds
-- nothing after an even number.
use mathlib.Core.Path.{◌≡◌, refl, sym, ap, ◌∙◌, subst}
use mathlib.Core.List.{List, [], ◌∷◌}
use Rattle.std.specs.Prelude.{Option, None, Some}
use Prim.Native.Nat.{ℕ, zero, suc, ◌+◌, ◌*◌, ◌/◌, ◌^◌, ◌≤◌, ◌<◌, min}
use native.Mathlib.Nat.{pow-succ', mul_left_comm}
use native.Mathlib.Omega.{arith}
use native.Mathlib.Decide.{dec_lt}
use lib.ListN.{length, get_or, replicate, get_or-replicate, length-replicate}
use lib.Seq.{ext_get_or, get_or-set_other}
use lib.Ieee.{Float, nan}
use Rattle.theory.specs.Sections.{Section, onto, state, outs}
use Rattle.theory.proofs.Cascades.{stay, cascade_next, cascade}
use Rattle.float.specs.F32.{zero32}
use Rattle.half_band.specs.Windows.{slid, pairs}
use Rattle.half_band.specs.inner.Decimator.{decimator}
use Rattle.half_band.specs.HbfStream.{Half, half, stage_in, with_stage, through, stream, stream_of}
use Rattle.half_band.specs.declared.hbf_stream.HbfStream.{HbfStream}
use Rattle.half_band.proofs.Blocks.{outs_length}
use Rattle.half_band.proofs.WholeLists.{length_pairs, dec_made}
use Rattle.half_band.specs.inner.FiveStages.{FiveStages}
use Rattle.half_band.proofs.Stages.{Sized, stage, stages_from}
use Rattle.half_band.proofs.Streaming.{half_pairs, view, state_view, depth_state, sized_state}

-- a stage that holds nothing, and a list of them
pub record Empty (h : Half) : Type 0 where
  pub held : h.held ≡ zero32
  pub count : h.count ≡ 0

abbrev pub AllEmpty : List Half → Type 0
AllEmpty [] = Unit
AllEmpty (h ∷ hs) = Empty h × AllEmpty hs

bare : (h : Half) → Empty h → h ≡ record { window = h.window; held = h.held; count = 0 }
bare h e = ap {B = Half} (λ (n : ℕ). record { window = h.window; held = h.held; count = n }) e.count

-- a decimator makes an output of each pair
pub made_count : (c w : List Float) (p : List (Float × Float)) → length (outs (decimator c) w p) ≡ length p
unfolding decimator
made_count c w p = outs_length (decimator c) (dec_made c) (λ u x. refl) w p

half_count : (c : List Float) (h : Half) (v : List Float) → Empty h → length (outs (half c) h v) ≡ length v / 2
half_count c h v e =
    ap (λ (g : Half). length (outs (half c) g v)) (bare h e)
    ∙ ap length (half_pairs c h.window h.held v)
    ∙ made_count c h.window (pairs v)
    ∙ length_pairs v

half_even : (c w : List Float) (y : Float) (v : List Float) (q : ℕ) → length v ≡ 2 * q → y ≡ zero32 → Empty (state (half c) (record { window = w; held = y; count = 0 }) v)
unfolding half
half_even c w y [] q h e = record { held = e; count = refl }
half_even c w y (a ∷ []) q h e = absurd (omega arith)
half_even c w y (a ∷ b ∷ v) zero h e = absurd (omega arith)
half_even c w y (a ∷ b ∷ v) (suc q) h e = half_even c (slid w (a ∷ b ∷ [])) zero32 v q (omega arith) refl

-- one stage of theory's cascade and the others
module _ {S A : Type 0} (stages : ℕ → Section S A A) where
  pub state_one : (k : ℕ) (s : S) (ss : List S) (v : List A) → state (cascade stages k) (s ∷ ss) v ≡ state (stages k) s v ∷ state (cascade stages (suc k)) ss (outs (stages k) s v)
  state_one k s ss [] = refl
  state_one k s ss (a ∷ v) = state_one k ((stages k).next s a) (stay (cascade_next stages (suc k) ss) ss ((stages k).out s a)) v ∙ ap (λ (l : List S). state (stages k) ((stages k).next s a) v ∷ l) (go ((stages k).out s a))
    where
      go : (o : Option A) → state (cascade stages (suc k)) (stay (cascade_next stages (suc k) ss) ss o) (outs (stages k) ((stages k).next s a) v) ≡ state (cascade stages (suc k)) ss (onto o (outs (stages k) ((stages k).next s a) v))
      go None = refl
      go (Some b) = refl

module _ (taps : ℕ → List Float) (five : FiveStages taps) where
  cascade_empty : (k : ℕ) (hs : List Half) (v : List Float) (q : ℕ) → AllEmpty hs → length v ≡ q * 2 ^ length hs → AllEmpty (state (cascade (stage taps five) k) hs v)
  cascade_empty k [] v q e h = go v
    where
      go : (v : List Float) → AllEmpty (state (cascade (stage taps five) k) [] v)
      go [] = tt
      go (x ∷ v) = go v
  cascade_empty k (g ∷ hs) v q e h =
      let even : length v ≡ 2 * (q * 2 ^ length hs) = h ∙ ap (λ (m : ℕ). q * m) (pow-succ' 2 (length hs)) ∙ mul_left_comm q 2 (2 ^ length hs) in
      let half_of : length v / 2 ≡ q * 2 ^ length hs = omega arith in
      subst AllEmpty (sym (state_one (stage taps five) k g hs v)) (
        subst (λ (t : Half). Empty (state (half (taps k)) t v)) (sym (bare g e.0)) (half_even (taps k) g.window g.held v (q * 2 ^ length hs) even e.0.held),
        cascade_empty (suc k) hs (outs (half (taps k)) g v) q e.1 (half_count (taps k) g v e.0 ∙ half_of),
      )

  stages_count : (n k : ℕ) (s : HbfStream) → length (stages_from taps five n k s) ≡ n
  stages_count zero k s = refl
  stages_count (suc n) k s = ap suc (stages_count n (suc k) s)

  -- what the stages say of the arrays
  empty_at : (n k : ℕ) (s : HbfStream) → AllEmpty (stages_from taps five n k s) → (j : ℕ) → k ≤ j → j < k + n → (get_or s.held j nan ≡ zero32) × (get_or s.counts j 0 ≡ 0)
  unfolding stage_in
  empty_at zero k s e j l h = absurd (omega arith)
  empty_at (suc n) k s e j l h =
      elim (dec_lt k j) [
        | yes p ↦ empty_at n (suc k) s e.1 j p (omega arith)
        | no p ↦
            (let q : k ≡ j = omega arith in
            (subst (λ (i : ℕ). get_or s.held i nan ≡ zero32) q e.0.held, subst (λ (i : ℕ). get_or s.counts i 0 ≡ 0) q e.0.count))
      ]

  -- with nothing held
  abbrev pub unheld_of : ℕ → List Float → HbfStream
  unheld_of d delays = stream_of d delays (replicate 5 zero32) (replicate 5 0)

  unheld_stages : (d : ℕ) (delays : List Float) (n k : ℕ) → k + n ≤ 5 → AllEmpty (stages_from taps five n k (unheld_of d delays))
  unfolding stage_in
  unheld_stages d delays zero k h = tt
  unheld_stages d delays (suc n) k h =
      (record { held = get_or-replicate 5 k zero32 nan (omega arith); count = get_or-replicate {A = ℕ} 5 k 0 0 (omega arith) }, unheld_stages d delays n (suc k) (omega arith))

  unheld_sized : (d : ℕ) (delays : List Float) → length delays ≡ 480 → Sized (unheld_of d delays)
  unheld_sized d delays e = record { delays = e; held = length-replicate 5 zero32; counts = length-replicate {A = ℕ} 5 0 }

  -- a stage past those that are run is as it was
  past_through : (n k : ℕ) (o : Option Float) (s : HbfStream) (j : ℕ) → k + n ≤ j
      → (get_or (through taps n k o s).state.held j nan ≡ get_or s.held j nan) × (get_or (through taps n k o s).state.counts j 0 ≡ get_or s.counts j 0)
  unfolding through with_stage
  past_through zero k o s j h = (refl, refl)
  past_through (suc n) k None s j h = (refl, refl)
  past_through (suc n) k (Some x) s j h =
      let a : Half = (half (taps k)).next (stage_in taps k s) x in
      let q : j ≡ k → ⊥ = omega arith in
      let ih = past_through n (suc k) ((half (taps k)).out (stage_in taps k s) x) (with_stage taps k a s) j (omega arith) in
      (ih.0 ∙ get_or-set_other s.held k j a.held nan q, ih.1 ∙ get_or-set_other s.counts k j a.count 0 q)

  past_state : (s : HbfStream) (v : List Float) (j : ℕ) → s.depth ≤ j
      → (get_or (state (stream taps) s v).held j nan ≡ get_or s.held j nan) × (get_or (state (stream taps) s v).counts j 0 ≡ get_or s.counts j 0)
  unfolding stream
  past_state s [] j h = (refl, refl)
  past_state s (x ∷ v) j h = go (past_state ((stream taps).next s x) v j (subst (λ (d : ℕ). d ≤ j) (sym (depth_state taps five s (x ∷ []))) h))
    where
      one : (get_or ((stream taps).next s x).held j nan ≡ get_or s.held j nan) × (get_or ((stream taps).next s x).counts j 0 ≡ get_or s.counts j 0)
      one = past_through (min s.depth 5) 0 (Some x) s j (omega arith)

      go :
          (get_or (state (stream taps) ((stream taps).next s x) v).held j nan ≡ get_or ((stream taps).next s x).held j nan) × (get_or (state (stream taps) ((stream taps).next s x) v).counts j 0 ≡ get_or ((stream taps).next s x).counts j 0)
          → (get_or (state (stream taps) ((stream taps).next s x) v).held j nan ≡ get_or s.held j nan) × (get_or (state (stream taps) ((stream taps).next s x) v).counts j 0 ≡ get_or s.counts j 0)
      go p = (p.0 ∙ one.0, p.1 ∙ one.1)

  module _ (d : ℕ) (delays : List Float) (deep : d ≤ 5) (long : length delays ≡ 480) where
    all : min d 5 ≡ d
    all = omega arith

    -- after a whole number of frames
    pub nothing_held : (v : List Float) (q : ℕ) → length v ≡ q * 2 ^ d → state (stream taps) (unheld_of d delays) v ≡ unheld_of d (state (stream taps) (unheld_of d delays) v).delays
    nothing_held v q h =
        ap (λ (n : ℕ). stream_of n t.delays t.held t.counts) (depth_state taps five s v)
        ∙ ap (λ (l : List Float). stream_of d t.delays l t.counts) (ext_get_or nan t.held (replicate 5 zero32) z.held (λ j l. (each j (omega (arith, z.held))).0 ∙ sym (get_or-replicate 5 j zero32 nan (omega (arith, z.held)))))
        ∙ ap (λ (l : List ℕ). stream_of d t.delays (replicate 5 zero32) l)
        (ext_get_or 0 t.counts (replicate 5 0) z.counts (λ j l. (each j (omega (arith, z.counts))).1 ∙ sym (get_or-replicate {A = ℕ} 5 j 0 0 (omega (arith, z.counts)))))
      where
        s : HbfStream
        s = unheld_of d delays

        t : HbfStream
        t = state (stream taps) s v

        z : Sized (state (stream taps) (unheld_of d delays) v)
        z = sized_state taps five s v (unheld_sized d delays long)

        ends_empty : AllEmpty (stages_from taps five (min t.depth 5) 0 t)
        ends_empty =
            subst AllEmpty (sym (state_view taps five s v (unheld_sized d delays long)))
            (cascade_empty 0 (view taps five s) v q (unheld_stages d delays (min d 5) 0 (omega arith)) (h ∙ ap (λ (n : ℕ). q * 2 ^ n) (sym (stages_count (min d 5) 0 s ∙ all))))

        each : (j : ℕ) → j < 5 → (get_or t.held j nan ≡ zero32) × (get_or t.counts j 0 ≡ 0)
        each j l = go (dec_lt j d)
          where
            go : Dec (j < d) → (get_or t.held j nan ≡ zero32) × (get_or t.counts j 0 ≡ 0)
            go (yes p) = empty_at (min t.depth 5) 0 t ends_empty j (omega arith) (omega (arith, depth_state taps five s v))
            go (no p) =
                let u = past_state s v j (omega arith) in
                (u.0 ∙ get_or-replicate 5 j zero32 nan l, u.1 ∙ get_or-replicate {A = ℕ} 5 j 0 0 l)
