-- The same for the sections on floats: the half-band cascade and the resampler.
use mathlib.Core.Path.{◌≡◌, refl, sym, ◌∙◌, subst, ap}
use mathlib.Core.Bool.{Bool, true, false, cond}
use mathlib.Core.List.{List, [], ◌∷◌, ◌++◌}
use Rattle.std.specs.Prelude.{Option, None, Some}
use mathlib.Core.Logic.{inl, inr}
use Prim.Native.Nat.{ℕ, zero, suc, ◌+◌, ◌*◌, ◌-◌, ◌≤◌, ◌<◌, min}
use native.Mathlib.Omega.{arith}
use native.Mathlib.Decide.{dec_lt, dec_le}
use lib.Dec.{T, leb, eqb}
use lib.Ieee.{Float, binary32, nan}
use lib.Ieee.Bits.{of_bits-fits}
use lib.Ieee.Fits.{add-fits, sub-fits, mul-fits, nan-fits}
use lib.ListN.{length, take, drop, replicate, length-append, length-drop, set}
use lib.Seq.{drop-set-lt, length-take-le, take_all}
use Rattle.half_band.specs.HbfTaps.{hbf_taps, stage_taps, decimation}
use Rattle.half_band.specs.Windows.{slid, dec_value}
use Rattle.half_band.specs.HbfStream.{Half, half, stage_in, with_stage, through, stream, hbf_stream}
use Rattle.half_band.specs.declared.hbf_stream.HbfStream.{HbfStream}
use Rattle.half_band.proofs.Stages.{Sized, sized_with, sized_through}
use Rattle.half_band.specs.inner.FiveStages.{decimation_five}
use Rattle.half_band.proofs.Streaming.{depth_next}
use Rattle.float.specs.F32.{zero32}
use Rattle.float.specs.PolyphaseResamp.{shifted_in, consumed, passed}
use Rattle.float.specs.PolyphaseOpening as R
use Rattle.float.specs.declared.polyphase_resamp.PolyphaseResampF32.{PolyphaseResampF32}
use Rattle.parking.specs.Entries.{window_of}
use Rattle.words.specs.Fields.{All, IsFloat}
use Rattle.words.proofs.Fields.{all_take, all_drop, all_append, all_set, all_get_d}
use Rattle.parking.proofs.Behind.{shifted_behind, Beside, beside_with, beside_through}
use Rattle.parking.proofs.Whole.{Used, used_kept}

-- ---- section 4

abbrev c5 : ℕ → List Float
c5 = stage_taps decimation

pub window_is : (k : ℕ) → k < 5 → 4 * length (stage_taps decimation k) ≡ window_of k
unfolding stage_taps decimation hbf_taps
window_is zero h = refl
window_is (suc zero) h = refl
window_is (suc (suc zero)) h = refl
window_is (suc (suc (suc zero))) h = refl
window_is (suc (suc (suc (suc zero)))) h = refl
window_is (suc (suc (suc (suc (suc k))))) h = absurd (omega arith)

pub window_most : (k : ℕ) → k < 5 → window_of k ≤ 96
window_most k h = let w = window_is k h in let m = decimation_five.most k h in omega arith

-- the part of stage j's places that its window leaves
abbrev pub gap : ℕ → List Float → List Float
gap j d = take (96 - window_of j) (drop (96 * j + window_of j) d)

-- n stages are used
pub record HalfUsed (n : ℕ) (s : HbfStream) : Type 0 where
  pub sized : Sized s
  pub gaps : (j : ℕ) → j < n → j < 5 → gap j s.delays ≡ replicate (96 - window_of j) zero32
  pub behind : drop (96 * n) s.delays ≡ replicate (480 - 96 * n) zero32
  pub held_rest : drop n s.held ≡ replicate (5 - n) zero32
  pub counts_rest : drop n s.counts ≡ replicate (5 - n) 0
  pub delays_typed : All IsFloat s.delays
  pub held_typed : All IsFloat s.held

abbrev pub HalfWhole : HbfStream → Type 0
HalfWhole s = HalfUsed s.depth s

-- an option whose value, if there is one, is a float
abbrev pub Given : Option Float → Type 0
Given None = Unit {0}
Given (Some x) = IsFloat x

-- a stage keeps its values
pub record HalfTyped (h : Half) : Type 0 where
  pub window : All IsFloat h.window
  pub held : IsFloat h.held

half_typed : (c : List Float) (h : Half) (x : Float) → HalfTyped h → IsFloat x → HalfTyped ((half c).next h x)
unfolding half slid
half_typed c h x t p = go (eqb h.count 0)
  where
    go : (b : Bool) → HalfTyped (cond b (record { window = h.window; held = x; count = 1 }) (record { window = slid h.window (h.held ∷ x ∷ []); held = zero32; count = 0 }))
    go true = record { window = t.window; held = p }
    go false = record { window = all_append IsFloat (drop 2 h.window) (h.held ∷ x ∷ []) (all_drop IsFloat 2 h.window t.window) (t.held, (p, tt)); held = of_bits-fits binary32 0 }

half_given : (c : List Float) (h : Half) (x : Float) → Given ((half c).out h x)
unfolding half dec_value
half_given c h x = go (eqb h.count 0)
  where
    go : (b : Bool) → Given (cond b None (Some (dec_value c (slid h.window (h.held ∷ x ∷ [])))))
    go true = tt
    go false = mul-fits binary32 _ _

-- what is typed of a cascade
pub record StreamTyped (s : HbfStream) : Type 0 where
  pub delays : All IsFloat s.delays
  pub held : All IsFloat s.held

module _ (taps : ℕ → List Float) where
  pub stage_typed : (k : ℕ) (s : HbfStream) → StreamTyped s → HalfTyped (stage_in taps k s)
  unfolding stage_in
  stage_typed k s t =
      record {
        window = all_take IsFloat (4 * length (taps k)) (drop (96 * k) s.delays) (all_drop IsFloat (96 * k) s.delays t.delays);
        held = all_get_d IsFloat s.held k nan t.held (nan-fits binary32);
      }

  with_typed : (k : ℕ) (h : Half) (s : HbfStream) → HalfTyped h → StreamTyped s → StreamTyped (with_stage taps k h s)
  unfolding with_stage
  with_typed k h s a t =
      record {
        delays = all_append IsFloat (take (96 * k) s.delays) _ (all_take IsFloat (96 * k) s.delays t.delays)
            (all_append IsFloat h.window _ a.window (all_drop IsFloat (4 * length (taps k)) _ (all_drop IsFloat (96 * k) s.delays t.delays)));
        held = all_set IsFloat s.held k h.held t.held a.held;
      }

  through_typed : (n k : ℕ) (o : Option Float) (s : HbfStream) → Given o → StreamTyped s → StreamTyped (through taps n k o s).state
  unfolding through
  through_typed zero k o s g t = t
  through_typed (suc n) k None s g t = t
  through_typed (suc n) k (Some x) s g t =
      through_typed n (suc k) ((half (taps k)).out (stage_in taps k s) x) _ (half_given (taps k) (stage_in taps k s) x)
      (with_typed k ((half (taps k)).next (stage_in taps k s) x) s (half_typed (taps k) (stage_in taps k s) x (stage_typed k s t) g) t)

  pub through_given : (n k : ℕ) (o : Option Float) (s : HbfStream) → Given o → Given (through taps n k o s).out
  unfolding through
  through_given zero k o s g = g
  through_given (suc n) k None s g = tt
  through_given (suc n) k (Some x) s g = through_given n (suc k) ((half (taps k)).out (stage_in taps k s) x) _ (half_given (taps k) (stage_in taps k s) x)

  -- what stands behind the stages in a row of a part of each: the held samples, and the counts
  module _ {A : Type 0} (of : HbfStream → List A) (part : Half → A) (put : (k : ℕ) (h : Half) (s : HbfStream) → of (with_stage taps k h s) ≡ set (of s) k (part h)) where
    through_rest : (n k : ℕ) (o : Option Float) (s : HbfStream) (m : ℕ) → k + n ≤ m → drop m (of (through taps n k o s).state) ≡ drop m (of s)
    unfolding through
    through_rest zero k o s m h = refl
    through_rest (suc n) k None s m h = refl
    through_rest (suc n) k (Some x) s m h =
        let t = (half (taps k)).next (stage_in taps k s) x in
        through_rest n (suc k) ((half (taps k)).out (stage_in taps k s) x) (with_stage taps k t s) m (omega arith)
        ∙ ap (λ (l : List A). drop m l) (put k t s) ∙ drop-set-lt m (of s) k (part t) (omega arith)

  through_held : (n : ℕ) (o : Option Float) (s : HbfStream) → drop n (through taps n 0 o s).state.held ≡ drop n s.held
  unfolding with_stage
  through_held n o s = through_rest (λ (s : HbfStream). s.held) (λ (h : Half). h.held) (λ k h s. refl) n 0 o s n (omega arith)

  through_counts : (n : ℕ) (o : Option Float) (s : HbfStream) → drop n (through taps n 0 o s).state.counts ≡ drop n s.counts
  unfolding with_stage
  through_counts n o s = through_rest (λ (s : HbfStream). s.counts) (λ (h : Half). h.count) (λ k h s. refl) n 0 o s n (omega arith)

-- what n stages leave alone: the gap behind each window, and all behind the stages
module _ (n : ℕ) (few : n ≤ 5) where
  beside_gap : (j : ℕ) → j < 5 → (i : ℕ) → i < n → Beside c5 decimation_five (96 * j + window_of j) (96 - window_of j) i
  unfolding Beside
  beside_gap j h i b = elim (dec_le i j) [
    | yes l ↦ inr (elim (dec_lt i j) [
      | yes m ↦ (let q : 96 * i + 4 * length (stage_taps decimation i) ≤ 96 * j + window_of j = omega (arith, decimation_five.most i (let k : i < 5 = omega arith in k)) in q)
      | no m ↦ (let e : i ≡ j = omega arith in let q : 96 * i + 4 * length (stage_taps decimation i) ≤ 96 * j + window_of j = rw (e, window_is j h) (omega arith) in q)
    ])
    | no l ↦ inl (let q : 96 * j + window_of j + (96 - window_of j) ≤ 96 * i = omega (arith, window_most j h) in q)
  ]

  beside_rest : (i : ℕ) → i < n → Beside c5 decimation_five (96 * n) (480 - 96 * n) i
  unfolding Beside
  beside_rest i b = inr (let q : 96 * i + 4 * length (stage_taps decimation i) ≤ 96 * n = omega (arith, decimation_five.most i (let k : i < 5 = omega arith in k)) in q)

  all_of : (l : List Float) → length l ≡ 480 → take (480 - 96 * n) (drop (96 * n) l) ≡ drop (96 * n) l
  all_of l e = take_all (480 - 96 * n) (drop (96 * n) l) (rw (length-drop (96 * n) l, e) (omega arith))

  -- a stage put in, of those that are used
  pub with_used : (k : ℕ) (h : Half) (s : HbfStream) → k < n → HalfTyped h → length h.window ≡ 4 * length (stage_taps decimation k) → HalfUsed n s → HalfUsed n (with_stage c5 k h s)
  unfolding with_stage
  with_used k h s l t e w =
      let in_range : k < 5 = omega arith in
      let z = sized_with c5 decimation_five k h s in_range w.sized e in
      let typed : StreamTyped (with_stage c5 k h s) = with_typed c5 k h s t (record { delays = w.delays_typed; held = w.held_typed }) in
      record {
        sized = z;
        gaps = λ j a b. beside_with c5 decimation_five k s in_range w.sized h e (96 * j + window_of j) (96 - window_of j) (beside_gap j b k l) ∙ w.gaps j a b;
        behind =
            sym (all_of (with_stage c5 k h s).delays z.delays)
            ∙ beside_with c5 decimation_five k s in_range w.sized h e (96 * n) (480 - 96 * n) (beside_rest k l)
            ∙ all_of s.delays w.sized.delays ∙ w.behind;
        held_rest = drop-set-lt n s.held k h.held l ∙ w.held_rest;
        counts_rest = drop-set-lt n s.counts k h.count l ∙ w.counts_rest;
        delays_typed = typed.delays;
        held_typed = typed.held;
      }

module _ (s : HbfStream) (x : Float) (n : ℕ) (few : n ≤ 5) (p : IsFloat x) (w : HalfUsed n s) where
  abbrev s' : HbfStream
  s' = (through c5 n 0 (Some x) s).state

  few' : 0 + n ≤ 5
  few' = omega arith

  sized' : Sized s'
  sized' = sized_through c5 decimation_five n 0 (Some x) s few' w.sized

  through_used : HalfUsed n s'
  through_used =
      let typed : StreamTyped s' = through_typed c5 n 0 (Some x) s p (record { delays = w.delays_typed; held = w.held_typed }) in
      record {
        sized = sized';
        gaps = λ j a h. beside_through c5 decimation_five n 0 (Some x) s few' w.sized (96 * j + window_of j) (96 - window_of j) (λ i u v. beside_gap n few j h i (omega arith)) ∙ w.gaps j a h;
        behind =
            sym (all_of n few s'.delays sized'.delays)
            ∙ beside_through c5 decimation_five n 0 (Some x) s few' w.sized (96 * n) (480 - 96 * n) (λ i u v. beside_rest n few i (omega arith))
            ∙ all_of n few s.delays w.sized.delays ∙ w.behind;
        held_rest = through_held c5 n (Some x) s ∙ w.held_rest;
        counts_rest = through_counts c5 n (Some x) s ∙ w.counts_rest;
        delays_typed = typed.delays;
        held_typed = typed.held;
      }

pub half_whole : (s : HbfStream) (x : Float) → s.depth ≤ 5 → IsFloat x → HalfWhole s → HalfWhole (hbf_stream.next s x)
unfolding hbf_stream stream
half_whole s x few p w =
    let m : s.depth ≡ min s.depth 5 = omega arith in
    subst (λ (k : ℕ). HalfUsed k (hbf_stream.next s x)) (sym (depth_next (stage_taps decimation) decimation_five s x))
    (subst (λ (k : ℕ). HalfUsed s.depth (through (stage_taps decimation) k 0 (Some x) s).state) m (through_used s x s.depth few p w))

pub half_out : (s : HbfStream) (x : Float) → IsFloat x → Given (hbf_stream.out s x)
unfolding hbf_stream stream
half_out s x p = through_given (stage_taps decimation) (min s.depth 5) 0 (Some x) s p

-- ---- section 5

pub record ResamplerWhole (s : PolyphaseResampF32) : Type 0 where
  pub delay : Used IsFloat zero32 s.taps 16 s.delay
  pub prototype : Used IsFloat zero32 (s.phases * s.taps) 1024 s.prototype
  pub mu : IsFloat s.mu
  pub step : IsFloat s.step
  pub off : s.phases ≡ 0 → s ≡ R.zeros

pub shifted_long : (T : ℕ) (x : Float) (l : List Float) → T ≤ length l → length (shifted_in T x l) ≡ length l
unfolding shifted_in
shifted_long T x l h = go (leb T 16)
  where
    go : (b : Bool) → length (cond b (take T (x ∷ l) ++ drop T l) l) ≡ length l
    go true =
        length-append (take T (x ∷ l)) (drop T l)
        ∙ rw (length-take-le T (x ∷ l) (omega arith), length-drop T l) (omega arith)
    go false = refl

shifted_typed : (T : ℕ) (x : Float) (l : List Float) → IsFloat x → All IsFloat l → All IsFloat (shifted_in T x l)
unfolding shifted_in
shifted_typed T x l p a = go (leb T 16)
  where
    go : (b : Bool) → All IsFloat (cond b (take T (x ∷ l) ++ drop T l) l)
    go true = all_append IsFloat (take T (x ∷ l)) (drop T l) (all_take IsFloat T (x ∷ l) (p, a)) (all_drop IsFloat T l a)
    go false = a

pub passed_whole : (s : PolyphaseResampF32) → (s.phases ≡ 0 → ⊥) → ResamplerWhole s → ResamplerWhole (passed s)
unfolding passed
passed_whole s n w = record { delay = w.delay; prototype = w.prototype; mu = add-fits binary32 _ _; step = w.step; off = λ z. absurd (n z) }

pub consumed_whole : (s : PolyphaseResampF32) (x : Float) → (s.phases ≡ 0 → ⊥) → s.taps ≤ 16 → IsFloat x → ResamplerWhole s → ResamplerWhole (consumed s x)
unfolding consumed
consumed_whole s x n h p w =
    let r : s.taps ≤ length s.delay = let l = w.delay.long in omega arith in
    record {
      delay = used_kept s.taps 16 s.delay _ w.delay (shifted_long s.taps x s.delay r) (shifted_behind s.taps x s.delay r) (shifted_typed s.taps x s.delay p w.delay.typed);
      prototype = w.prototype;
      mu = sub-fits binary32 _ _;
      step = w.step;
      off = λ z. absurd (n z);
    }
