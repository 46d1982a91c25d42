-- The stages of a cascade in its flat arrays: a stage put in is the stage found, and the other stages are as they were; so a sample that goes through the
-- stages by their number goes through them as the cascade of theory, each stage a state of its own.
use mathlib.Core.Path.{◌≡◌, refl, ap, ◌∙◌}
use mathlib.Core.Bool.{Bool, true, false, cond}
use mathlib.Core.List.{List, [], ◌∷◌}
use Rattle.std.specs.Prelude.{Option, None, Some}
use Prim.Native.Nat.{ℕ, zero, suc, ◌+◌, ◌*◌, ◌≤◌, ◌<◌}
use native.Mathlib.Omega.{arith}
use lib.Dec.{eqb}
use lib.ListN.{length, get_or, set, take, drop, length-set}
use lib.Seq.{get_or-set_same, get_or-set_other}
use lib.Ieee.{Float, nan}
use Rattle.theory.specs.Sections.{Section}
use Rattle.theory.proofs.Cascades.{stay, cascade_next, cascade_out}
use Rattle.float.specs.F32.{zero32}
use Rattle.half_band.specs.Windows.{slid}
use Rattle.half_band.specs.HbfStream.{Half, half, Passed, stage_in, with_stage, through}
use Rattle.half_band.specs.declared.hbf_stream.HbfStream.{HbfStream}
use Rattle.half_band.proofs.Moving.{length_slid}
use Rattle.half_band.proofs.Parts.{parts_from, same_parts, part_long, part_found, part_elsewhere, length_with}
use Rattle.half_band.specs.inner.FiveStages.{FiveStages}
use Rattle.half_band.proofs.Passing.{none_through}

-- the arrays as long as their types say
pub record Sized (s : HbfStream) : Type 0 where
  pub delays : length s.delays ≡ 480
  pub held : length s.held ≡ 5
  pub counts : length s.counts ≡ 5

pub half_long : (c : List Float) (h : Half) (x : Float) → 2 ≤ length h.window → length ((half c).next h x).window ≡ length h.window
unfolding half
half_long c h x p = go (eqb h.count 0)
  where
    go : (b : Bool) → length (cond {A = Half} b (record { window = h.window; held = x; count = 1 }) (record { window = slid h.window (h.held ∷ x ∷ []); held = zero32; count = 0 })).window ≡ length h.window
    go true = refl
    go false = length_slid h.window (h.held ∷ x ∷ []) p

module _ (taps : ℕ → List Float) (five : FiveStages taps) where
  abbrev pub stage : ℕ → Section Half Float Float
  stage k = half (taps k)

  -- n stages from stage k on
  abbrev pub stages_from : ℕ → ℕ → HbfStream → List Half
  stages_from = parts_from (stage_in taps)

  -- a window lies in its 96 places
  fits : (k : ℕ) → k < 5 → 4 * length (taps k) ≤ 96
  fits k h = omega (arith, five.most k h)

  pub window_long : (k : ℕ) (s : HbfStream) → k < 5 → Sized s → length (stage_in taps k s).window ≡ 4 * length (taps k)
  unfolding stage_in
  window_long k s h z = part_long 96 (λ j. 4 * length (taps j)) fits s.delays z.delays k h

  -- stage k put in
  module _ (k : ℕ) (h : Half) (s : HbfStream) (in_range : k < 5) (z : Sized s) (long : length h.window ≡ 4 * length (taps k)) where
    pub found : stage_in taps k (with_stage taps k h s) ≡ h
    unfolding stage_in with_stage
    found =
        ap {B = Half} (λ (w : List Float). record { window = w; held = get_or (set s.held k h.held) k nan; count = get_or (set s.counts k h.count) k 0 })
        (part_found 96 (λ j. 4 * length (taps j)) fits s.delays z.delays k in_range h.window long)
        ∙ ap {B = Half} (λ (v : Float). record { window = h.window; held = v; count = get_or (set s.counts k h.count) k 0 }) (get_or-set_same s.held k h.held nan (omega (arith, z.held)))
        ∙ ap {B = Half} (λ (n : ℕ). record { window = h.window; held = h.held; count = n }) (get_or-set_same s.counts k h.count 0 (omega (arith, z.counts)))

    pub sized_with : Sized (with_stage taps k h s)
    unfolding with_stage
    sized_with =
        record {
          delays = length_with 96 (λ j. 4 * length (taps j)) fits s.delays z.delays k in_range h.window long ∙ z.delays;
          held = length-set s.held k h.held ∙ z.held;
          counts = length-set s.counts k h.count ∙ z.counts;
        }

    pub elsewhere : (j : ℕ) → j < 5 → (j ≡ k → ⊥) → stage_in taps j (with_stage taps k h s) ≡ stage_in taps j s
    unfolding stage_in with_stage
    elsewhere j l q =
        ap {B = Half} (λ (w : List Float). record { window = w; held = get_or (set s.held k h.held) j nan; count = get_or (set s.counts k h.count) j 0 })
        (part_elsewhere 96 (λ i. 4 * length (taps i)) fits s.delays z.delays k in_range h.window long j l q)
        ∙ ap {B = Half} (λ (v : Float). record { window = take (4 * length (taps j)) (drop (96 * j) s.delays); held = v; count = get_or (set s.counts k h.count) j 0 })
        (get_or-set_other s.held k j h.held nan q)
        ∙ ap {B = Half} (λ (n : ℕ). record { window = take (4 * length (taps j)) (drop (96 * j) s.delays); held = get_or s.held j nan; count = n }) (get_or-set_other s.counts k j h.count 0 q)

  -- stage k after a value
  module _ (k : ℕ) (x : Float) (s : HbfStream) (in_range : k < 5) (z : Sized s) where
    abbrev after : Half
    after = (half (taps k)).next (stage_in taps k s) x

    abbrev stepped : HbfStream
    stepped = with_stage taps k after s

    after_long_lem : length after.window ≡ 4 * length (taps k)
    after_long_lem =
        let w = window_long k s in_range z in
        let m = five.least k in_range in
        half_long (taps k) (stage_in taps k s) x (omega arith) ∙ w

    sized_stepped : Sized stepped
    sized_stepped = sized_with k after s in_range z after_long_lem

    found_stepped : stage_in taps k stepped ≡ after
    found_stepped = found k after s in_range z after_long_lem

    later_stepped : (n : ℕ) → k + suc n ≤ 5 → stages_from n (suc k) stepped ≡ stages_from n (suc k) s
    later_stepped n h = same_parts (stage_in taps) n (suc k) stepped s (λ j p q. elsewhere k after s in_range z after_long_lem j (omega arith) (not_same j p))
      where
        not_same : (j : ℕ) → suc k ≤ j → j ≡ k → ⊥
        not_same j p e = omega arith

  -- what a sample through n stages from k on leaves
  pub sized_through : (n k : ℕ) (o : Option Float) (s : HbfStream) → k + n ≤ 5 → Sized s → Sized (through taps n k o s).state
  unfolding through
  sized_through zero k o s h z = z
  sized_through (suc n) k None s h z = z
  sized_through (suc n) k (Some x) s h z =
      sized_through n (suc k) ((half (taps k)).out (stage_in taps k s) x) (stepped k x s (omega arith) z) (omega arith) (sized_stepped k x s (omega arith) z)

  pub depth_through : (n k : ℕ) (o : Option Float) (s : HbfStream) → (through taps n k o s).state.depth ≡ s.depth
  unfolding through with_stage
  depth_through zero k o s = refl
  depth_through (suc n) k None s = refl
  depth_through (suc n) k (Some x) s = depth_through n (suc k) ((half (taps k)).out (stage_in taps k s) x) (with_stage taps k ((half (taps k)).next (stage_in taps k s) x) s)

  -- a stage before k is as it was
  pub before_through : (n k : ℕ) (o : Option Float) (s : HbfStream) → k + n ≤ 5 → Sized s → (j : ℕ) → j < k → stage_in taps j (through taps n k o s).state ≡ stage_in taps j s
  unfolding through
  before_through zero k o s h z j l = refl
  before_through (suc n) k None s h z j l = refl
  before_through (suc n) k (Some x) s h z j l =
      let in_range : k < 5 = omega arith in
      let q : j ≡ k → ⊥ = omega arith in
      before_through n (suc k) ((half (taps k)).out (stage_in taps k s) x) (stepped k x s in_range z) (omega arith) (sized_stepped k x s in_range z) j (omega arith)
      ∙ elsewhere k (after k x s in_range z) s in_range z (after_long_lem k x s in_range z) j (omega arith) q

  pub out_through : (n k : ℕ) (x : Float) (s : HbfStream) → k + n ≤ 5 → Sized s → (through taps n k (Some x) s).out ≡ cascade_out stage k (stages_from n k s) x
  unfolding through
  out_through zero k x s h z = refl
  out_through (suc n) k x s h z = go ((half (taps k)).out (stage_in taps k s) x) (out_through n (suc k))
    where
      in_range : k < 5
      in_range = omega arith

      t : HbfStream
      t = stepped k x s in_range z

      go :
          (o : Option Float) → ((y : Float) (u : HbfStream) → suc k + n ≤ 5 → Sized u → (through taps n (suc k) (Some y) u).out ≡ cascade_out stage (suc k) (stages_from n (suc k) u) y)
          → (through taps n (suc k) o t).out ≡ stay (cascade_out stage (suc k) (stages_from n (suc k) s)) None o
      go None ih = ap (λ (p : Passed). p.out) (none_through taps n (suc k) t)
      go (Some y) ih = ih y t (omega arith) (sized_stepped k x s in_range z) ∙ ap (λ (l : List Half). cascade_out stage (suc k) l y) (later_stepped k x s in_range z n h)

  pub stages_through : (n k : ℕ) (x : Float) (s : HbfStream) → k + n ≤ 5 → Sized s → stages_from n k (through taps n k (Some x) s).state ≡ cascade_next stage k (stages_from n k s) x
  unfolding through
  stages_through zero k x s h z = refl
  stages_through (suc n) k x s h z =
      ap (λ (e : Half). e ∷ stages_from n (suc k) (through taps n (suc k) o t).state) (before_through n (suc k) o t (omega arith) (sized_stepped k x s in_range z) k (omega arith) ∙ found_stepped k x s in_range z)
      ∙ ap (λ (l : List Half). after k x s in_range z ∷ l) (go o (stages_through n (suc k)))
    where
      in_range : k < 5
      in_range = omega arith

      o : Option Float
      o = (half (taps k)).out (stage_in taps k s) x

      t : HbfStream
      t = stepped k x s in_range z

      go :
          (o : Option Float)
          → ((y : Float) (u : HbfStream) → suc k + n ≤ 5 → Sized u → stages_from n (suc k) (through taps n (suc k) (Some y) u).state ≡ cascade_next stage (suc k) (stages_from n (suc k) u) y)
          → stages_from n (suc k) (through taps n (suc k) o t).state ≡ stay (cascade_next stage (suc k) (stages_from n (suc k) s)) (stages_from n (suc k) s) o
      go None ih = ap (λ (p : Passed). stages_from n (suc k) p.state) (none_through taps n (suc k) t) ∙ later_stepped k x s in_range z n h
      go (Some y) ih = ih y t (omega arith) (sized_stepped k x s in_range z) ∙ ap (λ (l : List Half). cascade_next stage (suc k) l y) (later_stepped k x s in_range z n h)
