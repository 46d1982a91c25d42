-- `LinearPhaseFir` runs as the filter of its taps with its delay as the state, so from an opening it makes what 02, §2, says of the whole list.
use mathlib.Core.Path.{◌≡◌, refl, sym, ap, ap₂, ◌∙◌}
use mathlib.Core.Bool.{Bool, true, false, cond}
use mathlib.Core.List.{List, [], ◌∷◌, ◌++◌}
use Prim.Native.Nat.{ℕ, ◌-◌, ◌≤◌, ◌<◌}
use native.Mathlib.Omega.{arith}
use lib.ListN.{length, get_or, take, drop, replicate, set}
use lib.Seq.{take_at}
use lib.Ieee.{Float, nan}
use Rattle.theory.specs.Sections.{Section, outs, state}
use Rattle.refusal.specs.Outcome.{Opened}
use Rattle.refusal.specs.Rows.{outside}
use Rattle.refusal.proofs.Limits.{Between, not_outside}
use Rattle.float.specs.F32.{zero32}
use Rattle.half_band.specs.Windows.{slid}
use Rattle.half_band.specs.HbfIntCascade.{joined}
use Rattle.std.proofs.lemmas.List.{take-replicate}
use Rattle.half_band.proofs.Moving.{length_slid}
use Rattle.half_band.proofs.Stored as stored
use Rattle.linear_phase.specs.LinearPhase.{reach, phase_filtered}
use Rattle.linear_phase.specs.Windows.{window_value}
use Rattle.linear_phase.specs.inner.Lanes.{linear_phase}
use Rattle.linear_phase.specs.LinearPhaseFir.{phase_of, phase_taps, phase_delay, with_delay, phase_next, phase_out, phase_fir, phase_none, phase_fresh, phase_opening, phase_refused, PhaseStreams}
use Rattle.linear_phase.specs.declared.linear_phase_fir.LinearPhaseFir.{LinearPhaseFir}
use Rattle.linear_phase.proofs.WholeList.{reaches, from_zeros, cuts}

abbrev pub Usable : LinearPhaseFir → Type 0
Usable d = stored.Usable 46 d.m d.taps d.delay

room : (d : LinearPhaseFir) → Usable d → reach d.odd d.m ≤ 46
room d u = omega (arith, (reaches d.odd d.m u.least).most, u.most)

module _ (d : LinearPhaseFir) (u : Usable d) where
  abbrev build : ℕ → List Float → List Float → LinearPhaseFir
  build m c w = record { m = m; odd = d.odd; antisymmetric = d.antisymmetric; taps = c; delay = w }

  abbrev by : List Float → Section (List Float) Float Float
  by c = linear_phase d.odd d.antisymmetric c

  kept : (w : List Float) (x : Float) → length w ≡ reach d.odd d.m → length ((by (phase_taps d)).next w x) ≡ reach d.odd d.m
  unfolding linear_phase
  kept w x e = length_slid w (x ∷ []) (omega (arith, e, (reaches d.odd d.m u.least).least, u.least)) ∙ e

  pub outs_delay : (v : List Float) → outs phase_fir d v ≡ outs (by (phase_taps d)) (phase_delay d) v
  unfolding phase_fir phase_next phase_out linear_phase
  outs_delay v = stored.outs_stored (reach d.odd d.m) 46 d.m d.taps d.delay u (room d u) build phase_fir by (λ t a. refl) (λ t a. refl) kept v

  pub state_delay : (v : List Float) → state phase_fir d v ≡ with_delay d (state (by (phase_taps d)) (phase_delay d) v)
  unfolding phase_fir phase_next phase_out linear_phase
  state_delay v = stored.state_stored (reach d.odd d.m) 46 d.m d.taps d.delay u (room d u) build phase_fir by (λ t a. refl) (λ t a. refl) kept v

-- ---- a half inside its limits, its arrays as long as their types say, and as many places of the delay as `reach` answers
module _ (M : ℕ) (odd antisymmetric : Bool) (taps delay : List Float) (inside : (1 ≤ M) × (M ≤ 23)) (taps_long : length taps ≡ 23) (delay_long : length delay ≡ 46)
    (long : ℕ) (e : long ≡ reach odd M) where
  u : Usable (phase_of M odd antisymmetric taps delay)
  u = record { least = inside.0; most = inside.1; coeffs_long = taps_long; delay_long = delay_long }

  abbrev f : Section (List Float) Float Float
  f = linear_phase odd antisymmetric (take M taps)

  pub outs_are : (v o : List Float) → o ≡ outs f (take long delay) v → o ≡ outs phase_fir (phase_of M odd antisymmetric taps delay) v
  outs_are v o h = h ∙ ap (λ (n : ℕ). outs f (take n delay) v) e ∙ sym (outs_delay (phase_of M odd antisymmetric taps delay) u v)

  pub state_is : (v w : List Float) → w ≡ state f (take long delay) v → phase_of M odd antisymmetric taps (w ++ drop long delay) ≡ state phase_fir (phase_of M odd antisymmetric taps delay) v
  state_is v w h =
      ap (λ (n : ℕ). phase_of M odd antisymmetric taps (w ++ drop n delay)) e
      ∙ ap (λ (l : List Float). phase_of M odd antisymmetric taps (l ++ drop (reach odd M) delay)) (h ∙ ap (λ (n : ℕ). state f (take n delay) v) e)
      ∙ sym (state_delay (phase_of M odd antisymmetric taps delay) u v)

  -- one sample
  pub next_is : (x : Float) (w : List Float) → w ≡ slid (take long delay) (x ∷ []) → phase_of M odd antisymmetric taps (w ++ drop long delay) ≡ phase_next (phase_of M odd antisymmetric taps delay) x
  unfolding phase_next
  next_is x w h =
      ap (λ (n : ℕ). phase_of M odd antisymmetric taps (w ++ drop n delay)) e
      ∙ ap (λ (l : List Float). phase_of M odd antisymmetric taps (l ++ drop (reach odd M) delay)) (h ∙ ap (λ (n : ℕ). slid (take n delay) (x ∷ [])) e)

  pub out_is : (x y : Float) → y ≡ window_value odd antisymmetric (take M taps) (take long delay ++ (x ∷ [])) → y ≡ phase_out (phase_of M odd antisymmetric taps delay) x
  unfolding phase_out
  out_is x y h = h ∙ ap (λ (n : ℕ). window_value odd antisymmetric (take M taps) (take n delay ++ (x ∷ []))) e

-- ---- one sample, or two, one after the other
only : {A : Type 0} (z : A) (l : List A) → length l ≡ 1 → l ≡ get_or l 0 z ∷ []
only z [] h = absurd (omega arith)
only {A} z (x ∷ []) h = refl
only z (x ∷ y ∷ l) h = absurd (omega arith)

both : {A : Type 0} (z : A) (l : List A) → length l ≡ 2 → l ≡ get_or l 0 z ∷ get_or l 1 z ∷ []
both z [] h = absurd (omega arith)
both z (x ∷ []) h = absurd (omega arith)
both {A} z (x ∷ y ∷ []) h = refl
both z (x ∷ y ∷ w ∷ l) h = absurd (omega arith)

module _ (d : LinearPhaseFir) (v : List Float) where
  pub one_state : (e : LinearPhaseFir) → length v ≡ 1 → e ≡ phase_next d (get_or v 0 nan) → e ≡ state phase_fir d v
  unfolding phase_fir
  one_state e h q = q ∙ ap (state phase_fir d) (sym (only nan v h))

  pub one_out : (span : List Float) (y : Float) → length v ≡ 1 → length span ≡ 1 → y ≡ phase_out d (get_or v 0 nan) → set span 0 y ≡ outs phase_fir d v
  unfolding phase_fir
  one_out span y h l q = ap (λ (s : List Float). set s 0 y) (only nan span l) ∙ ap (λ (x : Float). x ∷ []) q ∙ ap (outs phase_fir d) (sym (only nan v h))

  pub two_states : (e f : LinearPhaseFir) → length v ≡ 2 → e ≡ phase_next d (get_or v 0 nan) → f ≡ phase_next e (get_or v 1 nan) → f ≡ state phase_fir d v
  unfolding phase_fir
  two_states e f h q p = p ∙ ap (λ (s : LinearPhaseFir). phase_next s (get_or v 1 nan)) q ∙ ap (state phase_fir d) (sym (both nan v h))

  pub two_outs : (e : LinearPhaseFir) (span : List Float) (y z : Float) → length v ≡ 2 → length span ≡ 2 → e ≡ phase_next d (get_or v 0 nan) → y ≡ phase_out d (get_or v 0 nan) → z ≡ phase_out e (get_or v 1 nan)
      → set (set span 0 y) 1 z ≡ outs phase_fir d v
  unfolding phase_fir
  two_outs e span y z h l q p r =
      ap (λ (s : List Float). set (set s 0 y) 1 z) (both nan span l)
      ∙ ap₂ {C = List Float} (λ (a b : Float). a ∷ b ∷ []) p (r ∙ ap (λ (s : LinearPhaseFir). phase_out s (get_or v 1 nan)) q)
      ∙ ap (outs phase_fir d) (sym (both nan v h))

-- an opening
pub fresh_streams : (odd antisymmetric : Bool) (c : List Float) → Between 1 (length c) 23 → PhaseStreams odd antisymmetric c (phase_fresh odd antisymmetric c)
fresh_streams odd antisymmetric c b =
    record {
      never_refused = λ v. ap (λ (s : LinearPhaseFir). phase_refused s) (state_delay d u v) ∙ not_outside (length c) 1 23 b.least b.most;
      whole = whole;
      cut = λ blocks. cuts phase_fir (phase_fresh odd antisymmetric c) blocks ∙ whole (joined blocks);
    }
  where
    d : LinearPhaseFir
    d = phase_fresh odd antisymmetric c

    u : Usable (phase_fresh odd antisymmetric c)
    u = stored.fresh_usable 46 c b

    whole : (v : List Float) → outs phase_fir (phase_fresh odd antisymmetric c) v ≡ phase_filtered odd antisymmetric c v
    whole v =
        outs_delay (phase_fresh odd antisymmetric c) (stored.fresh_usable 46 c b) v
        ∙ ap (λ (t : List Float). outs (linear_phase odd antisymmetric t) (take (reach odd (length c)) (replicate 46 zero32)) v) (take_at c (replicate (23 - length c) zero32) (length c) refl)
        ∙ ap (λ (w : List Float). outs (linear_phase odd antisymmetric c) w v) (take-replicate (reach odd (length c)) 46 zero32 (omega (arith, (reaches odd (length c) b.least).most, b.most)))
        ∙ from_zeros odd antisymmetric c b.least v

-- the state of one that is refused, of two that a test decides between, and of an opening
refused_by : (f : LinearPhaseFir) (b : Bool) (n : ℕ) → 0 < n → n ≡ (cond {A = Opened LinearPhaseFir} b (record { number = 19; state = phase_none }) (record { number = 0; state = f })).number
    → record { number = n; state = phase_none } ≡ cond {A = Opened LinearPhaseFir} b (record { number = 19; state = phase_none }) (record { number = 0; state = f })
refused_by f true n h e = ap {B = Opened LinearPhaseFir} (λ (k : ℕ). record { number = k; state = phase_none }) e
refused_by f false n h e = absurd (omega (arith, h, e))

pub refused_zeros : (odd antisymmetric : Bool) (c : List Float) (n : ℕ) → 0 < n → n ≡ (phase_opening odd antisymmetric c).number
    → record { number = n; state = phase_none } ≡ phase_opening odd antisymmetric c
refused_zeros odd antisymmetric c n h e = refused_by (phase_fresh odd antisymmetric c) (outside (length c) 1 23) n h e
