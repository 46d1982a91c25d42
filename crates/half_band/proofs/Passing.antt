-- One stage of a cascade's loop: what is left for the stages from k on is what the stages from k + 1 on are left with, or the end.
use mathlib.Core.Path.{◌≡◌, refl, sym, ap, ◌∙◌}
use mathlib.Core.Bool.{Bool, true, false, cond}
use mathlib.Core.List.{List, [], ◌∷◌}
use Rattle.std.specs.Prelude.{None, Some}
use Prim.Native.Nat.{ℕ, zero, suc, ◌+◌, ◌-◌, ◌*◌, ◌≤◌, ◌<◌}
use native.Mathlib.Numerals.{add-one}
use native.Mathlib.Omega.{arith}
use borrow.Author.Tests.{eq-eqb, ne_eqb}
use lib.Dec.{eqb}
use lib.ListN.{length, get_or, set, take, drop}
use lib.Ieee.{Float, nan}
use Rattle.float.specs.F32.{zero32}
use Rattle.half_band.specs.Windows.{slid, dec_value, spliced}
use Rattle.half_band.specs.HbfStream.{Half, half, Passed, stage_in, with_stage, through, stream_of}
use Rattle.half_band.specs.declared.hbf_stream.HbfStream.{HbfStream}
use Rattle.half_band.proofs.Splicing.{splice_same}

module _ (taps : ℕ → List Float) where
  pub none_through : (n k : ℕ) (s : HbfStream) → through taps n k None s ≡ record { out = None; state = s }
  unfolding through
  none_through zero k s = refl
  none_through (suc n) k s = refl

  module _ (n k : ℕ) (x : Float) (s : HbfStream) (in_range : k < n) where
    less : n - k ≡ suc (n - (k + 1))
    less = omega arith

    -- the window with the pair in it, and the stage in either case
    abbrev window : List Float
    window = slid (take (4 * length (taps k)) (drop (96 * k) s.delays)) (get_or s.held k nan ∷ x ∷ [])

    abbrev first : Half
    first = record { window = take (4 * length (taps k)) (drop (96 * k) s.delays); held = x; count = 1 }

    abbrev second : Half
    second = record { window = window; held = zero32; count = 0 }

    -- by whether stage k holds nothing
    stage_by : (b : Bool) → eqb (get_or s.counts k 0) 0 ≡ b
        → through taps (n - k) k (Some x) s ≡ through taps (n - (k + 1)) (suc k) (cond b None (Some (dec_value (taps k) window))) (with_stage taps k (cond b first second) s)
    unfolding through half stage_in
    stage_by b e =
        ap (λ (m : ℕ). through taps m k (Some x) s) less
        ∙ ap (λ (c : Bool). through taps (n - (k + 1)) (suc k) (cond c None (Some (dec_value (taps k) window))) (with_stage taps k (cond c first second) s)) e

    -- it holds nothing: it keeps the value
    pub kept : get_or s.counts k 0 ≡ 0
        → through taps (n - k) k (Some x) s ≡ record { out = None; state = stream_of s.depth s.delays (set s.held k x) (set s.counts k 1) }
    unfolding with_stage
    kept e =
        stage_by true (eq-eqb _ _ e)
        ∙ none_through (n - (k + 1)) (suc k) (with_stage taps k first s)
        ∙ ap {B = Passed} (λ (d : List Float). record { out = None; state = stream_of s.depth d (set s.held k x) (set s.counts k 1) }) (splice_same (96 * k) (4 * length (taps k)) s.delays)

    -- it holds one: the pair makes a value for the stages behind it
    pub paired : (get_or s.counts k 0 ≡ 0 → ⊥) → (y : Float) (d : List Float) → y ≡ dec_value (taps k) window → d ≡ spliced (96 * k) (4 * length (taps k)) window s.delays
        → through taps (n - k) k (Some x) s ≡ through taps (n - (k + 1)) (k + 1) (Some y) (stream_of s.depth d (set s.held k zero32) (set s.counts k 0))
    unfolding with_stage
    paired e y d ey ed =
        stage_by false (ne_eqb _ _ e)
        ∙ ap (λ (z : Float). through taps (n - (k + 1)) (suc k) (Some z) (with_stage taps k second s)) (sym ey)
        ∙ ap (λ (z : List Float). through taps (n - (k + 1)) (suc k) (Some y) (stream_of s.depth z (set s.held k zero32) (set s.counts k 0))) (sym ed)
        ∙ ap (λ (j : ℕ). through taps (n - (k + 1)) j (Some y) (stream_of s.depth d (set s.held k zero32) (set s.counts k 0))) (sym (add-one k))

  -- no stage is left
  pub ended : (n k : ℕ) (x : Float) (s : HbfStream) → n ≤ k → through taps (n - k) k (Some x) s ≡ record { out = Some x; state = s }
  unfolding through
  ended n k x s h = ap (λ (m : ℕ). through taps m k (Some x) s) none_left
    where
      none_left : n - k ≡ 0
      none_left = omega arith
