-- `HbfInt` runs as the interpolator on windows; so its blocks are those of the definition, and its opening makes section 7's list.
use Rattle.std.specs.Prelude.{Ok}
use mathlib.Core.Path.{◌≡◌, refl, sym, ap, ◌∙◌}
use mathlib.Core.Bool.{false}
use mathlib.Core.List.{List, [], ◌∷◌, ◌++◌}
use Prim.Native.Nat.{ℕ, ◌-◌, ◌*◌, ◌/◌, ◌≤◌, min}
use native.Mathlib.Omega.{arith}
use lib.ListN.{length, take, drop, replicate}
use lib.Seq.{take_at}
use lib.Ieee.{Float}
use Rattle.theory.specs.Sections.{state, outs}
use Rattle.refusal.specs.Rows.{samples_refused}
use Rattle.refusal.specs.Outcome.{told_on}
use Rattle.half_band.specs.HalfBand.{flat}
use Rattle.float.specs.F32.{zero32}
use Rattle.half_band.specs.Windows.{interpolator}
use Rattle.half_band.specs.HbfInt.{int_taps, int_window, with_int_window, int_next, int_out, hbf_int, int_fresh, int_refused, int_block, int_span, IntMeets}
use Rattle.half_band.specs.declared.hbf_int.HbfInt.{HbfInt}
use Rattle.refusal.proofs.Limits.{Between, not_outside}
use Rattle.half_band.proofs.Choices.{third}
use Rattle.half_band.proofs.Moving.{length_slid}
use Rattle.std.proofs.lemmas.List.{take-replicate}
use Rattle.half_band.proofs.Stored as stored
use Rattle.half_band.proofs.WholeLists.{interpolator_whole}

-- a state that is not refused
abbrev pub Usable : HbfInt → Type 0
Usable d = stored.Usable 48 d.m d.coeffs d.delay

room : (d : HbfInt) → Usable d → 2 * d.m ≤ 48
room d u = omega (arith, u.most)

abbrev build : ℕ → List Float → List Float → HbfInt
build m c d = record { m = m; coeffs = c; delay = d }

module _ (d : HbfInt) (u : Usable d) where
  kept : (w : List Float) (x : Float) → length w ≡ 2 * d.m → length ((interpolator (int_taps d)).next w x) ≡ 2 * d.m
  unfolding interpolator
  kept w x e = length_slid w (x ∷ []) (omega (arith, u.least)) ∙ e

  pub outs_window : (v : List Float) → outs hbf_int d v ≡ outs (interpolator (int_taps d)) (int_window d) v
  unfolding hbf_int int_next int_out interpolator
  outs_window v = stored.outs_stored (2 * d.m) 48 d.m d.coeffs d.delay u (room d u) build hbf_int interpolator (λ t a. refl) (λ t a. refl) kept v

  pub state_window : (v : List Float) → state hbf_int d v ≡ with_int_window d (state (interpolator (int_taps d)) (int_window d) v)
  unfolding hbf_int int_next int_out interpolator
  state_window v = stored.state_stored (2 * d.m) 48 d.m d.coeffs d.delay u (room d u) build hbf_int interpolator (λ t a. refl) (λ t a. refl) kept v

  -- a block of n samples that is not refused
  module _ (v span : List Float) (n : ℕ) (fine : int_refused d ≡ false) (in_limits_lem : samples_refused (length v) (length span) ≡ false) (count : n ≡ min (length v) (length span / 2)) where
    pub block_answer_lem : (w : List Float) → w ≡ state (interpolator (int_taps d)) (int_window d) (take n v) → told_on 0 (Ok (2 * n)) (with_int_window d w) ≡ int_block d v (length span)
    block_answer_lem w e =
        ap (λ (t : List Float). told_on 0 (Ok (2 * n)) (with_int_window d t)) e
        ∙ ap (λ (t : HbfInt). told_on 0 (Ok (2 * n)) t) (sym (state_window (take n v)))
        ∙ ap (λ (k : ℕ). told_on 0 (Ok (2 * k)) (state hbf_int d (take k v))) count
        ∙ third _ _ _ _ _ fine in_limits_lem

    pub block_span_lem : (t : List Float) → t ≡ flat (outs (interpolator (int_taps d)) (int_window d) (take n v)) ++ drop (2 * n) span → t ≡ int_span d v span
    block_span_lem t e =
        e
        ∙ ap (λ (l : List (Float × Float)). flat l ++ drop (2 * n) span) (sym (outs_window (take n v)))
        ∙ ap (λ (k : ℕ). flat (outs hbf_int d (take k v)) ++ drop (2 * k) span) count
        ∙ third _ _ _ _ _ fine in_limits_lem

-- an opening
pub fresh_meets : (c : List Float) → Between 1 (length c) 23 → IntMeets c (int_fresh c)
fresh_meets c b =
    record {
      never_refused = λ v. ap (λ (s : HbfInt). int_refused s) (state_window d u v) ∙ not_outside (length c) 1 23 b.least b.most;
      whole = λ v.
          ap flat
          (outs_window d u v
          ∙ ap (λ (t : List Float). outs (interpolator t) (int_window d) v) (take_at c (replicate (23 - length c) zero32) (length c) refl)
          ∙ ap (λ (w : List Float). outs (interpolator c) w v) (take-replicate (2 * length c) 48 zero32 (omega (arith, b.most))))
          ∙ interpolator_whole c b.least v;
    }
  where
    d : HbfInt
    d = int_fresh c

    u : Usable (int_fresh c)
    u = stored.fresh_usable 48 c b
