-- `HbfDec` runs as the decimator on windows; so its blocks are those of the definition, and its opening makes section 4's list.
use Rattle.std.specs.Prelude.{Ok}
use mathlib.Core.Path.{◌≡◌, refl, sym, ap, ◌∙◌}
use mathlib.Core.Bool.{false}
use mathlib.Core.List.{List, [], ◌∷◌, ◌++◌}
use Prim.Native.Nat.{ℕ, ◌-◌, ◌*◌, ◌/◌, ◌≤◌, min}
use native.Mathlib.Omega.{arith}
use lib.ListN.{length, take, drop, replicate}
use lib.Seq.{take_at}
use lib.Ieee.{Float}
use Rattle.theory.specs.Sections.{state, outs}
use Rattle.refusal.specs.Rows.{samples_refused}
use Rattle.refusal.specs.Outcome.{told_on}
use Rattle.float.specs.F32.{zero32}
use Rattle.half_band.specs.Windows.{pairs}
use Rattle.half_band.specs.inner.Decimator.{decimator}
use Rattle.half_band.specs.HbfDec.{dec_taps, dec_window, with_dec_window, dec_next, dec_out, hbf_dec, dec_fresh, dec_refused, dec_block, dec_span, DecMeets}
use Rattle.half_band.specs.declared.hbf_dec.HbfDec.{HbfDec}
use Rattle.refusal.proofs.Limits.{Between, not_outside}
use Rattle.half_band.proofs.Choices.{third}
use Rattle.half_band.proofs.Moving.{length_slid}
use Rattle.std.proofs.lemmas.List.{take-replicate}
use Rattle.half_band.proofs.Stored as stored
use Rattle.half_band.proofs.WholeLists.{pairs_taken, decimator_whole}

-- a state that is not refused
abbrev pub Usable : HbfDec → Type 0
Usable d = stored.Usable 96 d.m d.coeffs d.delay

room : (d : HbfDec) → Usable d → 4 * d.m ≤ 96
room d u = omega (arith, u.most)

abbrev build : ℕ → List Float → List Float → HbfDec
build m c d = record { m = m; coeffs = c; delay = d }

module _ (d : HbfDec) (u : Usable d) where
  kept : (w : List Float) (p : Float × Float) → length w ≡ 4 * d.m → length ((decimator (dec_taps d)).next w p) ≡ 4 * d.m
  unfolding decimator
  kept w p e = length_slid w (p.0 ∷ p.1 ∷ []) (omega (arith, u.least)) ∙ e

  pub outs_window : (p : List (Float × Float)) → outs hbf_dec d p ≡ outs (decimator (dec_taps d)) (dec_window d) p
  unfolding hbf_dec dec_next dec_out decimator
  outs_window p = stored.outs_stored (4 * d.m) 96 d.m d.coeffs d.delay u (room d u) build hbf_dec decimator (λ t a. refl) (λ t a. refl) kept p

  pub state_window : (p : List (Float × Float)) → state hbf_dec d p ≡ with_dec_window d (state (decimator (dec_taps d)) (dec_window d) p)
  unfolding hbf_dec dec_next dec_out decimator
  state_window p = stored.state_stored (4 * d.m) 96 d.m d.coeffs d.delay u (room d u) build hbf_dec decimator (λ t a. refl) (λ t a. refl) kept p

  -- a block of n pairs that is not refused
  module _ (v span : List Float) (n : ℕ) (fine : dec_refused d ≡ false) (in_limits_lem : samples_refused (length v) (length span) ≡ false) (count : n ≡ min (length span) (length v / 2)) where
    taken : pairs (take (2 * n) v) ≡ take n (pairs v)
    taken = pairs_taken n v (omega arith)

    pub block_answer_lem : (w : List Float) → w ≡ state (decimator (dec_taps d)) (dec_window d) (pairs (take (2 * n) v)) → told_on 0 (Ok n) (with_dec_window d w) ≡ dec_block d v (length span)
    block_answer_lem w e =
        ap (λ (t : List Float). told_on 0 (Ok n) (with_dec_window d t)) (e ∙ ap (state (decimator (dec_taps d)) (dec_window d)) taken)
        ∙ ap (λ (t : HbfDec). told_on 0 (Ok n) t) (sym (state_window (take n (pairs v))))
        ∙ ap (λ (k : ℕ). told_on 0 (Ok k) (state hbf_dec d (take k (pairs v)))) count
        ∙ third _ _ _ _ _ fine in_limits_lem

    pub block_span_lem : (y : List Float) → y ≡ outs (decimator (dec_taps d)) (dec_window d) (pairs (take (2 * n) v)) → y ++ drop n span ≡ dec_span d v span
    block_span_lem y e =
        ap (λ (l : List Float). l ++ drop n span) (e ∙ ap (outs (decimator (dec_taps d)) (dec_window d)) taken ∙ sym (outs_window (take n (pairs v))))
        ∙ ap (λ (k : ℕ). outs hbf_dec d (take k (pairs v)) ++ drop k span) count
        ∙ third _ _ _ _ _ fine in_limits_lem

-- an opening
pub fresh_meets : (c : List Float) → Between 1 (length c) 23 → DecMeets c (dec_fresh c)
fresh_meets c b =
    record {
      never_refused = λ p. ap (λ (s : HbfDec). dec_refused s) (state_window d u p) ∙ not_outside (length c) 1 23 b.least b.most;
      whole = λ v.
          outs_window d u (pairs v)
          ∙ ap (λ (t : List Float). outs (decimator t) (dec_window d) (pairs v)) (take_at c (replicate (23 - length c) zero32) (length c) refl)
          ∙ ap (λ (w : List Float). outs (decimator c) w (pairs v)) (take-replicate (4 * length c) 96 zero32 (omega (arith, b.most)))
          ∙ decimator_whole c b.least v;
    }
  where
    d : HbfDec
    d = dec_fresh c

    u : Usable (dec_fresh c)
    u = stored.fresh_usable 96 c b
