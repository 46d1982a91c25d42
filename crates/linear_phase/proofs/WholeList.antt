-- From a delay of zeros the four linear-phase filters make what 02, §2, says of the whole list, however it is cut into blocks: each place of the window is the
-- sample named.
use mathlib.Core.Path.{◌≡◌, refl, sym, ap, ap₂, ◌∙◌}
use mathlib.Core.Bool.{Bool, true, false, cond, ◌&&◌, not}
use mathlib.Core.List.{List, [], ◌∷◌, ◌++◌, append-nil, append_assoc}
use Rattle.std.specs.Prelude.{Option, Some}
use Prim.Native.Nat.{ℕ, zero, suc, ◌+◌, ◌-◌, ◌*◌, ◌≤◌, ◌<◌}
use native.Mathlib.Nat.{le_refl}
use native.Mathlib.Numerals.{add-one}
use native.Mathlib.Omega.{arith}
use lib.ListN.{length, get_or, take, drop, replicate, length-append, length-replicate}
use lib.Seq.{drop-append-le}
use lib.Ieee.{Float, nan, binary32, add, mul}
use Rattle.theory.specs.Sections.{Section, outs, state}
use Rattle.theory.proofs.Sections.{outs_append}
use Rattle.float.specs.F32.{zero32}
use Rattle.half_band.specs.HalfBand.{earlier}
use Rattle.half_band.specs.Windows.{slid}
use Rattle.half_band.specs.HbfIntCascade.{joined}
use Rattle.half_band.proofs.Earlier.{earlier_same, last_of, length_last_of, slid_last, place_of}
use Rattle.q15.proofs.Filling.{listed_ext}
use Rattle.half_band.proofs.WholeLists.{every_value}
use Rattle.linear_phase.specs.LinearPhase.{reach, pair, phase_acc, phase_output, phase_filtered}
use Rattle.linear_phase.specs.Windows.{window_acc, has_centre, window_value}
use Rattle.linear_phase.specs.inner.Lanes.{linear_phase}
use Rattle.linear_phase.specs.LinearPhaseFir.{block_outs}

-- the state after u, and one sample more, is the window of the last samples
with_newest : (L : ℕ) (u : List Float) (x : Float) → last_of L u ++ (x ∷ []) ≡ last_of (suc L) (u ++ (x ∷ []))
with_newest L u x =
    sym (drop-append-le (length u) (replicate L zero32 ++ u) (x ∷ []) (simp (length-append, length-replicate) (omega arith)))
    ∙ ap (drop (length u)) (append_assoc (replicate L zero32) u (x ∷ []))
    ∙ ap (λ (n : ℕ). drop n (zero32 ∷ replicate L zero32 ++ (u ++ (x ∷ [])))) (sym (length-append u (x ∷ []) ∙ add-one (length u)))

-- the delay of M taps
pub record Reaches (M L : ℕ) : Type 0 where
  pub least : M ≤ L
  pub most : L ≤ 2 * M

pub reaches : (odd : Bool) (M : ℕ) → 1 ≤ M → Reaches M (reach odd M)
unfolding reach
reaches true M h = record { least = omega arith; most = omega arith }
reaches false M h = record { least = omega arith; most = omega arith }

pub reach_odd : (odd : Bool) (M : ℕ) → odd ≡ true → reach odd M ≡ 2 * M
unfolding reach
reach_odd odd M e = ap (λ (o : Bool). cond o (2 * M) (2 * M - 1)) e

module _ (odd antisymmetric : Bool) (c : List Float) (some_taps : 1 ≤ length c) where
  abbrev L : ℕ
  L = reach odd (length c)

  enough : length c ≤ L
  enough = (reaches odd (length c) some_taps).least

  acc : (w : List Float) (n t : ℕ) → t ≤ length c → n + 1 ≤ length w
      → window_acc antisymmetric c (last_of (suc L) (take (n + 1) w)) t ≡ phase_acc odd antisymmetric c w n t
  unfolding window_acc phase_acc
  acc w n zero h l = refl
  acc w n (suc t) h l =
      let W : List Float = last_of (suc L) (take (n + 1) w) in
      let e : length W ≡ suc L = length_last_of (suc L) (take (n + 1) w) in
      let m : length c ≤ L = enough in
      let new : get_or W (length W - 1 - t) nan ≡ earlier w n t =
      ap (λ (k : ℕ). get_or W (k - 1 - t) nan) e
      ∙ place_of (suc L) (n + 1) (suc L - 1 - t) w (omega arith) l
      ∙ earlier_same w (n + 1 + (suc L - 1 - t)) (suc L) n t (omega arith) in
      let old : get_or W t nan ≡ earlier w (n + t) L =
      place_of (suc L) (n + 1) t w (omega arith) l ∙ earlier_same w (n + 1 + t) (suc L) (n + t) L (omega arith) in
      ap₂ {C = Float} (add binary32) (acc w n t (omega arith) l)
      (ap₂ {C = Float} (λ (a b : Float). mul binary32 (pair antisymmetric a b) (get_or c t nan)) new old)

  -- the centre, where there is one
  centre : (w : List Float) (n : ℕ) → n + 1 ≤ length w → odd && not antisymmetric ≡ true → get_or (last_of (suc L) (take (n + 1) w)) (length c) nan ≡ earlier w n (length c)
  centre w n l b =
      let q : L ≡ 2 * length c = reach_odd odd (length c) (both odd (not antisymmetric) b) in
      place_of (suc L) (n + 1) (length c) w (omega arith) l ∙ earlier_same w (n + 1 + length c) (suc L) n (length c) (omega arith)
    where
      both : (a b : Bool) → a && b ≡ true → a ≡ true
      both true b h = refl
      both false b h = h

  value : (w : List Float) (n : ℕ) → n + 1 ≤ length w → window_value odd antisymmetric c (last_of (suc L) (take (n + 1) w)) ≡ phase_output odd antisymmetric c w n
  unfolding window_value has_centre phase_output
  value w n l = pick (odd && not antisymmetric) (acc w n (length c) (le_refl (length c)) l) (centre w n l)
    where
      pick : (b : Bool) {x y u v : Float} → x ≡ y → (b ≡ true → u ≡ v) → cond b (add binary32 x u) x ≡ cond b (add binary32 y v) y
      pick true e h = ap₂ {C = Float} (add binary32) e (h refl)
      pick false e h = e

  pub from_zeros : (w : List Float) → outs (linear_phase odd antisymmetric c) (replicate L zero32) w ≡ phase_filtered odd antisymmetric c w
  unfolding linear_phase phase_filtered
  from_zeros w =
      ap (λ (d : List Float). outs (linear_phase odd antisymmetric c) d w) (sym (append-nil (replicate L zero32)))
      ∙ every_value (linear_phase odd antisymmetric c) (last_of L) (λ v. window_value odd antisymmetric c (last_of (suc L) v)) next_at out_at w
      ∙ listed_ext (length w) (λ k. window_value odd antisymmetric c (last_of (suc L) (take (suc k) w))) (phase_output odd antisymmetric c w) each
    where
      next_at : (v : List Float) (x : Float) → slid (last_of L v) (x ∷ []) ≡ last_of L (v ++ (x ∷ []))
      next_at v x = let m : length c ≤ L = enough in slid_last L v (x ∷ []) (omega arith)

      out_at : (v : List Float) (x : Float) → Some (window_value odd antisymmetric c (last_of L v ++ (x ∷ []))) ≡ Some (window_value odd antisymmetric c (last_of (suc L) (v ++ (x ∷ []))))
      out_at v x = ap {B = Option Float} (λ (d : List Float). Some (window_value odd antisymmetric c d)) (with_newest L v x)

      each : (k : ℕ) → k < length w → window_value odd antisymmetric c (last_of (suc L) (take (suc k) w)) ≡ phase_output odd antisymmetric c w k
      each k h = ap (λ (n : ℕ). window_value odd antisymmetric c (last_of (suc L) (take n w))) (sym (add-one k)) ∙ value w k (omega arith)

-- blocks one after the other are the joined list
pub cuts : {S : Type 0} (f : Section S Float Float) (s : S) (blocks : List (List Float)) → block_outs f s blocks ≡ outs f s (joined blocks)
cuts f s [] = refl
cuts f s (b ∷ blocks) = ap (λ (l : List Float). outs f s b ++ l) (cuts f (state f s b) blocks) ∙ sym (outs_append f s b (joined blocks))
