-- From a window of zeros the decimator and the interpolator make what 01 says of the whole list: the state after some values is the window of the last
-- of them (`last_of`), so each output is read off the values so far, and each place of the window is the sample that 01 names.
use mathlib.Core.Path.{◌≡◌, refl, sym, ap, ◌∙◌}
use mathlib.Core.List.{List, [], ◌∷◌, ◌++◌}
use mathlib.Core.Bool.{true, true≢false}
use Rattle.std.specs.Prelude.{Option, Some}
use Prim.Native.Nat.{ℕ, zero, suc, ◌+◌, ◌-◌, ◌*◌, ◌/◌, ◌≤◌, ◌<◌}
use native.Mathlib.Nat.{le_refl}
use native.Mathlib.Numerals.{add-one}
use native.Mathlib.Omega.{arith}
use lib.ListN.{length, get_or, take, replicate}
use lib.Ieee.{Float, nan, binary32, add, mul}
use Rattle.theory.specs.Lists.{listed}
use Rattle.theory.specs.Sections.{Section, outs}
use Rattle.theory.proofs.Listed.{made_at, outs_collected, collected_listed}
use Rattle.q15.proofs.Filling.{listed_ext}
use Rattle.half_band.specs.HalfBand.{half32, earlier, dec_acc, dec_output, decimated, even_output, odd_acc, odd_output, flat, interpolated}
use Rattle.float.specs.F32.{zero32}
use Rattle.half_band.specs.Windows.{slid, folded, dec_value, int_value, pairs, interpolator}
use Rattle.half_band.specs.inner.Decimator.{decimator}
use Rattle.half_band.proofs.Earlier.{earlier_same, last_of, length_last_of, slid_last, place_of}

-- a section that makes an output of every value, whose state and output follow from the values so far
module _ {S A B : Type 0} (f : Section S A B) (at : List A → S) (g : List A → B)
    (next_at : (v : List A) (a : A) → f.next (at v) a ≡ at (v ++ (a ∷ [])))
    (out_at : (v : List A) (a : A) → f.out (at v) a ≡ Some (g (v ++ (a ∷ [])))) where
  pub every_value : (w : List A) → outs f (at []) w ≡ listed (length w) (λ k. g (take (suc k) w))
  every_value w =
      outs_collected f at (made_at (λ n. true) g) next_at out_at w
      ∙ collected_listed (λ n. true) (λ n. n) suc g refl (λ n e. (refl, refl)) (λ n e. absurd (true≢false e)) w

-- the decimator's sum over the first t taps
dec_acc_lem : (c w : List Float) (j t : ℕ) → 1 ≤ length c → t ≤ length c → 2 * j + 2 ≤ length w →
    let W = last_of (4 * length c) (take (2 * j + 2) w) in
    folded 2 c W (get_or W (2 * length c - 1) nan) t ≡ dec_acc c w j t
unfolding folded dec_acc
dec_acc_lem c w j zero p h l =
    place_of (4 * length c) (2 * j + 2) (2 * length c - 1) w (omega arith) l ∙ earlier_same w (2 * j + 2 + (2 * length c - 1)) (4 * length c) (2 * j + 1) (2 * length c) (omega arith)
dec_acc_lem c w j (suc t) p h l =
    let W : List Float = last_of (4 * length c) (take (2 * j + 2) w) in
    let e : length W ≡ 4 * length c = length_last_of (4 * length c) (take (2 * j + 2) w) in
    let a : get_or W (2 * t) nan ≡ earlier w (2 * j + 2 + 2 * t) (4 * length c) = place_of (4 * length c) (2 * j + 2) (2 * t) w (omega arith) l in
    let b : get_or W (length W - 2 - 2 * t) nan ≡ earlier w (2 * j) (2 * t) =
    ap (λ (n : ℕ). get_or W (n - 2 - 2 * t) nan) e
    ∙ place_of (4 * length c) (2 * j + 2) (4 * length c - 2 - 2 * t) w (omega arith) l
    ∙ earlier_same w (2 * j + 2 + (4 * length c - 2 - 2 * t)) (4 * length c) (2 * j) (2 * t) (omega arith) in
    ap (λ (x : Float). add binary32 x (mul binary32 (get_or c t nan) (add binary32 (get_or W (2 * t) nan) (get_or W (length W - 2 - 2 * t) nan)))) (dec_acc_lem c w j t p (omega arith) l)
    ∙ ap (λ (x : Float). add binary32 (dec_acc c w j t) (mul binary32 (get_or c t nan) (add binary32 x (get_or W (length W - 2 - 2 * t) nan)))) a
    ∙ ap (λ (x : Float). add binary32 (dec_acc c w j t) (mul binary32 (get_or c t nan) (add binary32 (earlier w (2 * j + 2 + 2 * t) (4 * length c)) x))) b

dec_value_lem : (c w : List Float) (j : ℕ) → 1 ≤ length c → 2 * j + 2 ≤ length w → dec_value c (last_of (4 * length c) (take (2 * j + 2) w)) ≡ dec_output c w j
unfolding dec_value dec_output
dec_value_lem c w j p l = ap (mul binary32 half32) (dec_acc_lem c w j (length c) p (le_refl (length c)) l)

-- what a pair makes
abbrev pub dec_made : List Float → List Float → Float × Float → Float
dec_made c w p = dec_value c (slid w (p.0 ∷ p.1 ∷ []))

-- ---- pairs
pub flat_append : (v w : List (Float × Float)) → flat (v ++ w) ≡ flat v ++ flat w
flat_append [] w = refl
flat_append (p ∷ v) w = ap (λ (l : List Float). p.0 ∷ p.1 ∷ l) (flat_append v w)

pub flat_snoc : (v : List (Float × Float)) (p : Float × Float) → flat (v ++ (p ∷ [])) ≡ flat v ++ (p.0 ∷ p.1 ∷ [])
flat_snoc v p = flat_append v (p ∷ [])

pub length_pairs : (w : List Float) → length (pairs w) ≡ length w / 2
length_pairs [] = refl
length_pairs (a ∷ []) = refl
length_pairs (a ∷ b ∷ w) = ap suc (length_pairs w) ∙ more (length w)
  where
    more : (n : ℕ) → suc (n / 2) ≡ suc (suc n) / 2
    more n = omega arith

pub pair_at : (w : List Float) (i : ℕ) → 2 * i + 1 < length w → get_or (pairs w) i (nan, nan) ≡ (get_or w (2 * i) nan, get_or w (2 * i + 1) nan)
pair_at [] i h = absurd (omega arith)
pair_at (a ∷ []) i h = absurd (omega arith)
pair_at (a ∷ b ∷ w) zero h = refl
pair_at (a ∷ b ∷ w) (suc i) h =
    pair_at w i (omega arith)
    ∙ ap {B = Float × Float} (λ (n : ℕ). (get_or (a ∷ b ∷ w) n nan, get_or w (2 * i + 1) nan)) (even i)
    ∙ ap {B = Float × Float} (λ (n : ℕ). (get_or (a ∷ b ∷ w) (2 * suc i) nan, get_or (a ∷ b ∷ w) n nan)) (odd i)
  where
    even : (i : ℕ) → suc (suc (2 * i)) ≡ 2 * suc i
    even i = omega arith

    odd : (i : ℕ) → suc (suc (2 * i + 1)) ≡ 2 * suc i + 1
    odd i = omega arith

flat_pairs : (k : ℕ) (w : List Float) → 2 * k ≤ length w → flat (take k (pairs w)) ≡ take (2 * k) w
flat_pairs zero w h = refl
flat_pairs (suc k) [] h = absurd (omega arith)
flat_pairs (suc k) (a ∷ []) h = absurd (omega arith)
flat_pairs (suc k) (a ∷ b ∷ w) h = ap (λ (l : List Float). a ∷ b ∷ l) (flat_pairs k w (omega arith)) ∙ ap (λ (n : ℕ). take n (a ∷ b ∷ w)) (more k)
  where
    more : (k : ℕ) → suc (suc (2 * k)) ≡ 2 * suc k
    more k = omega arith

pub pairs_taken : (k : ℕ) (w : List Float) → 2 * k ≤ length w → pairs (take (2 * k) w) ≡ take k (pairs w)
pairs_taken zero w h = refl
pairs_taken (suc k) [] h = absurd (omega arith)
pairs_taken (suc k) (a ∷ []) h = absurd (omega arith)
pairs_taken (suc k) (a ∷ b ∷ w) h = ap (λ (n : ℕ). pairs (take n (a ∷ b ∷ w))) (fewer k) ∙ ap (λ (l : List (Float × Float)). (a, b) ∷ l) (pairs_taken k w (omega arith))
  where
    fewer : (k : ℕ) → 2 * suc k ≡ suc (suc (2 * k))
    fewer k = omega arith

pub decimator_whole : (c : List Float) → 1 ≤ length c → (w : List Float) → outs (decimator c) (replicate (4 * length c) zero32) (pairs w) ≡ decimated c w
unfolding decimator decimated
decimator_whole c p w =
    ap (λ (s : List Float). outs (decimator c) s (pairs w)) (sym start)
    ∙ every_value (decimator c) (λ v. last_of L (flat v)) (λ v. dec_value c (last_of L (flat v))) next_at (λ v a. ap (λ (s : List Float). Some (dec_value c s)) (next_at v a)) (pairs w)
    ∙ listed_ext (length (pairs w)) (λ k. dec_value c (last_of L (flat (take (suc k) (pairs w))))) (dec_output c w) each
    ∙ ap (λ (n : ℕ). listed n (dec_output c w)) (length_pairs w)
  where
    L : ℕ
    L = 4 * length c

    start : last_of L [] ≡ replicate L zero32
    start = mathlib.Core.List.append-nil (replicate L zero32)

    next_at : (v : List (Float × Float)) (a : Float × Float) → slid (last_of L (flat v)) (a.0 ∷ a.1 ∷ []) ≡ last_of L (flat (v ++ (a ∷ [])))
    next_at v a = slid_last L (flat v) (a.0 ∷ a.1 ∷ []) (omega arith) ∙ ap (last_of L) (sym (flat_snoc v a))

    each : (k : ℕ) → k < length (pairs w) → dec_value c (last_of L (flat (take (suc k) (pairs w)))) ≡ dec_output c w k
    each k h =
        let l : 2 * k + 2 ≤ length w = omega (arith, length_pairs w) in
        let e : 2 * suc k ≡ 2 * k + 2 = omega arith in
        ap (λ (u : List Float). dec_value c (last_of L u)) (flat_pairs (suc k) w (omega arith) ∙ ap (λ (n : ℕ). take n w) e) ∙ dec_value_lem c w k p l

-- ---- the interpolator
odd_acc_lem : (c w : List Float) (n t : ℕ) → t ≤ length c → n + 1 ≤ length w → folded 1 c (last_of (2 * length c) (take (n + 1) w)) zero32 t ≡ odd_acc c w n t
unfolding folded odd_acc
odd_acc_lem c w n zero h l = refl
odd_acc_lem c w n (suc t) h l =
    let W : List Float = last_of (2 * length c) (take (n + 1) w) in
    let e : length W ≡ 2 * length c = length_last_of (2 * length c) (take (n + 1) w) in
    let a : get_or W (1 * t) nan ≡ earlier w (n + 1 + t) (2 * length c) =
    place_of (2 * length c) (n + 1) (1 * t) w (omega arith) l ∙ earlier_same w (n + 1 + 1 * t) (2 * length c) (n + 1 + t) (2 * length c) (omega arith) in
    let b : get_or W (length W - 1 - 1 * t) nan ≡ earlier w n t =
    ap (λ (m : ℕ). get_or W (m - 1 - 1 * t) nan) e
    ∙ place_of (2 * length c) (n + 1) (2 * length c - 1 - 1 * t) w (omega arith) l
    ∙ earlier_same w (n + 1 + (2 * length c - 1 - 1 * t)) (2 * length c) n t (omega arith) in
    ap (λ (x : Float). add binary32 x (mul binary32 (get_or c t nan) (add binary32 (get_or W (1 * t) nan) (get_or W (length W - 1 - 1 * t) nan)))) (odd_acc_lem c w n t (omega arith) l)
    ∙ ap (λ (x : Float). add binary32 (odd_acc c w n t) (mul binary32 (get_or c t nan) (add binary32 x (get_or W (length W - 1 - 1 * t) nan)))) a
    ∙ ap (λ (x : Float). add binary32 (odd_acc c w n t) (mul binary32 (get_or c t nan) (add binary32 (earlier w (n + 1 + t) (2 * length c)) x))) b

int_value_lem : (c w : List Float) (n : ℕ) → 1 ≤ length c → n + 1 ≤ length w → int_value c (last_of (2 * length c) (take (n + 1) w)) ≡ (even_output c w n, odd_output c w n)
unfolding int_value even_output odd_output
int_value_lem c w n p l =
    let W : List Float = last_of (2 * length c) (take (n + 1) w) in
    let even : get_or W (length c) nan ≡ earlier w (n + 1) (length c) =
    place_of (2 * length c) (n + 1) (length c) w (omega arith) l ∙ earlier_same w (n + 1 + length c) (2 * length c) (n + 1) (length c) (omega arith) in
    ap {B = Float × Float} (λ (x : Float). (x, folded 1 c W zero32 (length c))) even
    ∙ ap {B = Float × Float} (λ (x : Float). (earlier w (n + 1) (length c), x)) (odd_acc_lem c w n (length c) (le_refl (length c)) l)

pub interpolator_whole : (c : List Float) → 1 ≤ length c → (w : List Float) → flat (outs (interpolator c) (replicate (2 * length c) zero32) w) ≡ interpolated c w
unfolding interpolator interpolated
interpolator_whole c p w =
    ap (λ (s : List Float). flat (outs (interpolator c) s w)) (sym start)
    ∙ ap flat
    (every_value (interpolator c) (last_of L) (λ v. int_value c (last_of L v)) next_at (λ v a. ap {B = Option (Float × Float)} (λ (s : List Float). Some (int_value c s)) (next_at v a)) w
    ∙ listed_ext (length w) (λ k. int_value c (last_of L (take (suc k) w))) (λ n. (even_output c w n, odd_output c w n)) each)
  where
    L : ℕ
    L = 2 * length c

    start : last_of L [] ≡ replicate L zero32
    start = mathlib.Core.List.append-nil (replicate L zero32)

    next_at : (v : List Float) (a : Float) → slid (last_of L v) (a ∷ []) ≡ last_of L (v ++ (a ∷ []))
    next_at v a = slid_last L v (a ∷ []) (omega arith)

    each : (k : ℕ) → k < length w → int_value c (last_of L (take (suc k) w)) ≡ (even_output c w k, odd_output c w k)
    each k h = ap (λ (n : ℕ). int_value c (last_of L (take n w))) (sym (add-one k)) ∙ int_value_lem c w k p (omega arith)
