-- Windows of samples and taps: how the streaming FIR stores a sample and moves its window, place by place; that a sum is the same where its samples or its taps stand in
-- a longer list.
use mathlib.Core.Path.{◌≡◌, refl, sym, ap, ◌∙◌}
use mathlib.Core.Bool.{Bool, true, false, cond}
use mathlib.Core.List.{List, ◌++◌}
use Prim.Native.Nat.{ℕ, ◌+◌, ◌*◌, ◌/◌, ◌%◌, ◌-◌, ◌≤◌, ◌<◌, min}
use native.Mathlib.Decide.{dec_le}
use native.Mathlib.Nat.{zero-mul, zero-add, suc-mul, div-add-mod'}
use native.Mathlib.Omega.{arith}
use lib.Dec.{leb}
use lib.IntN.{ℤ, pos, ◌*ℤ◌, +ℤ_idl}
use lib.ListN.{length, set, take, drop, length-append, length-drop, length-set, get_or-append}
use lib.Seq.{get_or-drop, get_or-take, length-take-le}
use Rattle.std.specs.List.{copy_within}
use Rattle.theory.proofs.Decimation.{quotient}
use Rattle.q15.specs.Fixed.{floored_product, at}
use Rattle.q15.specs.FirSum.{fir_sum}
use Rattle.q15.specs.PolyphaseDecimate.{window_sum}
use Rattle.q15.specs.PolyphaseInterpolate.{phase_sum}
use Rattle.q15.specs.FirDecimator.{stored, moved}
use Rattle.q15.proofs.Sums.{fir_sum_ext, fir_sum_at}

-- the taps in front of their array
pub front_taps : (c : List ℤ) (T : ℕ) (s : List ℤ) (from : ℕ) → T ≤ length c → window_sum (take T c) (length (take T c)) s from ≡ window_sum c T s from
front_taps c T s from l =
    ap (λ (n : ℕ). window_sum (take T c) n s from) (length-take-le T c l)
    ∙ fir_sum_ext (λ k. k) (take T c) c T s s from from (λ t h. get_or-take T c t (pos 0) h) (λ t h. refl)

-- the samples from `from` on, k of them
pub part_at : (tap : ℕ → ℕ) (c : List ℤ) (n k from : ℕ) (s : List ℤ) → n ≤ k → fir_sum tap c n (take k (drop from s)) 0 ≡ fir_sum tap c n s from
part_at tap c n k from s l =
    fir_sum_at tap c n s (take k (drop from s)) from (λ t h. get_or-take k (drop from s) t (pos 0) (omega arith) ∙ get_or-drop from s t (pos 0))

-- a sum of a phase at the window of its sample
pub phase_at :
    (c : List ℤ) (L K i k : ℕ) (s : List ℤ) → k ≡ K → i + K ≤ length s → (p : ℕ)
    → phase_sum c L (length (take k (drop i s))) (take k (drop i s)) 0 p ≡ phase_sum c L K s i p
phase_at c L K i k s e l p =
    let n : length (take k (drop i s)) ≡ K = length-take-le k (drop i s) (omega (arith, length-drop i s)) ∙ e in
    ap (λ (n : ℕ). phase_sum c L n (take k (drop i s)) 0 p) n ∙ ap (λ (z : ℤ). pos L *ℤ z) (part_at (λ t. t * L + p) c K k i s (omega arith))

-- one tap to a phase: the sum is its one product
one_product : (c : List ℤ) (l : ℕ) (s : List ℤ) (p : ℕ) → phase_sum c l 1 s 0 p ≡ pos l *ℤ floored_product (at s 0) (at c p)
unfolding fir_sum
one_product c l s p =
    let e : 0 * l + p ≡ p = omega (arith, zero-mul l) in
    ap (λ (z : ℤ). pos l *ℤ z) (+ℤ_idl (floored_product (at s 0) (at c (0 * l + p))) ∙ ap (λ (n : ℕ). floored_product (at s 0) (at c n)) e)

pub single :
    (c : List ℤ) (l : ℕ) (s : List ℤ) (x : ℤ) (n : ℕ) → n ≡ 1 → x ≡ at s 0 → (p : ℕ) → pos l *ℤ floored_product x (at c p) ≡ phase_sum c l n s 0 p
single c l s x n e h p = rw (e, h) (sym (one_product c l s p))

-- the sample and the phase of an output
pub placed : (j i p l : ℕ) → j ≡ i * l + p → p < l → (j / l ≡ i) × (j % l ≡ p)
placed j i p l e h =
    let q : j / l ≡ i = quotient j i l (omega arith) (omega arith) (omega (arith, suc-mul i l)) in
    let m : j / l * l ≡ i * l = ap (λ (n : ℕ). n * l) q in
    (q, omega (arith, m, div-add-mod' j l))

-- places that were copied down to the front are a window moved down
pub moved_down : (T D m : ℕ) (d : List ℤ) → m ≡ min D T → (e : List ℤ) → e ≡ copy_within d m T 0 → e ≡ moved T D d
unfolding moved
moved_down T D m d h e q = elim (dec_le D T) [
  | yes l ↦
      (let k : m ≡ D = omega (arith, h) in
      q ∙ ap (λ (i : ℕ). take (T - i) (drop i d) ++ drop (0 + (T - i)) d) k ∙ ap (λ (i : ℕ). take (T - D) (drop D d) ++ drop i d) (zero-add (T - D)))
  | no l ↦
      (let k : T - m ≡ 0 = omega (arith, h) in
      let n : T - D ≡ 0 = omega arith in
      q ∙ ap (λ (i : ℕ). take i (drop m d) ++ drop (0 + i) d) k ∙ ap (λ (i : ℕ). take i (drop D d) ++ drop i d) (sym n))
]

module _ (T D : ℕ) (d : List ℤ) (l : T ≤ length d) where
  front : length (take (T - D) (drop D d)) ≡ T - D
  front = length-take-le (T - D) (drop D d) (omega (arith, length-drop D d))

  pub length_moved : length (moved T D d) ≡ length d
  unfolding moved
  length_moved = omega (arith, length-append (take (T - D) (drop D d)) (drop (T - D) d), front, length-drop (T - D) d)

  -- a place that the move fills
  pub moved_at : (j : ℕ) → D + j < T → at (moved T D d) j ≡ at d (D + j)
  unfolding moved
  moved_at j h =
      get_or-append (take (T - D) (drop D d)) (drop (T - D) d) (pos 0) j (omega (arith, front))
      ∙ get_or-take (T - D) (drop D d) j (pos 0) (omega arith)
      ∙ get_or-drop D d j (pos 0)

pub length_stored : (T w : ℕ) (x : ℤ) (d : List ℤ) → length (stored T w x d) ≡ length d
unfolding stored
length_stored T w x d = go (leb w T)
  where
    go : (b : Bool) → length (cond b (set d (T - w) x) d) ≡ length d
    go true = length-set d (T - w) x
    go false = refl
