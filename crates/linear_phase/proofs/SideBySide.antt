-- Sums side by side: each keeps its own order, so a pair or a centre more for all of them is one more for each.
use mathlib.Core.Path.{◌≡◌, refl, sym, ap, ap₂, ◌∙◌}
use mathlib.Core.Bool.{Bool, true, false, cond}
use mathlib.Core.List.{List, [], ◌∷◌, ◌++◌, append-nil}
use Prim.Native.Nat.{ℕ, zero, suc, ◌+◌, ◌-◌, ◌≤◌, ◌<◌}
use native.Mathlib.Decide.{dec_lt}
use native.Mathlib.Nat.{add_comm}
use native.Mathlib.Numerals.{add-one}
use native.Mathlib.Omega.{arith}
use lib.ListN.{length, get_or, get_or-append, take, drop, replicate, length-drop, length-replicate, drop_of_length-le}
use lib.Seq.{get_or-take, get_or-drop, get_or-append-add, get_or_at, length-take-le, take_all, drop-drop}
use lib.Ieee.{Float, nan, binary32, add, mul}
use Rattle.theory.specs.Lists.{listed}
use Rattle.theory.proofs.Listed.{length_listed}
use Rattle.q15.proofs.Filling.{Filled, listed_ext}
use Rattle.float.specs.F32.{zero32}
use Rattle.linear_phase.specs.LinearPhase.{pair}
use Rattle.linear_phase.specs.Windows.{window_acc, has_centre, window_value}
use Rattle.linear_phase.specs.inner.Lanes.{window_sums, pairs_onto, pairs_added, no_sums, centres_added, window_values}

-- the k-th of n
listed_at : {B : Type 0} (z : B) (n : ℕ) (g : ℕ → B) (k : ℕ) → k < n → get_or (listed n g) k z ≡ g k
listed_at z zero g k h = absurd (omega arith)
listed_at {B} z (suc n) g k h = elim (dec_lt k n) [
  | yes l ↦ (get_or-append (listed n g) (g n ∷ []) z k (omega (arith, length_listed n g)) ∙ listed_at z n g k l)
  | no l ↦ (let e : n ≡ k = omega arith in get_or_at (listed n g) (g n) [] z k (length_listed n g ∙ e) ∙ ap g e)
]

-- what is not filled yet is as it was
pub not_yet : {A : Type 0} (z : A) (g : ℕ → A) (d : List A) (count : ℕ) (e : List A) (i : ℕ) → Filled g d count e i → get_or e i z ≡ get_or d i z
not_yet {A} z g d count e i f =
    ap (λ (l : List A). get_or l i z) f.is
    ∙ ap (λ (m : ℕ). get_or (listed i g ++ drop i d) m z) (at (length (listed i g)) (length_listed i g))
    ∙ get_or-append-add (listed i g) (drop i d) 0 z
    ∙ get_or-drop i d 0 z
    ∙ ap (λ (m : ℕ). get_or d m z) (back i)
  where
    at : (m : ℕ) → m ≡ i → i ≡ m + 0
    at m e = omega arith

    back : (i : ℕ) → i + 0 ≡ i
    back i = omega arith

module _ (long : ℕ) (line : List Float) (n : ℕ) (room : long + n ≤ length line) where
  -- the window from place i on
  abbrev window : ℕ → List Float
  window i = take (suc long) (drop i line)

  window_long : (i : ℕ) → i < n → length (window i) ≡ suc long
  window_long i h = length-take-le (suc long) (drop i line) (simp length-drop (omega arith))

  -- its place k
  window_place : (i k : ℕ) → k ≤ long → get_or (window i) k nan ≡ get_or (drop k line) i nan
  window_place i k h =
      get_or-take (suc long) (drop i line) k nan (omega arith)
      ∙ get_or-drop i line k nan
      ∙ ap (λ (m : ℕ). get_or line m nan) (add_comm i k)
      ∙ sym (get_or-drop k line i nan)

  -- one pair more, from sums that stand somewhere
  pub sums_onto : (start : ℕ → Float) (antisymmetric : Bool) (c : List Float) (t : ℕ) → t ≤ long → ((i : ℕ) → i < n → start i ≡ window_acc antisymmetric c (window i) t)
      → pairs_onto start antisymmetric (get_or c t nan) (drop t line) (drop (long - t) line) n ≡ window_sums antisymmetric c long line n (t + 1)
  unfolding pairs_onto window_sums window_acc
  sums_onto start antisymmetric c t h from =
      listed_ext n one (λ i. window_acc antisymmetric c (window i) (t + 1)) each
    where
      one : ℕ → Float
      one i = add binary32 (start i) (mul binary32 (pair antisymmetric (get_or (drop (long - t) line) i nan) (get_or (drop t line) i nan)) (get_or c t nan))

      newest : (i : ℕ) → i < n → get_or (drop (long - t) line) i nan ≡ get_or (window i) (length (window i) - 1 - t) nan
      newest i l =
          let e : length (window i) - 1 - t ≡ long - t = omega (arith, window_long i l) in
          sym (ap (λ (m : ℕ). get_or (window i) m nan) e ∙ window_place i (long - t) (omega arith))

      each : (i : ℕ) → i < n → one i ≡ window_acc antisymmetric c (window i) (t + 1)
      each i l =
          ap₂ {C = Float} (add binary32) (from i l)
          (ap₂ {C = Float} (λ (a b : Float). mul binary32 (pair antisymmetric a b) (get_or c t nan)) (newest i l) (sym (window_place i t h)))
          ∙ ap (window_acc antisymmetric c (window i)) (sym (add-one t))

  -- before the first pair
  pub sums_none : (antisymmetric : Bool) (c : List Float) → window_sums antisymmetric c long line n 0 ≡ no_sums n
  unfolding window_sums window_acc
  sums_none antisymmetric c = refl

  pub sums_next : (antisymmetric : Bool) (c : List Float) (t : ℕ) → t ≤ long
      → pairs_added antisymmetric (get_or c t nan) (drop t line) (drop (long - t) line) (window_sums antisymmetric c long line n t) ≡ window_sums antisymmetric c long line n (t + 1)
  unfolding window_sums
  sums_next antisymmetric c t h =
      ap (pairs_onto (λ i. get_or (listed n sum) i nan) antisymmetric (get_or c t nan) (drop t line) (drop (long - t) line)) (length_listed n sum)
      ∙ sums_onto (λ i. get_or (listed n sum) i nan) antisymmetric c t h (λ i l. listed_at nan n sum i l)
    where
      sum : ℕ → Float
      sum i = window_acc antisymmetric c (take (suc long) (drop i line)) t

  -- no centre
  pub values_plain : (odd antisymmetric : Bool) (c : List Float) → has_centre odd antisymmetric ≡ false
      → window_sums antisymmetric c long line n (length c) ≡ window_values odd antisymmetric c long line n
  unfolding window_sums window_values window_value
  values_plain odd antisymmetric c e =
      ap (λ (b : Bool). listed n (λ i. cond b (add binary32 (sum i) (get_or (window i) (length c) nan)) (sum i))) (sym e)
    where
      sum : ℕ → Float
      sum i = window_acc antisymmetric c (take (suc long) (drop i line)) (length c)

  -- the centre
  pub values_centred : (odd antisymmetric : Bool) (c : List Float) → has_centre odd antisymmetric ≡ true → length c ≤ long
      → centres_added (drop (length c) line) (window_sums antisymmetric c long line n (length c)) ≡ window_values odd antisymmetric c long line n
  unfolding centres_added window_sums window_values window_value
  values_centred odd antisymmetric c e h =
      ap (λ (m : ℕ). listed m one) (length_listed n sum)
      ∙ listed_ext n one (λ i. add binary32 (sum i) (get_or (window i) (length c) nan)) (λ i l. ap₂ {C = Float} (add binary32) (listed_at nan n sum i l) (sym (window_place i (length c) h)))
      ∙ ap (λ (b : Bool). listed n (λ i. cond b (add binary32 (sum i) (get_or (window i) (length c) nan)) (sum i))) (sym e)
    where
      sum : ℕ → Float
      sum i = window_acc antisymmetric c (take (suc long) (drop i line)) (length c)

      one : ℕ → Float
      one i = add binary32 (get_or (listed n sum) i nan) (get_or (drop (length c) line) i nan)

-- all places of d are changed
pub all_changed : {A : Type 0} (g : ℕ → A) (d e : List A) (n : ℕ) → length d ≡ n → e ≡ listed n g ++ drop n d → e ≡ listed (length d) g
all_changed {A} g d e n l q =
    q
    ∙ ap (λ (r : List A). listed n g ++ r) (drop_of_length-le d {i = n} (omega arith))
    ∙ append-nil (listed n g)
    ∙ ap (λ (m : ℕ). listed m g) (sym l)

-- the rest of a list from a place on
pub rest : {A : Type 0} (l : List A) (k : ℕ) → take (length l - k) (drop k l) ≡ drop k l
rest l k = take_all (length l - k) (drop k l) (omega (arith, length-drop k l))

-- the k-th output along a line from place i on
pub output_at : (odd antisymmetric : Bool) (c : List Float) (long : ℕ) (line : List Float) (n i k : ℕ) → k < n
    → get_or (window_values odd antisymmetric c long (drop i line) n) k nan ≡ window_value odd antisymmetric c (take (suc long) (drop (i + k) line))
unfolding window_values
output_at odd antisymmetric c long line n i k h =
    listed_at nan n (λ j. window_value odd antisymmetric c (take (suc long) (drop j (drop i line)))) k h
    ∙ ap (λ (l : List Float). window_value odd antisymmetric c (take (suc long) l)) (drop-drop k i line)

pub values_long : (odd antisymmetric : Bool) (c : List Float) (long : ℕ) (line : List Float) (n : ℕ) → length (window_values odd antisymmetric c long line n) ≡ n
unfolding window_values
values_long odd antisymmetric c long line n = length_listed n (λ i. window_value odd antisymmetric c (take (suc long) (drop i line)))

-- an array of zeros, of any length, holds sums with no pair
pub zero_sums : (n : ℕ) → replicate n zero32 ≡ no_sums (length (replicate n zero32))
zero_sums n = go n ∙ ap no_sums (sym (length-replicate n zero32))
  where
    one_more : (n : ℕ) → replicate n zero32 ++ (zero32 ∷ []) ≡ zero32 ∷ replicate n zero32
    one_more zero = refl
    one_more (suc n) = ap (λ (l : List Float). zero32 ∷ l) (one_more n)

    go : (n : ℕ) → replicate n zero32 ≡ no_sums n
    go zero = refl
    go (suc n) = sym (one_more n) ∙ ap (λ (l : List Float). l ++ (zero32 ∷ [])) (go n)
