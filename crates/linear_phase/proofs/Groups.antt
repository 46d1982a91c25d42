-- Outputs by groups of any size: those of a group are a part of all, and two groups, of which the second ends with all, are all of them.
use mathlib.Core.Path.{◌≡◌, sym, ap, ◌∙◌}
use mathlib.Core.Bool.{Bool}
use mathlib.Core.List.{List, ◌++◌}
use Prim.Native.Nat.{ℕ, suc, ◌+◌, ◌-◌, ◌≤◌, min}
use native.Mathlib.Omega.{arith}
use lib.ListN.{take, drop}
use lib.Seq.{take-add, take-take, drop_at, drop-drop}
use lib.Ieee.{Float}
use Rattle.theory.specs.Lists.{listed}
use Rattle.theory.proofs.Listed.{length_listed}
use Rattle.q15.proofs.Filling.{listed_more, listed_ext, least_listed}
use Rattle.linear_phase.specs.Windows.{window_value}
use Rattle.linear_phase.specs.inner.Lanes.{window_values}

-- w of n outputs, from the k-th on
listed_part : {A : Type 0} (g : ℕ → A) (n k w : ℕ) → k + w ≤ n → listed w (λ j. g (k + j)) ≡ take w (drop k (listed n g))
listed_part {A} g n k w h =
    let e : k + (n - k) ≡ n = omega arith in
    let f : w ≡ min w (n - k) = omega arith in
    ap (λ (m : ℕ). listed m (λ j. g (k + j))) f
    ∙ sym (least_listed (λ j. g (k + j)) w (n - k))
    ∙ ap (take w) (sym (drop_at (listed k g) (listed (n - k) (λ j. g (k + j))) k (length_listed k g)))
    ∙ ap (λ (l : List A). take w (drop k l)) (listed_more g k (n - k) ∙ ap (λ (m : ℕ). listed m g) e)

-- a group of the outputs along a line is one along its rest
pub values_part : (odd antisymmetric : Bool) (c : List Float) (long : ℕ) (line : List Float) (n k w : ℕ) → k + w ≤ n
    → window_values odd antisymmetric c long (drop k line) w ≡ take w (drop k (window_values odd antisymmetric c long line n))
unfolding window_values
values_part odd antisymmetric c long line n k w h =
    listed_ext w (λ j. value (drop j (drop k line))) (λ j. value (drop (k + j) line)) (λ j l. ap value (drop-drop j k line))
    ∙ listed_part (λ j. value (drop j line)) n k w h
  where
    value : List Float → Float
    value l = window_value odd antisymmetric c (take (suc long) l)

-- a first group is the front of all
pub values_front : (odd antisymmetric : Bool) (c : List Float) (long : ℕ) (line : List Float) (n w : ℕ) → w ≤ n → window_values odd antisymmetric c long line w ≡ take w (window_values odd antisymmetric c long line n)
values_front odd antisymmetric c long line n w h = values_part odd antisymmetric c long line n 0 w (omega arith)

-- two parts of w, the second of which ends with the first n
pub two_parts : {A : Type 0} (l : List A) (n w : ℕ) → w ≤ n → n ≤ w + w → take (n - w) (take w l) ++ take w (drop (n - w) l) ≡ take n l
two_parts {A} l n w h g =
    let e : n - w + w ≡ n = omega arith in
    ap (λ (f : List A). f ++ take w (drop (n - w) l)) (take-take (n - w) w l (omega arith))
    ∙ sym (take-add (n - w) w l)
    ∙ ap (λ (k : ℕ). take k l) e
