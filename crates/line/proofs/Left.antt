-- What is left of a list behind its first so many, as the code lends it: up to the end, so that nothing stands behind it.
use mathlib.Core.Path.{◌≡◌, ap, ◌∙◌}
use mathlib.Core.List.{List, ◌++◌, append-nil}
use Prim.Native.Nat.{ℕ, ◌-◌}
use native.Mathlib.Omega.{arith}
use lib.ListN.{length, take, drop, length-drop, drop_of_length-le}
use lib.Seq.{take_all}

abbrev pub left : {A : Type 0} → ℕ → List A → List A
left t xs = take (length xs - t) (drop t xs)

module _ {A : Type 0} (t : ℕ) (xs : List A) where
  pub left_are : left t xs ≡ drop t xs
  left_are = take_all (length xs - t) (drop t xs) (let n = length-drop t xs in omega (arith, n))

  pub left_long : length (left t xs) ≡ length xs - t
  left_long = ap length left_are ∙ length-drop t xs

  pub none_behind : (part : List A) → part ++ drop (length xs - t) (drop t xs) ≡ part
  none_behind part = ap (λ (v : List A). part ++ v) (drop_of_length-le (drop t xs) (let n = length-drop t xs in omega (arith, n))) ∙ append-nil part
