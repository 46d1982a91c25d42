-- The loop that writes the front of one list over another: before turn i the first i places are the new ones.
use Rattle.std.proofs.Common.{◌≡◌, ℕ, suc, ◌+◌, ◌<◌, ◌≤◌, min, List, ◌++◌, length, get_or, take, drop, set, sym, ap, ◌∙◌, add-one, arith, drop_of_length-le, length-take-le, take_all, drop-cons, take-suc}
use native.Mathlib.Decide.{dec_le}
use native.Mathlib.Nat.{min-eq_left}
use lib.Seq.{set_at, append_snoc}

module _ {A : Type 0} (h s : List A) where
  pub one_more : (z : A) (i : ℕ) → i < length h → i < length s → set (take i h ++ drop i s) i (get_or h i z) ≡ take (i + 1) h ++ drop (i + 1) s
  one_more z i l g =
      let x = get_or h i z in
      let m : i ≤ length h = omega arith in
      ap (λ d. set (take i h ++ d) i x) (drop-cons s i z g)
      ∙ set_at (take i h) (get_or s i z) (drop (suc i) s) x i (length-take-le i h m)
      ∙ sym (append_snoc (take i h) x (drop (suc i) s))
      ∙ ap (λ p. p ++ drop (suc i) s) (sym (take-suc h i z l))
      ∙ ap (λ k. take k h ++ drop k s) (sym (add-one i))

  -- past the end of both there is no more to write
  pub all : (i n : ℕ) → i ≤ n → length h ≤ i → length s ≤ i → take i h ++ drop i s ≡ take n h ++ drop n s
  all i n m l g =
      let l₂ : length h ≤ n = omega arith in
      let g₂ : length s ≤ n = omega arith in
      ap (λ p. p ++ drop i s) (take_all i h l ∙ sym (take_all n h l₂))
      ∙ ap (λ d. take n h ++ d) (drop_of_length-le s g ∙ sym (drop_of_length-le s g₂))

  pub ended : (long i n : ℕ) → length h ≡ long → length s ≡ long → i ≡ min n long → take i h ++ drop i s ≡ take n h ++ drop n s
  ended long i n a b e = go (dec_le n long)
    where
      go : Dec (n ≤ long) → take i h ++ drop i s ≡ take n h ++ drop n s
      go (yes l) = ap (λ k. take k h ++ drop k s) (e ∙ min-eq_left l)
      go (no f) = all i n (omega (arith, e)) (omega (arith, e)) (omega (arith, e))
