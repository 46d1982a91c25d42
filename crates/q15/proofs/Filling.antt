-- A span that is filled from the front: i outputs stand there, and the rest is as it was.
use mathlib.Core.Path.{◌≡◌, refl, sym, ap, ap₂, ◌∙◌}
use mathlib.Core.List.{List, [], ◌∷◌, ◌++◌, append-nil, append_assoc}
use Prim.Native.Nat.{ℕ, zero, suc, ◌+◌, ◌≤◌, ◌<◌, min}
use native.Mathlib.Decide.{dec_le}
use native.Mathlib.Nat.{min-eq_left, min-eq_right, add-zero, add-suc}
use native.Mathlib.Numerals.{add-one}
use native.Mathlib.Omega.{arith}
use lib.IntN.{ℤ}
use lib.ListN.{length, get_or, set, take, drop, length-set, length-append, length-drop, drop_of_length-le}
use lib.Seq.{drop-cons, drop-length, drop-drop, take_at, set_at, append_snoc, take-suc, take_all, take-append-le, drop_at}
use borrow.Rule.Slice.PartMut.{put_mid}
use Rattle.theory.specs.Lists.{listed}
use Rattle.theory.proofs.Listed.{length_listed}
use Rattle.q15.specs.Block.{written, block_span}

-- i outputs, and m after them
pub listed_more : {A : Type 0} (g : ℕ → A) (i m : ℕ) → listed i g ++ listed m (λ k. g (i + k)) ≡ listed (i + m) g
listed_more g i zero = append-nil (listed i g) ∙ ap (λ (n : ℕ). listed n g) (sym (add-zero i))
listed_more {A} g i (suc m) =
    sym (append_assoc (listed i g) (listed m (λ k. g (i + k))) (g (i + m) ∷ []))
    ∙ ap (λ (l : List A). l ++ (g (i + m) ∷ [])) (listed_more g i m)
    ∙ ap (λ (n : ℕ). listed n g) (sym (add-suc i m))

module _ {A : Type 0} (g : ℕ → A) (d : List A) where
  one_filled : (z : A) (i : ℕ) → i < length d → set (listed i g ++ drop i d) i (g i) ≡ listed (i + 1) g ++ drop (i + 1) d
  one_filled z i l =
      ap (λ (r : List A). set (listed i g ++ r) i (g i)) (drop-cons d i z l)
      ∙ set_at (listed i g) (get_or d i z) (drop (suc i) d) (g i) i (length_listed i g)
      ∙ sym (append_snoc (listed i g) (g i) (drop (suc i) d))
      ∙ ap (λ (m : ℕ). listed m g ++ drop m d) (sym (add-one i))

  -- i of count outputs stand in front of the span e, which was d
  pub record Filled (count : ℕ) (e : List A) (i : ℕ) : Type 0 where
    pub is : e ≡ listed i g ++ drop i d
    pub within : i ≤ count
    pub long : length e ≡ length d

  pub next_filled : (count : ℕ) (e : List A) (i : ℕ) (v : A) → i < count → count ≤ length d → v ≡ g i → Filled count e i → Filled count (set e i v) (i + 1)
  next_filled count e i v l m q f =
      record {
        is = ap (λ (x : A). set e i x) q ∙ ap (λ (x : List A). set x i (g i)) f.is ∙ one_filled v i (omega arith);
        within = omega arith;
        long = length-set e i v ∙ f.long;
      }

  pub all_filled : (count : ℕ) (e : List A) (i : ℕ) → count ≤ i → Filled count e i → e ≡ listed count g ++ drop count d
  all_filled count e i l f =
      let q : i ≡ count = omega (arith, f.within) in
      f.is ∙ ap (λ (n : ℕ). listed n g ++ drop n d) q

  -- the whole span
  pub whole_filled : (e : List A) (i : ℕ) → length d ≤ i → Filled (length d) e i → e ≡ listed (length d) g
  whole_filled e i l f = all_filled (length d) e i l f ∙ ap (λ (r : List A). listed (length d) g ++ r) (drop-length d) ∙ append-nil (listed (length d) g)

  -- m outputs go in behind those that stand there
  pub more_filled :
      (count : ℕ) (e : List A) (i m : ℕ) (part : List A) → i + m ≤ count → count ≤ length d → Filled count e i → part ≡ listed m (λ k. g (i + k))
      → Filled count (put_mid i m e part) (i + m)
  more_filled count e i m part l n f q =
      let t : take i e ≡ listed i g = ap (take i) f.is ∙ take_at (listed i g) (drop i d) i (length_listed i g) in
      let r : drop i e ≡ drop i d = ap (drop i) f.is ∙ drop_at (listed i g) (drop i d) i (length_listed i g) in
      let whole : put_mid i m e part ≡ listed (i + m) g ++ drop (i + m) d =
      ap₂ {C = List A} (λ (x y : List A). x ++ (y ++ drop m (drop i e))) t q
      ∙ ap (λ (x : List A). listed i g ++ (listed m (λ k. g (i + k)) ++ drop m x)) r
      ∙ sym (append_assoc (listed i g) (listed m (λ k. g (i + k))) (drop m (drop i d)))
      ∙ ap (λ (x : List A). x ++ drop m (drop i d)) (listed_more g i m)
      ∙ ap (λ (x : List A). listed (i + m) g ++ x) (drop-drop m i d)
      in
      record {
        is = whole;
        within = l;
        long = ap length whole ∙ omega (arith, length-append (listed (i + m) g) (drop (i + m) d), length_listed (i + m) g, length-drop (i + m) d);
      }

-- outputs that are equal one by one
pub listed_ext : {A : Type 0} (n : ℕ) (f g : ℕ → A) → ((k : ℕ) → k < n → f k ≡ g k) → listed n f ≡ listed n g
listed_ext zero f g h = refl
listed_ext {A} (suc n) f g h =
    ap (λ (l : List A). l ++ (f n ∷ [])) (listed_ext n f g (λ k l. h k (omega arith))) ∙ ap (λ (a : A). listed n g ++ (a ∷ [])) (h n (omega arith))

-- the first m of n outputs
take_listed : {A : Type 0} (g : ℕ → A) (m n : ℕ) → m ≤ n → take m (listed n g) ≡ listed m g
take_listed g m zero l = take_all m [] (omega arith) ∙ ap (λ (k : ℕ). listed k g) (let e : 0 ≡ m = omega arith in e)
take_listed g m (suc n) l = elim (dec_le m n) [
  | yes h ↦
      (take-append-le m (listed n g) (g n ∷ []) (omega (arith, length_listed n g)) ∙ take_listed g m n h)
  | no h ↦
      (take_all m (listed (suc n) g) (omega (arith, length_listed (suc n) g)) ∙ ap (λ (k : ℕ). listed k g) (let e : suc n ≡ m = omega arith in e))
]

-- the first of n outputs, as many as there are of m
pub least_listed : {A : Type 0} (g : ℕ → A) (m n : ℕ) → take m (listed n g) ≡ listed (min m n) g
least_listed {A} g m n = elim (dec_le m n) [
  | yes h ↦ (take_listed g m n h ∙ ap {B = List A} (λ (k : ℕ). listed k g) (sym (min-eq_left h)))
  | no h ↦
      (take_all m (listed n g) (omega (arith, length_listed n g)) ∙ ap {B = List A} (λ (k : ℕ). listed k g) (sym (min-eq_right {m = m} (omega arith))))
]

-- as many of n outputs as the span has places for are the span written with them
filled_written : (n : ℕ) (g : ℕ → ℤ) (d : List ℤ) → listed (min (length d) n) g ++ drop (min (length d) n) d ≡ written (listed n g) d
unfolding written
filled_written n g d = elim (dec_le (length d) n) [
  | yes h ↦
      (ap (λ (k : ℕ). listed k g ++ drop k d) (min-eq_left h)
      ∙ ap (λ (l : List ℤ). l ++ drop (length d) d) (sym (take_listed g (length d) n h))
      ∙ ap (λ (l : List ℤ). take (length d) (listed n g) ++ l) (drop-length d ∙ sym (drop_of_length-le d {i = length (listed n g)} (omega (arith, length_listed n g)))))
  | no h ↦
      (ap (λ (k : ℕ). listed k g ++ drop k d) (min-eq_right {m = length d} (omega arith))
      ∙ ap (λ (l : List ℤ). l ++ drop n d) (sym (take_all (length d) (listed n g) (omega (arith, length_listed n g))))
      ∙ ap (λ (k : ℕ). take (length d) (listed n g) ++ drop k d) (sym (length_listed n g)))
]

-- the span of a block that no row turned back
pub block_filled :
    (number n k : ℕ) (g : ℕ → ℤ) (d part : List ℤ) → number ≡ 0 → k ≡ min (length d) n → part ≡ listed k g → part ++ drop k d ≡ block_span number (listed n g) d
block_filled number n k g d part z m h =
    rw z (ap (λ (x : List ℤ). x ++ drop k d) h ∙ ap (λ (i : ℕ). listed i g ++ drop i d) m ∙ filled_written n g d)

-- the span of a block that fills it
pub whole_written : (number : ℕ) (g : ℕ → ℤ) (d e : List ℤ) → number ≡ 0 → e ≡ listed (length d) g → e ≡ block_span number (listed (length d) g) d
unfolding written
whole_written number g d e z h =
    rw z (
    h ∙ sym (append-nil (listed (length d) g))
    ∙ ap₂ {C = List ℤ} (λ (x y : List ℤ). x ++ y) (sym (take_all (length d) (listed (length d) g) (omega (arith, length_listed (length d) g))))
    (sym (drop_of_length-le d {i = length (listed (length d) g)} (omega (arith, length_listed (length d) g))))
    )

-- the first n of a list, and what is left of zeros
pub listed_take : {A : Type 0} (z : A) (n : ℕ) (c : List A) → n ≤ length c → listed n (λ k. get_or c k z) ≡ take n c
listed_take z zero c l = refl
listed_take {A} z (suc n) c l =
    ap (λ (r : List A). r ++ (get_or c n z ∷ [])) (listed_take z n c (omega arith)) ∙ sym (take-suc c n z l)
