-- Values that were laid one behind the other are read as they were, over any width: what a width is asked for is that one value is (`Reads`).
use mathlib.Core.Path.{◌≡◌, refl, sym, ap, ◌∙◌}
use mathlib.Core.Bool.{true}
use mathlib.Core.List.{List, [], ◌∷◌, ◌++◌, append_assoc}
use Prim.Native.Nat.{ℕ, zero, suc, ◌+◌, ◌*◌, ◌<◌}
use native.Mathlib.Omega.{arith}
use borrow.Author.Tests.{eq-eqb}
use lib.Ieee.{Float, binary32, to_bits, of_bits}
use lib.Ieee.Bits.{of_bits-to_bits}
use lib.ListN.{length, get_or, take, drop, set, replicate, length-append}
use lib.Seq.{drop_at, drop-drop}
use Rattle.sheet.specs.Sheet.{le32}
use Rattle.sheet.proofs.RoundTrip.{found_at}
use Rattle.sheet.proofs.RoundTrip.{every_all}
use Rattle.words.specs.inner.Reading.{Reads, bits_below}
use Rattle.words.specs.Fields.{f32_bytes, joined, values_at, is_float, floats_at, All, IsFloat}

-- ---- what holds of every element

pub all_take : {A : Type 0} (P : A → Type 0) (n : ℕ) (xs : List A) → All P xs → All P (take n xs)
all_take P zero xs a = tt
all_take P (suc n) [] a = tt
all_take P (suc n) (x ∷ xs) a = (a.0, all_take P n xs a.1)

pub all_drop : {A : Type 0} (P : A → Type 0) (n : ℕ) (xs : List A) → All P xs → All P (drop n xs)
all_drop P zero xs a = a
all_drop P (suc n) [] a = tt
all_drop P (suc n) (x ∷ xs) a = all_drop P n xs a.1

pub all_append : {A : Type 0} (P : A → Type 0) (xs ys : List A) → All P xs → All P ys → All P (xs ++ ys)
all_append P [] ys a b = b
all_append P (x ∷ xs) ys a b = (a.0, all_append P xs ys a.1 b)

pub all_set : {A : Type 0} (P : A → Type 0) (xs : List A) (k : ℕ) (y : A) → All P xs → P y → All P (set xs k y)
all_set P [] k y a p = tt
all_set P (x ∷ xs) zero y a p = (p, a.1)
all_set P (x ∷ xs) (suc k) y a p = (a.0, all_set P xs k y a.1 p)

pub all_replicate : {A : Type 0} (P : A → Type 0) (n : ℕ) (x : A) → P x → All P (replicate n x)
all_replicate P zero x p = tt
all_replicate P (suc n) x p = (p, all_replicate P n x p)

pub all_get_d : {A : Type 0} (P : A → Type 0) (xs : List A) (k : ℕ) (d : A) → All P xs → P d → P (get_or xs k d)
all_get_d P [] k d a p = p
all_get_d P (x ∷ xs) zero d a p = a.0
all_get_d P (x ∷ xs) (suc k) d a p = all_get_d P xs k d a.1 p

-- ---- values one behind the other

module _ {A : Type 0} (bytes : A → List ℕ) where
  pub joined_append : (xs ys : List A) → joined bytes (xs ++ ys) ≡ joined bytes xs ++ joined bytes ys
  unfolding joined
  joined_append [] ys = refl
  joined_append (x ∷ xs) ys = ap (λ (l : List ℕ). bytes x ++ l) (joined_append xs ys) ∙ sym (append_assoc (bytes x) (joined bytes xs) (joined bytes ys))

module _ {A : Type 0} (bytes : A → List ℕ) (w : ℕ) (long : (x : A) → length (bytes x) ≡ w) where
  pub joined_long : (xs : List A) → length (joined bytes xs) ≡ w * length xs
  unfolding joined
  joined_long [] = omega arith
  joined_long (x ∷ xs) = length-append (bytes x) (joined bytes xs) ∙ rw (long x, joined_long xs) (more w (length xs))
    where
      more : (a n : ℕ) → a + a * n ≡ a * suc n
      more a n = omega arith

module _ {A : Type 0} (bytes : A → List ℕ) (read : List ℕ → ℕ → A) (w : ℕ) (P : A → Type 0) (r : Reads bytes read w P) where
  pub joined_length : (xs : List A) → length (joined bytes xs) ≡ w * length xs
  joined_length xs = joined_long bytes w r.long xs

  pub values_back : (xs : List A) → All P xs → (b : List ℕ) (at : ℕ) (rest : List ℕ) → drop at b ≡ joined bytes xs ++ rest → values_at read w b at (length xs) ≡ xs
  unfolding values_at joined
  values_back [] a b at rest e = refl
  values_back (x ∷ xs) a b at rest e =
      let f : drop at b ≡ bytes x ++ (joined bytes xs ++ rest) = e ∙ append_assoc (bytes x) (joined bytes xs) rest in
      let g : drop (at + w) b ≡ joined bytes xs ++ rest = sym (drop-drop w at b) ∙ ap (drop w) f ∙ drop_at (bytes x) (joined bytes xs ++ rest) w (r.long x) in
      ap (λ (y : A). y ∷ values_at read w b (at + w) (length xs)) (r.reads b at x _ a.0 f) ∙ ap (λ (l : List A). x ∷ l) (values_back xs a.1 b (at + w) rest g)

-- one more value, at the end
module _ {A : Type 0} (read : List ℕ → ℕ → A) (w : ℕ) (b : List ℕ) where
  pub values_more : (n at : ℕ) → values_at read w b at (suc n) ≡ values_at read w b at n ++ (read b (at + w * n) ∷ [])
  unfolding values_at
  values_more zero at = ap (λ (k : ℕ). read b k ∷ []) (let q : at ≡ at + w * 0 = omega arith in q)
  values_more (suc n) at =
      ap (λ (l : List A). read b at ∷ l) (values_more n (at + w) ∙ ap (λ (k : ℕ). values_at read w b (at + w) n ++ (read b k ∷ [])) (let q : at + w + w * n ≡ at + w * suc n = omega arith in q))

  pub values_length : (n at : ℕ) → length (values_at read w b at n) ≡ n
  unfolding values_at
  values_length zero at = refl
  values_length (suc n) at = ap suc (values_length n (at + w))

-- ---- words that parking writes for floats

word_is : (b : List ℕ) (at : ℕ) (x : Float) (rest : List ℕ) → IsFloat x → drop at b ≡ f32_bytes x ++ rest → is_float (le32 b at) ≡ true
word_is b at x rest p e =
    rw (found_at b at (to_bits binary32 x) rest e (bits_below x p))
    (eq-eqb (to_bits binary32 (of_bits binary32 (to_bits binary32 x))) (to_bits binary32 x) (ap (to_bits binary32) (of_bits-to_bits binary32 x p)))

floats_each : (xs : List Float) → All IsFloat xs → (b : List ℕ) (at : ℕ) (rest : List ℕ) → drop at b ≡ joined f32_bytes xs ++ rest → (i : ℕ) → i < length xs → is_float (le32 b (at + 4 * i)) ≡ true
unfolding joined
floats_each [] a b at rest e i h = absurd (omega arith)
floats_each (x ∷ xs) a b at rest e zero h = ap (λ (k : ℕ). is_float (le32 b k)) (let q : at + 4 * 0 ≡ at = omega arith in q) ∙ word_is b at x (joined f32_bytes xs ++ rest) a.0 e
floats_each (x ∷ xs) a b at rest e (suc i) h =
    let g : drop (at + 4) b ≡ joined f32_bytes xs ++ rest = sym (drop-drop 4 at b) ∙ ap (drop 4) e in
    ap (λ (k : ℕ). is_float (le32 b k)) (let q : at + 4 * suc i ≡ at + 4 + 4 * i = omega arith in q) ∙ floats_each xs a.1 b (at + 4) rest g i (omega arith)

pub floats_are : (xs : List Float) → All IsFloat xs → (b : List ℕ) (at : ℕ) (rest : List ℕ) → drop at b ≡ joined f32_bytes xs ++ rest → floats_at b at (length xs) ≡ true
unfolding floats_at
floats_are xs a b at rest e = every_all (length xs) _ (floats_each xs a b at rest e)
