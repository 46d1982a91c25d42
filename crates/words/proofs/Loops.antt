-- One turn of a loop that writes values one behind the other, and of one that reads them, over any width.
use mathlib.Core.Path.{◌≡◌, refl, sym, ap, ◌∙◌}
use mathlib.Core.Bool.{Bool, true, false, ◌&&◌, and-false}
use mathlib.Core.List.{List, [], ◌∷◌, ◌++◌, append-nil}
use Prim.Native.Nat.{ℕ, zero, suc, ◌+◌, ◌*◌, ◌≤◌, ◌<◌}
use native.Mathlib.Nat.{mul-le-mul_left}
use native.Mathlib.Numerals.{add-one}
use native.Mathlib.Omega.{arith}
use native.Mathlib.Decide.{dec_lt}
use lib.ListN.{length, get_or, set, take, drop_of_length-le}
use lib.Seq.{sets-eq, take-length, take-suc, length-take-le}
use Rattle.sheet.specs.Sheet.{every}
use Rattle.sheet.specs.Laid.{laid, laid_in}
use Rattle.sheet.proofs.Laying.{laid_behind, laid_length, laid_none, laid_front, laid_in_lem}
use Rattle.words.specs.Fields.{joined, values_at}
use Rattle.words.proofs.Fields.{joined_long, joined_append, values_more, values_length}

-- values that fill a list
pub laid_whole : {A : Type 0} (xs s : List A) → length s ≡ length xs → laid 0 xs s ≡ xs
laid_whole {A} xs s h = laid_front xs s ∙ ap (λ (l : List A). xs ++ l) (drop_of_length-le s (let q : length s ≤ length xs = omega arith in q)) ∙ append-nil xs

-- ---- writing

module _ {A : Type 0} (bytes : A → List ℕ) (w : ℕ) (long : (x : A) → length (bytes x) ≡ w) where
  pub joined_taken : (n : ℕ) (xs : List A) → n ≤ length xs → length (joined bytes (take n xs)) ≡ w * n
  joined_taken n xs h = joined_long bytes w long (take n xs) ∙ ap (λ (k : ℕ). w * k) (length-take-le n xs h)

  joined_one : (xs : List A) (i : ℕ) (z : A) → i < length xs → joined bytes (take (i + 1) xs) ≡ joined bytes (take i xs) ++ bytes (get_or xs i z)
  unfolding joined
  joined_one xs i z h =
      ap (λ (k : ℕ). joined bytes (take k xs)) (add-one i) ∙ ap (joined bytes) (take-suc xs i z h)
      ∙ joined_append bytes (take i xs) (get_or xs i z ∷ []) ∙ ap (λ (l : List ℕ). joined bytes (take i xs) ++ l) (append-nil (bytes (get_or xs i z)))

  pub put_first : (xs : List A) (s : List ℕ) → s ≡ laid 0 (joined bytes (take 0 xs)) s
  unfolding joined
  put_first xs s = laid_none 0 s

  module _ (i : ℕ) (xs : List A) (z : A) (s₀ s : List ℕ) (e : s ≡ laid 0 (joined bytes (take i xs)) s₀) (h : i < length xs) (room : length s₀ ≡ w * length xs) where
    inside : w * i + w ≤ w * length xs
    inside = let q : suc i ≤ length xs = omega arith in let r = mul-le-mul_left w q in let e₁ : w * suc i ≡ w * i + w = omega arith in omega arith

    pub put_one : laid_in (w * i) (bytes (get_or xs i z)) s ≡ laid 0 (joined bytes (take (i + 1) xs)) s₀
    put_one =
        let q = inside in
        let x = get_or xs i z in
        let t = joined_taken i xs (let y : i ≤ length xs = omega arith in y) in
        let b = long x in
        let k : length s ≡ length s₀ = ap length e ∙ laid_length 0 (joined bytes (take i xs)) s₀ (omega arith) in
        let r : 0 + length (joined bytes (take i xs)) + length (bytes x) ≤ length s₀ = omega arith in
        laid_in_lem (w * i) (bytes x) s (omega arith)
        ∙ ap (laid (w * i) (bytes x)) e
        ∙ laid_behind 0 (w * i) (joined bytes (take i xs)) (bytes x) s₀ (let p : w * i ≡ 0 + length (joined bytes (take i xs)) = omega arith in p) r
        ∙ ap (λ (v : List ℕ). laid 0 v s₀) (sym (joined_one xs i z h))

  pub put_done : (i : ℕ) (xs : List A) (s₀ s : List ℕ) → s ≡ laid 0 (joined bytes (take i xs)) s₀ → i ≡ length xs → length s₀ ≡ w * length xs → s ≡ joined bytes xs
  put_done i xs s₀ s e h room =
      let l = joined_long bytes w long xs in
      e ∙ ap (λ (l : List A). laid 0 (joined bytes l) s₀) (ap (λ (k : ℕ). take k xs) h ∙ take-length xs) ∙ laid_whole (joined bytes xs) s₀ (omega arith)

-- ---- reading

set_laid : {A : Type 0} (s : List A) (k : ℕ) (x : A) → k < length s → set s k x ≡ laid k (x ∷ []) s
unfolding laid
set_laid s k x h = sets-eq (x ∷ []) s k (let q : k + 1 ≤ length s = omega arith in q)

module _ {A : Type 0} (read : List ℕ → ℕ → A) (w : ℕ) (b : List ℕ) where
  pub get_first : (at : ℕ) (s : List A) → s ≡ laid 0 (values_at read w b at 0) s
  unfolding values_at
  get_first at s = laid_none 0 s

  pub get_one : (at i : ℕ) (s₀ s : List A) → s ≡ laid 0 (values_at read w b at i) s₀ → i < length s₀ → set s i (read b (at + w * i)) ≡ laid 0 (values_at read w b at (i + 1)) s₀
  get_one at i s₀ s e h =
      let v = values_length read w b i at in
      let k : length s ≡ length s₀ = ap length e ∙ laid_length 0 (values_at read w b at i) s₀ (omega arith) in
      let p : i ≡ 0 + length (values_at read w b at i) = omega arith in
      set_laid s i (read b (at + w * i)) (omega arith)
      ∙ ap (laid i (read b (at + w * i) ∷ [])) e
      ∙ laid_behind 0 i (values_at read w b at i) (read b (at + w * i) ∷ []) s₀ p (omega arith)
      ∙ ap (λ (l : List A). laid 0 l s₀) (sym (values_more read w b i at) ∙ ap (values_at read w b at) (sym (add-one i)))

  pub get_last : (at i : ℕ) (s₀ s : List A) → s ≡ laid 0 (values_at read w b at i) s₀ → i ≡ length s₀ → s ≡ values_at read w b at (length s₀)
  get_last at i s₀ s e h =
      let v = values_length read w b i at in
      e ∙ laid_whole (values_at read w b at i) s₀ (omega arith) ∙ ap (values_at read w b at) h

-- ---- testing

pub every_one : (n : ℕ) (p : ℕ → Bool) → every (n + 1) p ≡ every n p && p n
every_one n p = ap (λ (k : ℕ). every k p) (add-one n) ∙ (unfold every in refl)

pub every_none : (p : ℕ → Bool) → every 0 p ≡ true
unfolding every
every_none p = refl

pub every_more : (n : ℕ) (p : ℕ → Bool) → every n p ≡ true → p n ≡ true → every (n + 1) p ≡ true
every_more n p e f = rw (every_one n p, e, f)

pub every_not : (n i : ℕ) (p : ℕ → Bool) → i < n → p i ≡ false → every n p ≡ false
unfolding every
every_not zero i p h e = absurd (omega arith)
every_not (suc n) i p h e = elim (dec_lt i n) [
  | yes l ↦ rw (every_not n i p l e)
  | no l ↦ (let q : n ≡ i = omega arith in ap (λ (b : Bool). every n p && b) (ap p q ∙ e) ∙ and-false (every n p))
]

-- at a place that a list has, it does not matter what would stand behind the list
pub get_d_any : {A : Type 0} (l : List A) (k : ℕ) (u v : A) → k < length l → get_or l k u ≡ get_or l k v
get_d_any [] k u v h = absurd (omega arith)
get_d_any (x ∷ l) zero u v h = refl
get_d_any (x ∷ l) (suc k) u v h = get_d_any l k u v (omega arith)
