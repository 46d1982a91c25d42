-- Lists with the same front, and rows of stages whose states are typed.
use mathlib.Core.Path.{◌≡◌, sym, ap, ◌∙◌}
use mathlib.Core.List.{List, [], ◌∷◌}
use Prim.Native.Nat.{ℕ, zero, suc, ◌-◌, ◌<◌}
use native.Mathlib.Omega.{arith}
use lib.ListN.{get_or, take, drop}
use lib.Seq.{take-nil, get_or-take}
use Rattle.integer.specs.Stages.{row}
use Rattle.words.specs.Fields.{All}

pub front_at : {A : Type 0} (n : ℕ) (s t : List A) (i : ℕ) (z : A) → take n s ≡ take n t → i < n → get_or s i z ≡ get_or t i z
front_at {A} n s t i z e h = sym (get_or-take n s i z h) ∙ ap (λ (l : List A). get_or l i z) e ∙ get_or-take n t i z h

pub drop_front : {A : Type 0} (n m : ℕ) (s : List A) → take (n - m) (drop m s) ≡ drop m (take n s)
drop_front n zero s = ap (λ (k : ℕ). take k s) (let q : n - 0 ≡ n = omega arith in q)
drop_front zero (suc m) s = ap (λ (k : ℕ). take k (drop (suc m) s)) (let q : 0 - suc m ≡ 0 = omega arith in q)
drop_front (suc n) (suc m) [] = take-nil (suc n - suc m)
drop_front (suc n) (suc m) (x ∷ s) = ap (λ (k : ℕ). take k (drop m s)) (let q : suc n - suc m ≡ n - m = omega arith in q) ∙ drop_front n m s

-- a row whose values G become states P
pub row_typed : {A : Type 0} (P G : A → Type 0) (keep out : A → A → A) → ((a v : A) → G v → P (keep a v)) → ((a v : A) → G v → G (out a v)) → (n : ℕ) (s : List A) (v : A) → All P s → G v
    → All P (row keep out n s v).state
row_typed P G keep out k o zero s v a p = a
row_typed P G keep out k o (suc n) [] v a p = tt
row_typed P G keep out k o (suc n) (x ∷ s) v a p = (k x v p, row_typed P G keep out k o n s (out x v) a.1 (o x v p))

pub row_value : {A : Type 0} (P : A → Type 0) (keep out : A → A → A) → ((a v : A) → P (out a v)) → (n : ℕ) (s : List A) (v : A) → P v → P (row keep out n s v).val
row_value P keep out o zero s v p = p
row_value P keep out o (suc n) [] v p = p
row_value P keep out o (suc n) (x ∷ s) v p = row_value P keep out o n s (out x v) (o x v)
