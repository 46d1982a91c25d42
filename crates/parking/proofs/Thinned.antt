-- The neighbours of a line: their number, that a sample changes no place behind them, goes by them alone, and leaves values of their type. Halving by halving: the first N are
-- one row of stages, the others those of half the place.
use mathlib.Core.Path.{◌≡◌, refl, sym, ap, ap₂, ◌∙◌}
use mathlib.Core.Bool.{Bool, true, false, cond}
use mathlib.Core.List.{List, ◌++◌}
use Rattle.std.specs.Prelude.{None}
use Prim.Native.Nat.{ℕ, zero, suc, ◌+◌, ◌*◌, ◌-◌, ◌%◌, ◌/◌, ◌^◌, ◌≤◌, ◌<◌}
use native.Mathlib.Nat.{mul-le-mul}
use native.Mathlib.Omega.{arith}
use native.Mathlib.Decide.{dec_le}
use lib.Dec.{eqb, leb}
use borrow.Author.Tests.{leb-true, leb-false}
use lib.IntN.{ℤ}
use lib.Pow.{pow_mono}
use lib.ListN.{length, take, drop, length-append, length-drop, take-append-drop}
use lib.Seq.{take-add, take-take, drop-drop, drop-append-add, take-append-add, length-take-le}
use mir.Syntax.{w32}
use mir.Val.{SFits}
use Rattle.theory.proofs.Wrap.{wrap_fits}
use Rattle.integer.specs.Stages.{kept, sum32}
use Rattle.nonrecursive.specs.NonrecursiveDecimator.{halvings_up_to, halvings, summed, behind, Thinned, thinned}
use Rattle.nonrecursive.proofs.StageByStage.{summed_long}
use Rattle.words.specs.Fields.{All}
use Rattle.parking.specs.Parked.{neighbour_count}
use Rattle.words.proofs.Fields.{all_take, all_drop, all_append}
use Rattle.integer.proofs.Row.{same_fronts}
use Rattle.integer.proofs.Row as Row
use Rattle.parking.proofs.Fronts.{drop_front, row_typed, row_value}

-- ---- how many

up_to_below : (most r m : ℕ) → r < 2 ^ suc m → halvings_up_to most r ≤ m
unfolding halvings_up_to
up_to_below zero r m h = omega arith
up_to_below (suc most) r m h = go (leb (2 ^ suc most) r) refl (up_to_below most r m h)
  where
    go : (b : Bool) → leb (2 ^ suc most) r ≡ b → halvings_up_to most r ≤ m → cond b (suc most) (halvings_up_to most r) ≤ m
    go true e i = elim (dec_le (suc most) m) [
      | yes l ↦ l
      | no l ↦ (let p : 2 ^ suc m ≤ 2 ^ suc most = pow_mono (let q : suc m ≤ suc most = omega arith in q) in let t = leb-true (2 ^ suc most) r e in absurd (omega arith))
    ]
    go false e i = i

up_to_above : (most r m : ℕ) → m ≤ most → 2 ^ m ≤ r → m ≤ halvings_up_to most r
unfolding halvings_up_to
up_to_above zero r m h p = omega arith
up_to_above (suc most) r m h p = go (leb (2 ^ suc most) r) refl (λ l. up_to_above most r m l p)
  where
    go : (b : Bool) → leb (2 ^ suc most) r ≡ b → (m ≤ most → m ≤ halvings_up_to most r) → m ≤ cond b (suc most) (halvings_up_to most r)
    go true e i = h
    go false e i = elim (dec_le m most) [
      | yes l ↦ i l
      | no l ↦ (let q : m ≡ suc most = omega arith in let t = leb-false (2 ^ suc most) r e in let u : 2 ^ suc most ≤ r = rw (← q) p in absurd (omega arith))
    ]

-- the logarithm to the base 2, rounded down
pub halvings_is : (r k : ℕ) → 2 ^ k ≤ r → r < 2 * 2 ^ k → k < 64 → k ≡ halvings r
unfolding halvings
halvings_is r k a b h =
    let u = up_to_above 63 r k (omega arith) a in
    let v = up_to_below 63 r k (let q : r < 2 ^ suc k = omega arith in q) in
    omega arith

pub halvings_zero : 0 ≡ halvings 0
unfolding halvings
halvings_zero = let v = up_to_below 63 0 0 (let q : 0 < 2 ^ 1 = omega arith in q) in omega arith

pub halvings_few : (r : ℕ) → r ≤ 4096 → halvings r ≤ 12
unfolding halvings
halvings_few r h = up_to_below 63 r 12 (let q : r < 2 ^ 13 = omega arith in q)

pub few_neighbours : (N r : ℕ) → N ≤ 8 → r ≤ 4096 → neighbour_count N r ≤ 96
unfolding neighbour_count
few_neighbours N r n h = mul-le-mul n (halvings_few r h)

-- ---- one halving

module _ (N : ℕ) where
  summed_behind : (s : List ℤ) (v : ℤ) → drop N (summed N s v).state ≡ drop N s
  unfolding summed
  summed_behind s v = Row.behind kept sum32 N s v

  summed_front : (s t : List ℤ) (v : ℤ) → take N s ≡ take N t → ((summed N s v).val ≡ (summed N t v).val) × (take N (summed N s v).state ≡ take N (summed N t v).state)
  unfolding summed
  summed_front s t v e = same_fronts kept sum32 N s t v e

  summed_typed : (s : List ℤ) (v : ℤ) → All (SFits w32) s → SFits w32 v → All (SFits w32) (summed N s v).state
  unfolding summed
  summed_typed s v a f = row_typed (SFits w32) (SFits w32) kept sum32 (λ b u p. p) (λ b u p. wrap_fits w32 _) N s v a f

  summed_value : (s : List ℤ) (v : ℤ) → SFits w32 v → SFits w32 (summed N s v).val
  unfolding summed
  summed_value s v f = row_value (SFits w32) kept sum32 (λ b u. wrap_fits w32 _) N s v f

  more : (m : ℕ) → N * suc m ≡ N + N * m
  more m = omega arith

  room : (m : ℕ) (s : List ℤ) (v : ℤ) → N * suc m ≤ length s → (length (take N (summed N s v).state) ≡ N) × (N * m ≤ length (drop N (summed N s v).state))
  room m s v h =
      let e = more m in
      let l = summed_long N s v in
      (length-take-le N (summed N s v).state (omega arith), rw (length-drop N (summed N s v).state) (omega arith))

  -- what the first of two leaves, and the second
  abbrev first : List ℤ → ℤ → Thinned
  first s v = record { state = (summed N s v).state; out = None }

  abbrev second : ℕ → List ℤ → ℕ → ℤ → Thinned
  second m s place v = behind N (summed N s v).state (thinned N m (drop N (summed N s v).state) (place / 2) (summed N s v).val)

  -- ---- all of them

  pub thinned_long : (m : ℕ) (s : List ℤ) (place : ℕ) (v : ℤ) → length (thinned N m s place v).state ≡ length s
  unfolding thinned
  thinned_long zero s place v = refl
  thinned_long (suc m) s place v = long_by m s place v (eqb (place % 2) 0) (thinned_long m (drop N (summed N s v).state) (place / 2) (summed N s v).val)
    where
      long_by : (m : ℕ) (s : List ℤ) (place : ℕ) (v : ℤ) (b : Bool)
          → length (thinned N m (drop N (summed N s v).state) (place / 2) (summed N s v).val).state ≡ length (drop N (summed N s v).state)
          → length (cond b (first s v) (second m s place v)).state ≡ length s
      long_by m s place v true i = summed_long N s v
      long_by m s place v false i =
          length-append (take N (summed N s v).state) (thinned N m (drop N (summed N s v).state) (place / 2) (summed N s v).val).state
          ∙ ap (λ (k : ℕ). length (take N (summed N s v).state) + k) i
          ∙ sym (length-append (take N (summed N s v).state) (drop N (summed N s v).state))
          ∙ ap length (take-append-drop N (summed N s v).state) ∙ summed_long N s v

  pub thinned_typed : (m : ℕ) (s : List ℤ) (place : ℕ) (v : ℤ) → All (SFits w32) s → SFits w32 v → All (SFits w32) (thinned N m s place v).state
  unfolding thinned
  thinned_typed zero s place v a f = a
  thinned_typed (suc m) s place v a f =
      let t = summed_typed s v a f in
      typed_by (eqb (place % 2) 0) t (thinned_typed m (drop N (summed N s v).state) (place / 2) (summed N s v).val (all_drop (SFits w32) N (summed N s v).state t) (summed_value s v f))
    where
      typed_by : (b : Bool) → All (SFits w32) (summed N s v).state → All (SFits w32) (thinned N m (drop N (summed N s v).state) (place / 2) (summed N s v).val).state
          → All (SFits w32) (cond b (first s v) (second m s place v)).state
      typed_by true t i = t
      typed_by false t i = all_append (SFits w32) (take N (summed N s v).state) _ (all_take (SFits w32) N (summed N s v).state t) i

  pub thinned_behind : (m : ℕ) (s : List ℤ) (place : ℕ) (v : ℤ) → N * m ≤ length s → drop (N * m) (thinned N m s place v).state ≡ drop (N * m) s
  unfolding thinned
  thinned_behind zero s place v h = refl
  thinned_behind (suc m) s place v h =
      let r = room m s v h in
      behind_by (eqb (place % 2) 0) r.0 (thinned_behind m (drop N (summed N s v).state) (place / 2) (summed N s v).val r.1)
    where
      u : List ℤ
      u = (summed N s v).state

      rest : List ℤ
      rest = (thinned N m (drop N u) (place / 2) (summed N s v).val).state

      others : (l : List ℤ) → drop N l ≡ drop N s → drop (N * suc m) l ≡ drop (N * suc m) s
      others l e =
          ap (λ (k : ℕ). drop k l) (more m) ∙ sym (drop-drop (N * m) N l) ∙ ap (drop (N * m)) e ∙ drop-drop (N * m) N s ∙ ap (λ (k : ℕ). drop k s) (sym (more m))

      behind_by : (b : Bool) → length (take N u) ≡ N → drop (N * m) rest ≡ drop (N * m) (drop N u) → drop (N * suc m) (cond b (first s v) (second m s place v)).state ≡ drop (N * suc m) s
      behind_by true l i = others u (summed_behind s v)
      behind_by false l i =
          ap (λ (k : ℕ). drop k (take N u ++ rest)) (more m ∙ ap (λ (k : ℕ). k + N * m) (sym l))
          ∙ drop-append-add (take N u) rest (N * m) ∙ i ∙ drop-drop (N * m) N u ∙ ap (λ (k : ℕ). drop k u) (sym (more m)) ∙ others u (summed_behind s v)

  -- states with the same front
  pub thinned_front :
      (m : ℕ) (s t : List ℤ) (place : ℕ) (v : ℤ) → N * m ≤ length s → N * m ≤ length t → take (N * m) s ≡ take (N * m) t
      → ((thinned N m s place v).out ≡ (thinned N m t place v).out) × (take (N * m) (thinned N m s place v).state ≡ take (N * m) (thinned N m t place v).state)
  unfolding thinned
  thinned_front zero s t place v h k e = (refl, e)
  thinned_front (suc m) s t place v h k e =
      let r = room m s v h in
      let q = room m t v k in
      let n : N ≤ N * suc m = (let z = more m in omega arith) in
      let f : take N s ≡ take N t = sym (take-take N (N * suc m) s n) ∙ ap (take N) e ∙ take-take N (N * suc m) t n in
      let g : take (N * m) (drop N s) ≡ take (N * m) (drop N t) = behind_first s ∙ ap (drop N) e ∙ sym (behind_first t) in
      let w = summed_front s t v f in
      let d : take (N * m) (drop N (summed N s v).state) ≡ take (N * m) (drop N (summed N t v).state) = ap (take (N * m)) (summed_behind s v) ∙ g ∙ sym (ap (take (N * m)) (summed_behind t v)) in
      let i = thinned_front m (drop N (summed N s v).state) (drop N (summed N t v).state) (place / 2) (summed N s v).val r.1 q.1 d in
      front_by (eqb (place % 2) 0) r.0 q.0 w.1 d
      (i.0 ∙ ap (λ (z : ℤ). (thinned N m (drop N (summed N t v).state) (place / 2) z).out) w.0)
      (i.1 ∙ ap (λ (z : ℤ). take (N * m) (thinned N m (drop N (summed N t v).state) (place / 2) z).state) w.0)
    where
      behind_first : (l : List ℤ) → take (N * m) (drop N l) ≡ drop N (take (N * suc m) l)
      behind_first l = ap (λ (k : ℕ). take k (drop N l)) (let z = more m in let q : N * m ≡ N * suc m - N = omega arith in q) ∙ drop_front (N * suc m) N l

      split : (a b : List ℤ) → length a ≡ N → take (N * suc m) (a ++ b) ≡ a ++ take (N * m) b
      split a b l = ap (λ (k : ℕ). take k (a ++ b)) (more m ∙ ap (λ (k : ℕ). k + N * m) (sym l)) ∙ take-append-add a b (N * m)

      whole : (l : List ℤ) → take (N * suc m) l ≡ take N l ++ take (N * m) (drop N l)
      whole l = ap (λ (k : ℕ). take k l) (more m) ∙ take-add N (N * m) l

      front_by :
          (b : Bool) → length (take N (summed N s v).state) ≡ N → length (take N (summed N t v).state) ≡ N → take N (summed N s v).state ≡ take N (summed N t v).state
          → take (N * m) (drop N (summed N s v).state) ≡ take (N * m) (drop N (summed N t v).state)
          → (thinned N m (drop N (summed N s v).state) (place / 2) (summed N s v).val).out ≡ (thinned N m (drop N (summed N t v).state) (place / 2) (summed N t v).val).out
          → take (N * m) (thinned N m (drop N (summed N s v).state) (place / 2) (summed N s v).val).state ≡ take (N * m) (thinned N m (drop N (summed N t v).state) (place / 2) (summed N t v).val).state
          → ((cond b (first s v) (second m s place v)).out ≡ (cond b (first t v) (second m t place v)).out) × (take (N * suc m) (cond b (first s v) (second m s place v)).state ≡ take (N * suc m) (cond b (first t v) (second m t place v)).state)
      front_by true l p w d o i = (refl, whole (summed N s v).state ∙ ap₂ {C = List ℤ} (λ (x y : List ℤ). x ++ y) w d ∙ sym (whole (summed N t v).state))
      front_by false l p w d o i =
          (o, split (take N (summed N s v).state) _ l ∙ ap₂ {C = List ℤ} (λ (x y : List ℤ). x ++ y) w i ∙ sym (split (take N (summed N t v).state) _ p))
