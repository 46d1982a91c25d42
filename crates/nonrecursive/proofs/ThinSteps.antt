-- One turn of `thin`, case by case: no halving left, the first of two, the second of two, which goes on with the neighbours behind its own.
use mathlib.Core.Path.{◌≡◌, refl, sym, ap, ap₂, ◌∙◌}
use mathlib.Core.Bool.{Bool, cond}
use mathlib.Core.List.{List, ◌++◌, append-nil, append_assoc}
use Rattle.std.specs.Prelude.{Option, None, Some}
use Prim.Native.Nat.{ℕ, ◌+◌, ◌-◌, ◌/◌, ◌%◌, ◌^◌, ◌≤◌, ◌<◌, min}
use native.Mathlib.Decide.{dec_le}
use native.Mathlib.Nat.{min-eq_left, min-eq_right}
use native.Mathlib.Omega.{arith}
use borrow.Author.Tests.{eq-eqb, ne_eqb}
use borrow.Rule.Slice.PartMut.{mid_of, put_mid}
use lib.IntN.{ℤ}
use lib.ListN.{length, take, drop, length-append, length-drop, drop_of_length-le}
use lib.Seq.{take_all, length-take-le, take-append-add, drop-append-add}
use Rattle.integer.specs.Stages.{Passed}
use Rattle.nonrecursive.specs.NonrecursiveDecimator.{summed, Thinned, behind, thinned, halvings}
use Rattle.nonrecursive.proofs.Halvings.{halvings_none, halvings_half}

-- what is left of a list from the N-th on, and the list with another in its place
module _ (N : ℕ) (s : List ℤ) (from : ℕ) (e : from ≡ min N (length s)) where
  all_left : length (drop from s) ≤ length s - from
  all_left = omega (arith, length-drop from s)

  front : take from s ≡ take N s
  front = go (dec_le N (length s))
    where
      go : Dec (N ≤ length s) → take from s ≡ take N s
      go (yes h) = ap (λ (n : ℕ). take n s) (e ∙ min-eq_left h)
      go (no h) =
          let l : length s ≤ N = omega arith in
          let m : length s ≤ from = omega (arith, e, min-eq_right l) in
          take_all from s m ∙ sym (take_all N s l)

  back : drop from s ≡ drop N s
  back = go (dec_le N (length s))
    where
      go : Dec (N ≤ length s) → drop from s ≡ drop N s
      go (yes h) = ap (λ (n : ℕ). drop n s) (e ∙ min-eq_left h)
      go (no h) =
          let l : length s ≤ N = omega arith in
          let m : length s ≤ from = omega (arith, e, min-eq_right l) in
          drop_of_length-le s m ∙ sym (drop_of_length-le s l)

  pub part_is : mid_of from (length s - from) s ≡ drop N s
  part_is = take_all (length s - from) (drop from s) all_left ∙ back

  pub put_is : (y : List ℤ) → put_mid from (length s - from) s y ≡ take N s ++ y
  put_is y = ap₂ (λ (p q : List ℤ). p ++ (y ++ q)) front (drop_of_length-le (drop from s) all_left) ∙ ap (λ (q : List ℤ). take N s ++ q) (append-nil y)

module _ (N r : ℕ) (s : List ℤ) (place : ℕ) (v : ℤ) where
  pub thin_none : r < 2 → record { state = s; out = Some v } ≡ thinned N (halvings r) s place v
  unfolding thinned
  thin_none h = sym (ap (λ (m : ℕ). thinned N m s place v) (halvings_none r h))

  module _ (more : 2 ≤ r) (fits : r < 2 ^ 64) where
    abbrev q : Passed ℤ
    q = summed N s v

    abbrev goes_on : Thinned
    goes_on = behind N q.state (thinned N (halvings (r / 2)) (drop N q.state) (place / 2) q.val)

    pub thin_first : place % 2 ≡ 0 → record { state = q.state; out = None } ≡ thinned N (halvings r) s place v
    unfolding thinned
    thin_first e =
        sym (ap (λ (m : ℕ). thinned N m s place v) (halvings_half r more fits)
        ∙ ap (λ (b : Bool). cond b (record { state = q.state; out = None }) goes_on) (eq-eqb (place % 2) 0 e))

    thin_second : (place % 2 ≡ 0 → ⊥) → goes_on ≡ thinned N (halvings r) s place v
    unfolding thinned
    thin_second n =
        sym (ap (λ (m : ℕ). thinned N m s place v) (halvings_half r more fits)
        ∙ ap (λ (b : Bool). cond b (record { state = q.state; out = None }) goes_on) (ne_eqb (place % 2) 0 n))

-- what is left to do of the neighbours from a place on, with those in front of it done
abbrev pub going_on : ℕ → List ℤ → Thinned → Thinned
going_on from n q = record { state = take from n ++ q.state; out = q.out }

abbrev made : List ℤ → Option ℤ → Thinned
made l o = record { state = l; out = o }

-- one turn of the loop: the part of the neighbours n from a place on is y after the sum u
module _ (N left : ℕ) (n : List ℤ) (from at : ℕ) (v : ℤ) (more : 2 ≤ left) (fits : left < 2 ^ 64) (inside : from ≤ length n) where
  abbrev part : List ℤ
  part = mid_of from (length n - from) n

  least_is : from ≡ min from (length n)
  least_is = sym (min-eq_left inside)

  part_left : part ≡ drop from n
  part_left = part_is from n from least_is

  abbrev whole : Thinned
  whole = going_on from n (thinned N (halvings left) (drop from n) at v)

  module _ (y : List ℤ) (u : ℤ) (e_y : y ≡ (summed N part v).state) (e_v : u ≡ (summed N part v).val) where
    abbrev after : List ℤ
    after = put_mid from (length n - from) n y

    put_left : after ≡ take from n ++ y
    put_left = put_is from n from least_is y

    state_is : (summed N (drop from n) v).state ≡ y
    state_is = sym (e_y ∙ ap (λ (s : List ℤ). (summed N s v).state) part_left)

    val_is : (summed N (drop from n) v).val ≡ u
    val_is = sym (e_v ∙ ap (λ (s : List ℤ). (summed N s v).val) part_left)

    pub thin_ends : at % 2 ≡ 0 → (after ≡ whole.state) × (None ≡ whole.out)
    thin_ends e =
        let t = thin_first N left (drop from n) at v more fits e in (
          put_left ∙ ap (λ (q : List ℤ). take from n ++ q) (sym state_is ∙ ap (λ (q : Thinned). q.state) t),
          ap (λ (q : Thinned). q.out) t,
        )

    module _ (next : ℕ) (e_f : next ≡ from + min N (length after - from)) where
      front_long : length (take from n) ≡ from
      front_long = length-take-le from n inside

      pub after_long_lem : length after ≡ from + length y
      after_long_lem = ap length put_left ∙ length-append (take from n) y ∙ ap (λ (k : ℕ). k + length y) front_long

      next_is : next ≡ length (take from n) + min N (length y)
      next_is =
          let e : length after - from ≡ length y = omega (arith, after_long_lem) in
          e_f ∙ ap (λ (k : ℕ). from + min N k) e ∙ ap (λ (k : ℕ). k + min N (length y)) (sym front_long)

      pub next_inside : next ≤ length after
      next_inside = omega (arith, e_f, after_long_lem)

      front_done : take next after ≡ take from n ++ take N y
      front_done =
          ap₂ (λ (k : ℕ) (l : List ℤ). take k l) next_is put_left
          ∙ take-append-add (take from n) y (min N (length y))
          ∙ ap (λ (l : List ℤ). take from n ++ l) (front N y (min N (length y)) refl)

      back_left : drop next after ≡ drop N y
      back_left =
          ap₂ (λ (k : ℕ) (l : List ℤ). drop k l) next_is put_left
          ∙ drop-append-add (take from n) y (min N (length y))
          ∙ back N y (min N (length y)) refl

      abbrev rest : List ℤ → ℤ → Thinned
      rest l z = thinned N (halvings (left / 2)) l (at / 2) z

      pub thin_turns : (at % 2 ≡ 0 → ⊥) → whole ≡ going_on next after (rest (drop next after) u)
      thin_turns o =
          let r : Thinned = rest (drop N y) u in
          ap (going_on from n) (sym (thin_second N left (drop from n) at v more fits o))
          ∙ ap₂ (λ (a : List ℤ) (z : ℤ). going_on from n (behind N a (rest (drop N a) z))) state_is val_is
          ∙ ap (λ (l : List ℤ). made l r.out) (sym (append_assoc (take from n) (take N y) r.state))
          ∙ ap (λ (l : List ℤ). made (l ++ r.state) r.out) (sym front_done)
          ∙ ap (λ (l : List ℤ). going_on next after (rest l u)) (sym back_left)
