-- A fresh nonrecursive decimator makes the moving sums, modulo 2^32, for every number of stages, every power of two and every list: after t samples each halving's
-- neighbours are known in closed form, and a sample goes as far as the factors of two in its count reach.
use mathlib.Core.Path.{◌≡◌, refl, sym, ap, ap₂, ◌∙◌}
use mathlib.Core.Bool.{Bool, cond}
use mathlib.Core.List.{List, [], ◌++◌, append_assoc}
use Rattle.std.specs.Prelude.{None, Some}
use Prim.Native.Nat.{ℕ, zero, suc, ◌+◌, ◌*◌, ◌/◌, ◌%◌, ◌^◌, ◌≤◌, ◌<◌}
use native.Mathlib.Nat.{div-one, mod-one, suc-mul}
use native.Mathlib.Numerals.{add-one, one-add}
use native.Mathlib.Decide.{dec_le}
use native.Mathlib.Omega.{arith}
use borrow.Author.Tests.{eq-eqb, ne_eqb}
use lib.Dec.{eqb}
use lib.ListN.{length, drop, replicate, replicate-append-replicate}
use lib.Seq.{take_at, drop_at}
use lib.IntN.{ℤ, pos, +ℤ_comm, +ℤ_idr}
use lib.Pow.{mod-pow-add, shr-shr}
use mir.Syntax.{w32}
use Rattle.theory.specs.Wrap.{wrap}
use Rattle.theory.proofs.Wrap.{wrap_add}
use Rattle.integer.specs.Stages.{Passed, kept, sum32}
use Rattle.integer.specs.MovingSums.{Signal, delay, fold}
use Rattle.nonrecursive.specs.Nonrecursive.{paired, halved}
use Rattle.nonrecursive.specs.NonrecursiveDecimator.{summed, Thinned, behind, thinned}
use Rattle.integer.proofs.Hogenauer.{fold_commutes}
use Rattle.nonrecursive.proofs.Nonrecursive.{delay_paired}
use Rattle.integer.proofs.Towers.{tower, in_a_row, tower_zero}

-- the neighbours of one halving: they hold the values before, and a value leaves as the sum of all
sums_row : (n : ℕ) (h : Signal) (k : ℕ) (rest : List ℤ) → summed n (tower paired n h k ++ rest) (wrap w32 (h (suc k))) ≡ record { state = tower paired n h (suc k) ++ rest; val = wrap w32 (fold n paired h (suc k)) }
unfolding summed
sums_row n h k rest =
    in_a_row kept sum32 paired (λ g. g) (λ g. refl) (λ g t. refl) (λ g t. wrap_add w32 (g t) (g (suc t)) ∙ ap (wrap w32) (+ℤ_comm (g t) (g (suc t)))) n h k rest

tower_long : (n : ℕ) (h : Signal) (k : ℕ) → length (tower paired n h k) ≡ n
tower_long zero h k = refl
tower_long (suc n) h k = ap suc (tower_long n (paired h) k)

module _ (N : ℕ) where
  -- the neighbours of m halvings after t values of the signal f
  abbrev pub neighbours_at : ℕ → Signal → ℕ → List ℤ
  neighbours_at zero f t = []
  neighbours_at (suc m) f t = tower paired N (delay f) t ++ neighbours_at m (halved N f) (t / 2)

  -- what value t does, at a place that is t modulo 2^m
  pub record Thins (m : ℕ) (f : Signal) (t place : ℕ) (rest : List ℤ) : Type 0 where
    pub neighbours : (thinned N m (neighbours_at m f t ++ rest) place (wrap w32 (f t))).state ≡ neighbours_at m f (suc t) ++ rest
    pub made : suc t % 2 ^ m ≡ 0 → (thinned N m (neighbours_at m f t ++ rest) place (wrap w32 (f t))).out ≡ Some (wrap w32 (fold m (halved N) f (t / 2 ^ m)))
    pub waits : 0 < suc t % 2 ^ m → (thinned N m (neighbours_at m f t ++ rest) place (wrap w32 (f t))).out ≡ None

  -- the first halving, from what its neighbours hand on
  abbrev onward : ℕ → ℕ → Passed ℤ → Thinned
  onward m place q = cond (eqb (place % 2) 0) (record { state = q.state; out = None }) (behind N q.state (thinned N m (drop N q.state) (place / 2) q.val))

  -- a value t that is a second of two is value t / 2 of the next halving
  passed_on : (f : Signal) (t : ℕ) → t % 2 ≡ 1 → fold N paired (delay f) (suc t) ≡ halved N f (t / 2)
  passed_on f t odd =
      let e : t ≡ 2 * (t / 2) + 1 = omega arith in
      ap (λ (g : Signal). g (suc t)) (sym (fold_commutes N paired delay (λ g. delay_paired g) f)) ∙ ap (fold N paired f) e

  module _ (m : ℕ) (f : Signal) (t place : ℕ) (rest : List ℤ) where
    abbrev others : List ℤ
    others = neighbours_at m (halved N f) (t / 2) ++ rest

    abbrev ahead : List ℤ
    ahead = tower paired N (delay f) (suc t)

    abbrev after : Passed ℤ
    after = record { state = ahead ++ others; val = wrap w32 (fold N paired (delay f) (suc t)) }

    one_halving : thinned N (suc m) (neighbours_at (suc m) f t ++ rest) place (wrap w32 (f t)) ≡ onward m place after
    unfolding thinned
    one_halving =
        ap (λ (l : List ℤ). onward m place (summed N l (wrap w32 (f t)))) (append_assoc (tower paired N (delay f) t) (neighbours_at m (halved N f) (t / 2)) rest)
        ∙ ap (onward m place) (sums_row N (delay f) t others)

    first_of_two : place % 2 ≡ 0 → thinned N (suc m) (neighbours_at (suc m) f t ++ rest) place (wrap w32 (f t)) ≡ record { state = ahead ++ others; out = None }
    first_of_two e =
        one_halving
        ∙ ap (λ (b : Bool). cond b (record { state = ahead ++ others; out = None }) (behind N (ahead ++ others) (thinned N m (drop N (ahead ++ others)) (place / 2) after.val))) (eq-eqb (place % 2) 0 e)

    second_of_two :
        place % 2 ≡ 1 → t % 2 ≡ 1
        → thinned N (suc m) (neighbours_at (suc m) f t ++ rest) place (wrap w32 (f t))
        ≡ record { state = ahead ++ (thinned N m others (place / 2) (wrap w32 (halved N f (t / 2)))).state; out = (thinned N m others (place / 2) (wrap w32 (halved N f (t / 2)))).out }
    second_of_two e odd =
        let n : place % 2 ≡ 0 → ⊥ = λ q. absurd (omega arith) in
        one_halving
        ∙ ap (λ (b : Bool). cond b (record { state = ahead ++ others; out = None }) (behind N (ahead ++ others) (thinned N m (drop N (ahead ++ others)) (place / 2) after.val))) (ne_eqb (place % 2) 0 n)
        ∙ ap {B = Thinned} (λ (l : List ℤ). record { state = l ++ (thinned N m (drop N (ahead ++ others)) (place / 2) after.val).state; out = (thinned N m (drop N (ahead ++ others)) (place / 2) after.val).out }) (take_at ahead others N (tower_long N (delay f) (suc t)))
        ∙ ap {B = Thinned} (λ (l : List ℤ). record { state = ahead ++ (thinned N m l (place / 2) after.val).state; out = (thinned N m l (place / 2) after.val).out }) (drop_at ahead others N (tower_long N (delay f) (suc t)))
        ∙ ap {B = Thinned} (λ (z : ℤ). record { state = ahead ++ (thinned N m others (place / 2) (wrap w32 z)).state; out = (thinned N m others (place / 2) (wrap w32 z)).out }) (passed_on f t odd)

  -- 2^(m+1), with the lowest digit apart
  low_digit : (n m : ℕ) → n % 2 ^ suc m ≡ (n / 2 % 2 ^ m) * 2 + n % 2
  low_digit n m = ap (λ (k : ℕ). n % 2 ^ k) (sym (add-one m)) ∙ mod-pow-add n m 1

  halves : (n m : ℕ) → n / 2 / 2 ^ m ≡ n / 2 ^ suc m
  halves n m = shr-shr n 1 m ∙ ap (λ (k : ℕ). n / 2 ^ k) (one-add m)

  pub thins : (m : ℕ) (f : Signal) (t place : ℕ) (rest : List ℤ) → place % 2 ^ m ≡ t % 2 ^ m → Thins m f t place rest
  unfolding thinned
  thins zero f t place rest e =
      record {
        neighbours = refl;
        made = λ z. ap (λ (k : ℕ). Some (wrap w32 (f k))) (sym (div-one t));
        waits = λ h. absurd (omega (arith, mod-one (suc t)));
      }
  thins (suc m) f t place rest e = go (dec_le 1 (t % 2)) (thins m (halved N f) (t / 2) (place / 2) rest)
    where
      a : place % 2 ^ suc m ≡ (place / 2 % 2 ^ m) * 2 + place % 2
      a = low_digit place m

      b : t % 2 ^ suc m ≡ (t / 2 % 2 ^ m) * 2 + t % 2
      b = low_digit t m

      c : suc t % 2 ^ suc m ≡ (suc t / 2 % 2 ^ m) * 2 + suc t % 2
      c = low_digit (suc t) m

      low : place % 2 ≡ t % 2
      low = omega (arith, a, b, e)

      high : place / 2 % 2 ^ m ≡ t / 2 % 2 ^ m
      high = omega (arith, a, b, e)

      go : Dec (1 ≤ t % 2) → (place / 2 % 2 ^ m ≡ t / 2 % 2 ^ m → Thins m (halved N f) (t / 2) (place / 2) rest) → Thins (suc m) f t place rest
      go (no h) ih =
          let even : place % 2 ≡ 0 = omega (arith, low) in
          let same : t / 2 ≡ suc t / 2 = omega arith in
          let first = first_of_two m f t place rest even in
          record {
            neighbours =
                ap (λ (q : Thinned). q.state) first
                ∙ sym (append_assoc (tower paired N (delay f) (suc t)) (neighbours_at m (halved N f) (t / 2)) rest)
                ∙ ap (λ (k : ℕ). (tower paired N (delay f) (suc t) ++ neighbours_at m (halved N f) k) ++ rest) same;
            made = λ z. absurd (omega (arith, c));
            waits = λ l. ap (λ (q : Thinned). q.out) first;
          }
      go (yes h) ih =
          let odd : t % 2 ≡ 1 = omega arith in
          let odd' : place % 2 ≡ 1 = omega (arith, low) in
          let next : suc (t / 2) ≡ suc t / 2 = omega arith in
          let digits : suc t / 2 % 2 ^ m ≡ suc (t / 2) % 2 ^ m = ap (λ (k : ℕ). k % 2 ^ m) (sym next) in
          let second = second_of_two m f t place rest odd' odd in
          let r = ih high in
          record {
            neighbours =
                ap (λ (q : Thinned). q.state) second
                ∙ ap (λ (l : List ℤ). tower paired N (delay f) (suc t) ++ l) r.neighbours
                ∙ sym (append_assoc (tower paired N (delay f) (suc t)) (neighbours_at m (halved N f) (suc (t / 2))) rest)
                ∙ ap (λ (k : ℕ). (tower paired N (delay f) (suc t) ++ neighbours_at m (halved N f) k) ++ rest) next;
            made = λ z.
                ap (λ (q : Thinned). q.out) second
                ∙ r.made (omega (arith, c, digits))
                ∙ ap (λ (k : ℕ). Some (wrap w32 (fold m (halved N) (halved N f) k))) (halves t m);
            waits = λ l. ap (λ (q : Thinned). q.out) second ∙ r.waits (omega (arith, c, digits));
          }

  -- no values yet
  pub neighbours_zero : (m : ℕ) (f : Signal) → neighbours_at m f 0 ≡ replicate (m * N) (pos 0)
  neighbours_zero zero f = ap (λ (n : ℕ). replicate n (pos 0)) (let e : 0 ≡ 0 * N = omega arith in e)
  neighbours_zero (suc m) f =
      ap₂ (λ (p q : List ℤ). p ++ q) (tower_zero paired (λ g. +ℤ_idr (g 0)) N (delay f) refl) (neighbours_zero m (halved N f))
      ∙ replicate-append-replicate N (m * N) (pos 0)
      ∙ ap (λ (n : ℕ). replicate n (pos 0)) (let e : N + m * N ≡ suc m * N = omega (arith, suc-mul m N) in e)
