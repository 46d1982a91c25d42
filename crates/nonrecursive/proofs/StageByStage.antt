-- A list of whole frames through the halvings one after the other is the list sample by sample: two values into a halving hand one on, and the halvings behind it
-- don't see its neighbours, so they may run after all its pairs.
use mathlib.Core.Path.{◌≡◌, refl, sym, ap, ap₂, ◌∙◌}
use mathlib.Core.Bool.{Bool, cond}
use mathlib.Core.List.{List, [], ◌∷◌, ◌++◌}
use Rattle.std.specs.Prelude.{None, Some}
use Prim.Native.Nat.{ℕ, zero, suc, ◌+◌, ◌*◌, ◌/◌, ◌%◌, ◌^◌, ◌≤◌, ◌<◌}
use native.Mathlib.Nat.{pow-suc, suc-mul, mul_assoc, mul_comm, add-zero}
use native.Mathlib.Decide.{dec_lt}
use native.Mathlib.Omega.{arith}
use borrow.Author.Tests.{eq-eqb, ne_eqb, lt-ltb, le-ltb}
use lib.IntN.{ℤ}
use lib.ListN.{length, take, drop, length-drop, length-append, take-append-drop}
use lib.Pow.{pow_pos}
use lib.Seq.{take_at, drop_at, take_all, length-take-le}
use Rattle.theory.specs.Sections.{Section, onto, state, outs}
use Rattle.integer.specs.Stages.{Passed, kept, sum32}
use Rattle.integer.proofs.Row.{long_kept, behind, same_fronts}
use Rattle.nonrecursive.specs.NonrecursiveDecimator.{summed, Thinned, thinned, next_place}
use Rattle.nonrecursive.specs.NonrecursiveDecimator as D
use Rattle.nonrecursive.specs.inner.Tape.{pairs, lined}
use Rattle.nonrecursive.proofs.NonrecursiveStreaming.{place_next}

module _ (N : ℕ) where
  summed_val : (u v : List ℤ) (x : ℤ) → take N u ≡ take N v → (summed N u x).val ≡ (summed N v x).val
  unfolding summed
  summed_val u v x e = (same_fronts kept sum32 N u v x e).0

  summed_front : (u v : List ℤ) (x : ℤ) → take N u ≡ take N v → take N (summed N u x).state ≡ take N (summed N v x).state
  unfolding summed
  summed_front u v x e = (same_fronts kept sum32 N u v x e).1

  pub summed_long : (s : List ℤ) (x : ℤ) → length (summed N s x).state ≡ length s
  unfolding summed
  summed_long s x = long_kept kept sum32 N s x

  summed_behind : (s : List ℤ) (x : ℤ) → drop N (summed N s x).state ≡ drop N s
  unfolding summed
  summed_behind s x = behind kept sum32 N s x

  -- two values into the neighbours s
  abbrev both : List ℤ → ℤ → ℤ → Passed ℤ
  both s a b = summed N (summed N s a).state b

  both_long : (s : List ℤ) (a b : ℤ) → length (both s a b).state ≡ length s
  both_long s a b = summed_long (summed N s a).state b ∙ summed_long s a

  both_behind : (s : List ℤ) (a b : ℤ) → drop N (both s a b).state ≡ drop N s
  both_behind s a b = summed_behind (summed N s a).state b ∙ summed_behind s a

  -- pairs go by the neighbours of their halving alone
  pub pairs_vals : (w u v : List ℤ) → take N u ≡ take N v → (pairs N u w).vals ≡ (pairs N v w).vals
  unfolding pairs
  pairs_vals [] u v e = refl
  pairs_vals (a ∷ []) u v e = refl
  pairs_vals (a ∷ b ∷ w) u v e =
      let f = summed_front u v a e in
      ap₂ (λ (x : ℤ) (l : List ℤ). x ∷ l) (summed_val _ _ b f) (pairs_vals w _ _ (summed_front _ _ b f))

  pub pairs_front : (w u v : List ℤ) → take N u ≡ take N v → take N (pairs N u w).state ≡ take N (pairs N v w).state
  unfolding pairs
  pairs_front [] u v e = e
  pairs_front (a ∷ []) u v e = e
  pairs_front (a ∷ b ∷ w) u v e = pairs_front w _ _ (summed_front _ _ b (summed_front u v a e))

  pub pairs_behind : (w s : List ℤ) → drop N (pairs N s w).state ≡ drop N s
  unfolding pairs
  pairs_behind [] s = refl
  pairs_behind (a ∷ []) s = refl
  pairs_behind (a ∷ b ∷ w) s = pairs_behind w (both s a b).state ∙ both_behind s a b

  pub pairs_long : (w s : List ℤ) → length (pairs N s w).state ≡ length s
  unfolding pairs
  pairs_long [] s = refl
  pairs_long (a ∷ []) s = refl
  pairs_long (a ∷ b ∷ w) s = pairs_long w (both s a b).state ∙ both_long s a b

  pub pairs_count : (w s : List ℤ) → length (pairs N s w).vals ≡ length w / 2
  unfolding pairs
  pairs_count [] s = refl
  pairs_count (a ∷ []) s = refl
  pairs_count (a ∷ b ∷ w) s = let e = pairs_count w (both s a b).state in omega (arith, e)

  -- so they may stand by themselves meanwhile
  module _ (w s : List ℤ) (enough : N ≤ length s) where
    long : length (take N s) ≡ N
    long = length-take-le N s enough

    same_front : take N (take N s) ≡ take N s
    same_front = take_all N (take N s) (omega (arith, long))

    pub alone_vals : (pairs N (take N s) w).vals ≡ (pairs N s w).vals
    alone_vals = pairs_vals w (take N s) s same_front

    pub alone_state : (pairs N (take N s) w).state ++ drop N s ≡ (pairs N s w).state
    alone_state =
        let p : List ℤ = (pairs N (take N s) w).state in
        let all : take N p ≡ p = take_all N p (omega (arith, pairs_long w (take N s), long)) in
        ap₂ (λ (a b : List ℤ). a ++ b) (sym all ∙ pairs_front w (take N s) s same_front) (sym (pairs_behind w s))
        ∙ take-append-drop N (pairs N s w).state

  -- and their halving may hold them apart, h behind them, and put them back
  module _ (w s h : List ℤ) (enough : N ≤ length s) where
    abbrev apart : List ℤ
    apart = take N s ++ drop N h

    front_apart : take N apart ≡ take N s
    front_apart = take_at (take N s) (drop N h) N (length-take-le N s enough)

    pub apart_vals : (pairs N apart w).vals ≡ (pairs N s w).vals
    apart_vals = pairs_vals w apart s front_apart

    pub apart_state : take N (pairs N apart w).state ++ drop N s ≡ (pairs N s w).state
    apart_state =
        ap₂ (λ (a b : List ℤ). a ++ b) (pairs_front w apart s front_apart) (sym (pairs_behind w s))
        ∙ take-append-drop N (pairs N s w).state

  -- m halvings as a section over the neighbours and the place
  abbrev pub thinner : ℕ → Section (List ℤ × ℕ) ℤ ℤ
  thinner m =
      record {
        next = λ p x. ((thinned N m p.0 p.1 x).state, next_place p.1 (2 ^ m));
        out = λ p x. (thinned N m p.0 p.1 x).out;
      }

  module _ (m : ℕ) where
    abbrev r : ℕ
    r = 2 ^ suc m

    double : r ≡ 2 * 2 ^ m
    double = omega (arith, pow-suc 2 m)

    first_step : (s : List ℤ) (p : ℕ) (a : ℤ) → p % 2 ≡ 0 → thinned N (suc m) s p a ≡ record { state = (summed N s a).state; out = None }
    unfolding thinned
    first_step s p a e =
        ap (λ (b : Bool). cond b (record { state = (summed N s a).state; out = None }) (D.behind N (summed N s a).state (thinned N m (drop N (summed N s a).state) (p / 2) (summed N s a).val))) (eq-eqb (p % 2) 0 e)

    second_step : (s : List ℤ) (p : ℕ) (b : ℤ) → (p % 2 ≡ 0 → ⊥) →
        thinned N (suc m) s p b ≡ D.behind N (summed N s b).state (thinned N m (drop N (summed N s b).state) (p / 2) (summed N s b).val)
    unfolding thinned
    second_step s p b e =
        ap (λ (c : Bool). cond c (record { state = (summed N s b).state; out = None }) (D.behind N (summed N s b).state (thinned N m (drop N (summed N s b).state) (p / 2) (summed N s b).val))) (ne_eqb (p % 2) 0 e)

    -- the place after a first of two, and after both
    place_one : (p : ℕ) → p % 2 ≡ 0 → p < r → next_place p r ≡ p + 1
    place_one p e l = ap (λ (b : Bool). cond b (p + 1) 0) (lt-ltb (p + 1) r (omega (arith, double)))

    place_two : (p : ℕ) → p % 2 ≡ 0 → p < r → (next_place (p + 1) r / 2 ≡ next_place (p / 2) (2 ^ m)) × ((next_place (p + 1) r % 2 ≡ 0) × (next_place (p + 1) r < r))
    place_two p e l = go (dec_lt (p + 1 + 1) r)
      where
        go : Dec (p + 1 + 1 < r) → (next_place (p + 1) r / 2 ≡ next_place (p / 2) (2 ^ m)) × ((next_place (p + 1) r % 2 ≡ 0) × (next_place (p + 1) r < r))
        go (yes h) =
            let k : p / 2 + 1 < 2 ^ m = omega (arith, double) in
            rw (lt-ltb (p + 1 + 1) r h, lt-ltb (p / 2 + 1) (2 ^ m) k) (omega arith, (omega arith, omega arith))
        go (no h) =
            let g : r ≤ p + 1 + 1 = omega arith in
            let k : 2 ^ m ≤ p / 2 + 1 = omega (arith, double) in
            rw (le-ltb (p + 1 + 1) r g, le-ltb (p / 2 + 1) (2 ^ m) k) (refl, (refl, omega (arith, double, pow_pos m)))

    -- what a halving hands on may go through the others afterwards
    pub record Split (s : List ℤ) (p : ℕ) (w : List ℤ) : Type 0 where
      pub made : outs (thinner (suc m)) (s, p) w ≡ outs (thinner m) (drop N s, p / 2) (pairs N s w).vals
      pub left : (state (thinner (suc m)) (s, p) w).0 ≡ take N (pairs N s w).state ++ (state (thinner m) (drop N s, p / 2) (pairs N s w).vals).0

    module _ (s : List ℤ) (p : ℕ) (a b : ℤ) (w : List ℤ) (some_neighbours : N ≤ length s) (even : p % 2 ≡ 0) (below : p < r) where
      abbrev q : Passed ℤ
      q = both s a b

      abbrev t : Thinned
      t = thinned N m (drop N s) (p / 2) q.val

      abbrev s₂ : List ℤ
      s₂ = take N q.state ++ t.state

      own : length (take N q.state) ≡ N
      own = length-take-le N q.state (omega (arith, both_long s a b))

      first_next : (thinner (suc m)).next (s, p) a ≡ ((summed N s a).state, p + 1)
      first_next = ap₂ {C = List ℤ × ℕ} (λ (l : List ℤ) (n : ℕ). (l, n)) (ap (λ (z : Thinned). z.state) (first_step s p a even)) (place_one p even below)

      second : thinned N (suc m) (summed N s a).state (p + 1) b ≡ record { state = s₂; out = t.out }
      second =
          let h : (p + 1) / 2 ≡ p / 2 = omega arith in
          second_step (summed N s a).state (p + 1) b (omega arith)
          ∙ ap (λ (n : ℕ). D.behind N q.state (thinned N m (drop N q.state) n q.val)) h
          ∙ ap (λ (l : List ℤ). D.behind N q.state (thinned N m l (p / 2) q.val)) (both_behind s a b)

      abbrev p₂ : ℕ
      p₂ = next_place (p + 1) r

      -- the state after both
      after_both : state (thinner (suc m)) (s, p) (a ∷ b ∷ w) ≡ state (thinner (suc m)) (s₂, p₂) w
      after_both =
          ap (λ (z : List ℤ × ℕ). state (thinner (suc m)) z (b ∷ w)) first_next
          ∙ ap (λ (z : Thinned). state (thinner (suc m)) (z.state, p₂) w) second

      outs_both : outs (thinner (suc m)) (s, p) (a ∷ b ∷ w) ≡ onto t.out (outs (thinner (suc m)) (s₂, p₂) w)
      outs_both =
          ap (λ (z : Thinned). onto z.out (outs (thinner (suc m)) ((thinner (suc m)).next (s, p) a) (b ∷ w))) (first_step s p a even)
          ∙ ap (λ (z : List ℤ × ℕ). outs (thinner (suc m)) z (b ∷ w)) first_next
          ∙ ap (λ (z : Thinned). onto z.out (outs (thinner (suc m)) (z.state, p₂) w)) second

      front : take N s₂ ≡ take N q.state
      front = take_at (take N q.state) t.state N own

      back : drop N s₂ ≡ t.state
      back = drop_at (take N q.state) t.state N own

      long₂ : N ≤ length s₂
      long₂ = omega (arith, length-append (take N q.state) t.state, own)

      goes_on : Split s₂ p₂ w → Split s p (a ∷ b ∷ w)
      unfolding pairs
      goes_on ih =
          let v = (pairs N q.state w).vals in
          let e = (place_two p even below).0 in
          record {
            made =
                outs_both
                ∙ ap (onto t.out)
                (ih.made
                ∙ ap (λ (l : List ℤ). outs (thinner m) (l, p₂ / 2) (pairs N s₂ w).vals) back
                ∙ ap (λ (n : ℕ). outs (thinner m) (t.state, n) (pairs N s₂ w).vals) e
                ∙ ap (outs (thinner m) (t.state, next_place (p / 2) (2 ^ m))) (pairs_vals w s₂ q.state front));
            left =
                ap (λ (z : List ℤ × ℕ). z.0) after_both
                ∙ ih.left
                ∙ ap (λ (l : List ℤ). l ++ (state (thinner m) (drop N s₂, p₂ / 2) (pairs N s₂ w).vals).0) (pairs_front w s₂ q.state front)
                ∙ ap (λ (l : List ℤ). take N (pairs N q.state w).state ++ l)
                (ap (λ (l : List ℤ). (state (thinner m) (l, p₂ / 2) (pairs N s₂ w).vals).0) back
                ∙ ap (λ (n : ℕ). (state (thinner m) (t.state, n) (pairs N s₂ w).vals).0) e
                ∙ ap (λ (l : List ℤ). (state (thinner m) (t.state, next_place (p / 2) (2 ^ m)) l).0) (pairs_vals w s₂ q.state front));
          }

    pub split : (k : ℕ) (w s : List ℤ) (p : ℕ) → length w ≡ 2 * k → N ≤ length s → p % 2 ≡ 0 → p < r → Split s p w
    unfolding pairs
    split zero [] s p e h even below = record { made = refl; left = sym (take-append-drop N s) }
    split zero (a ∷ w) s p e h even below = absurd (omega arith)
    split (suc k) [] s p e h even below = absurd (omega arith)
    split (suc k) (a ∷ []) s p e h even below = absurd (omega arith)
    split (suc k) (a ∷ b ∷ w) s p e h even below =
        let n = (place_two p even below).1 in
        goes_on s p a b w h even below (split k w (s₂ s p a b w h even below) (p₂ s p a b w h even below) (omega arith) (long₂ s p a b w h even below) n.0 n.1)

  -- no halving hands every value on
  none_made : (w s : List ℤ) (p : ℕ) → outs (thinner 0) (s, p) w ≡ w
  unfolding thinned
  none_made [] s p = refl
  none_made (x ∷ w) s p = ap (λ (l : List ℤ). x ∷ l) (none_made w s (next_place p 1))

  none_left : (w s : List ℤ) (p : ℕ) → (state (thinner 0) (s, p) w).0 ≡ s
  unfolding thinned
  none_left [] s p = refl
  none_left (x ∷ w) s p = none_left w s (next_place p 1)

  -- whole frames, from the place 0
  pub frames : (m c : ℕ) (w s : List ℤ) → length w ≡ c * 2 ^ m → m * N ≤ length s
      → (outs (thinner m) (s, 0) w ≡ (lined N m s w).vals) × ((state (thinner m) (s, 0) w).0 ≡ (lined N m s w).state)
  unfolding lined
  frames zero c w s e h = (none_made w s 0, none_left w s 0)
  frames (suc m) c w s e h =
      let d : c * 2 ^ suc m ≡ 2 * (c * 2 ^ m) = ap (λ (n : ℕ). c * n) (pow-suc 2 m) ∙ sym (mul_assoc c (2 ^ m) 2) ∙ mul_comm (c * 2 ^ m) 2 in
      let one : N ≤ length s = omega (arith, suc-mul m N) in
      let x = split m (c * 2 ^ m) w s 0 (e ∙ d) one refl (pow_pos (suc m)) in
      let v = (pairs N s w).vals in
      let n : length v ≡ c * 2 ^ m = omega (arith, pairs_count w s, d) in
      let rest = frames m c v (drop N s) n (omega (arith, suc-mul m N, length-drop N s)) in
      let same = sym (pairs_behind w s) in (
        x.made ∙ rest.0 ∙ ap (λ (l : List ℤ). (lined N m l v).vals) same,
        x.left ∙ ap (λ (l : List ℤ). take N (pairs N s w).state ++ l) (rest.1 ∙ ap (λ (l : List ℤ). (lined N m l v).state) same),
      )

  -- the place counts the values
  pub place_after : (m : ℕ) (w s : List ℤ) (t : ℕ) → (state (thinner m) (s, t % 2 ^ m) w).1 ≡ (t + length w) % 2 ^ m
  place_after m [] s t = ap (λ (n : ℕ). n % 2 ^ m) (sym (add-zero t))
  place_after m (x ∷ w) s t =
      let e : suc t + length w ≡ t + suc (length w) = omega arith in
      ap (λ (n : ℕ). (state (thinner m) ((thinned N m s (t % 2 ^ m) x).state, n) w).1) (place_next t (2 ^ m) (pow_pos m))
      ∙ place_after m w (thinned N m s (t % 2 ^ m) x).state (suc t)
      ∙ ap (λ (n : ℕ). n % 2 ^ m) e

  -- a value whose place is not the last makes nothing
  pub waits_out : (m : ℕ) (s : List ℤ) (p : ℕ) (v : ℤ) → p + 1 < 2 ^ m → (thinned N m s p v).out ≡ None
  unfolding thinned
  waits_out zero s p v h = absurd (omega arith)
  waits_out (suc m) s p v h = go (waits_out m (drop N (summed N s v).state) (p / 2) (summed N s v).val) (dec_lt (p % 2) 1)
    where
      go : (p / 2 + 1 < 2 ^ m → (thinned N m (drop N (summed N s v).state) (p / 2) (summed N s v).val).out ≡ None) → Dec (p % 2 < 1) → (thinned N (suc m) s p v).out ≡ None
      go ih (yes l) = ap (λ (z : Thinned). z.out) (first_step m s p v (omega arith))
      go ih (no l) = ap (λ (z : Thinned). z.out) (second_step m s p v (omega arith)) ∙ ih (omega (arith, double m))

  -- and one whose place is the last makes a sum
  pub last_out : (m : ℕ) (s : List ℤ) (p : ℕ) (v : ℤ) → p + 1 ≡ 2 ^ m → (y : ℤ) × ((thinned N m s p v).out ≡ Some y)
  unfolding thinned
  last_out zero s p v h = (v, refl)
  last_out (suc m) s p v h =
      let odd : p % 2 ≡ 0 → ⊥ = omega (arith, double m) in
      let y = last_out m (drop N (summed N s v).state) (p / 2) (summed N s v).val (omega (arith, double m)) in
      (y.0, ap (λ (z : Thinned). z.out) (second_step m s p v odd) ∙ y.1)
