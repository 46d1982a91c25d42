-- Places move along with the words in front of a record: one word at a time, and so for what is compared one behind the other.
use Rattle.std.proofs.Common.{◌≡◌, ℕ, ◌+◌, ◌<◌, ◌≤◌, ◌==◌, ◌%◌, ◌/◌, Bool, true, false, cond, List, length, drop, nat_lt, refl, ap, arith, length-drop, le-ltb, ltb-true, inl, inr}
use Rattle.std.proofs.lemmas.Grind.{common_steps}
use Rattle.std.proofs.lemmas.List.{get_or-drop}
use Rattle.std.proofs.lemmas.Bool.Decides.{nat_tests}
use Rattle.std.proofs.Math.Nat.{eq-or-lt_of_le}
use Rattle.std.specs.Prelude.{◌⊎◌, Option, None, Some}
use Rattle.records.specs.Comparison.{after, after_if, after_long, lost, word_at}
use Rattle.records.specs.Places.{Moves, Shifts, after_option}

-- where the next word leads, if it passes
tested : (r : ℕ → Bool) → List ℕ → ℕ → ℕ
tested r w at = cond (nat_lt at (length w)) (cond (r (word_at w at)) (at + 1) lost) lost

branch : (inside passed : Bool) (n k : ℕ) → (inside ≡ true → k + 1 < lost)
    → Shifts n (cond inside (cond passed (k + 1) lost) lost) (cond inside (cond passed (n + k + 1) lost) lost)
branch true true n k h = let l : k + 1 < lost = h refl in record { loses = λ e. omega arith; moves = λ _. omega arith }
branch true false n k h = record { loses = λ e. refl; moves = λ l. omega arith }
branch false passed n k h = record { loses = λ e. refl; moves = λ l. omega arith }

ended : (inside passed : Bool) (k : ℕ) → (inside ≡ true → k + 1 < lost) → cond inside (cond passed (k + 1) lost) lost ≤ lost
ended true true k h = let l : k + 1 < lost = h refl in omega arith
ended true false k h = omega arith
ended false passed k h = omega arith

tested_moves : (r : ℕ → Bool) → Moves (tested r)
unfolding tested
tested_moves r = record {
  shifts = λ w n k h f l.
      let e : nat_lt k (length (drop n w)) ≡ nat_lt (n + k) (length w) = grind (arith, nat_tests, length-drop n w) in
      let d : r (word_at (drop n w) k) ≡ r (word_at w (n + k)) = ap r (get_or-drop n w k 0) in
      rw (e, d) (branch (nat_lt (n + k) (length w)) (r (word_at w (n + k))) n k (λ t. omega (arith, ltb-true (n + k) (length w) t)));
  keeps = λ w f. rw (le-ltb lost (length w) (omega arith)) refl;
  ends = λ w k f l. ended (nat_lt k (length w)) (r (word_at w k)) k (λ t. omega (arith, ltb-true k (length w) t));
}

same_places : (f g : List ℕ → ℕ → ℕ) → ((w : List ℕ) (k : ℕ) → f w k ≡ g w k) → Moves f → Moves g
same_places f g e m = record {
  shifts = λ w n k h d l. rw (← e (drop n w) k, ← e w (n + k)) (m.shifts w n k h d l);
  keeps = λ w d. rw (← e w lost) (m.keeps w d);
  ends = λ w k d l. rw (← e w k) (m.ends w k d l);
}

after-tested : (x : ℕ) (w : List ℕ) (k : ℕ) → tested (λ y. y == x) w k ≡ after w k x
unfolding tested after
after-tested x w k = refl

after_if-tested : (r : ℕ → Bool) (w : List ℕ) (k : ℕ) → tested r w k ≡ after_if (r (word_at w k)) w k
unfolding tested after_if after
after_if-tested r w k = grind (arith, common_steps)

pub after_moves : (x : ℕ) → Moves (λ w k. after w k x)
after_moves x = same_places (tested (λ y. y == x)) (λ w k. after w k x) (after-tested x) (tested_moves (λ y. y == x))

pub word_moves : (r : ℕ → Bool) → Moves (λ w k. after_if (r (word_at w k)) w k)
word_moves r = same_places (tested r) (λ w k. after_if (r (word_at w k)) w k) (after_if-tested r) (tested_moves r)

pub nowhere_moves : Moves (λ _ k. k)
nowhere_moves = record { shifts = λ w n k h f l. record { loses = λ e. omega arith; moves = λ _. refl }; keeps = λ w f. refl; ends = λ w k f l. l }

onwards : (g : List ℕ → ℕ → ℕ) (w : List ℕ) (n here whole : ℕ) → Moves g → n ≤ length w → length w < lost → Shifts n here whole → (here ≡ lost) ⊎ (here < lost)
    → Shifts n (g (drop n w) here) (g w whole)
onwards g w n here whole m h f s (inl e) =
    rw (e, s.loses e, m.keeps w f, m.keeps (drop n w) (omega (arith, length-drop n w))) (record { loses = λ _. refl; moves = λ l. omega arith })
onwards g w n here whole m h f s (inr l) = rw (s.moves l) (m.shifts w n here h f l)

-- one behind the other
pub then_moves : {f g : List ℕ → ℕ → ℕ} → Moves f → Moves g → Moves (λ w k. g w (f w k))
then_moves {f} {g} a b = record {
  shifts = λ w n k h d l.
      onwards g w n (f (drop n w) k) (f w (n + k)) b h d (a.shifts w n k h d l)
      (eq-or-lt_of_le (a.ends (drop n w) k (omega (arith, length-drop n w)) (omega arith)));
  keeps = λ w d. rw (a.keeps w d) (b.keeps w d);
  ends = λ w k d l. b.ends w (f w k) d (a.ends w k d l);
}

pub long_moves : (x : ℕ) → Moves (λ w k. after_long w k x)
long_moves x = then_moves (after_moves (x % 4294967296)) (after_moves (x / 4294967296))

pub option_moves : {A : Type 0} (r : A → ℕ → Bool) (x : Option A) → Moves (after_option r x)
option_moves r None = then_moves (after_moves 0) (after_moves 0)
option_moves r (Some x) = then_moves (after_moves 1) (word_moves (r x))
