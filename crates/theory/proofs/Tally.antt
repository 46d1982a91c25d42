-- A count beside a machine's states changes nothing of what the machine makes; and after any history it is what the values taken add, held.
use mathlib.Core.Path.{◌≡◌, refl, sym, ap, ap₂, ◌∙◌}
use mathlib.Core.Bool.{Bool, true, false}
use mathlib.Core.List.{List, [], ◌∷◌, ◌++◌}
use Prim.Native.Nat.{ℕ, zero, suc, ◌+◌}
use native.Mathlib.Omega.{arith}
use native.Mathlib.Nat.{add_assoc}
use lib.ListN.{length, take}
use Rattle.theory.specs.Sections.{Section, state}
use Rattle.theory.specs.Machines.{Machine}
use Rattle.theory.specs.Feeds.{steps, feed, Feedings, opened, fed, state_after, taken_by_feeds}
use Rattle.theory.specs.Tally.{held_sum, tallied}
use Rattle.theory.proofs.Sections.{state_append}
use Rattle.theory.proofs.Machines.{dry, dry_true, dry_false, all, Lawful, all_seen}
use Rattle.theory.proofs.Feeds.{less, steps_due, steps_none, steps_take}

pub held_none : (most c : ℕ) → held_sum most c 0 ≡ c
held_none most c = omega arith

pub held_more : (most c a b : ℕ) → held_sum most (held_sum most c a) b ≡ held_sum most c (a + b)
held_more most c a b = omega arith

-- the same law, with the count left out
module _ {S A C : Type 0} (most : ℕ) (adds : S → A → ℕ) (m : Machine S A C) where
  dry_tallied : (k : ℕ) (s : S) (c : ℕ) → dry (tallied most adds m) k (s, c) ≡ (dry m k s, c)
  dry_tallied zero s c = refl
  dry_tallied (suc k) s c = go (m.due s) refl (dry_tallied k (m.after s) c)
    where
      go : (b : Bool) → m.due s ≡ b → dry (tallied most adds m) k (m.after s, c) ≡ (dry m k (m.after s), c) → dry (tallied most adds m) (suc k) (s, c) ≡ (dry m (suc k) s, c)
      go true e ih = dry_true (tallied most adds m) k (s, c) e ∙ ih ∙ ap {B = S × ℕ} (λ d. (d, c)) (sym (dry_true m k s e))
      go false e ih = dry_false (tallied most adds m) (suc k) (s, c) e ∙ ap {B = S × ℕ} (λ d. (d, c)) (sym (dry_false m (suc k) s e))

  module _ (k : ℕ) (Good : S → Type 0) (law : Lawful m k Good) where
    pub lawful_tallied : Lawful (tallied most adds m) k (λ p. Good p.0)
    lawful_tallied =
        record {
          good_after = λ p g e. law.good_after p.0 g e;
          good_next = λ p a g e. law.good_next p.0 a g e;
          enough = λ p g. rw (dry_tallied k p.0 p.1) (law.enough p.0 g);
        }

    pub all_tallied : (p : S × ℕ) (w : List A) → Good p.0 → all (tallied most adds m) k p w ≡ all m k p.0 w
    all_tallied =
        all_seen (tallied most adds m) m (λ p. p.0) k (λ p. Good p.0) lawful_tallied
        (record { due_same = λ s g. refl; val_same = λ s g e. refl; after_same = λ s g e. refl; next_same = λ s a g e. refl; now_same = λ s a g e. refl })

-- what a whole list adds, where it goes by a section's states
module _ {T A B : Type 0} (f : Section T A B) (weight : T → A → ℕ) where
  abbrev pub weights : T → List A → ℕ
  weights t [] = 0
  weights t (a ∷ w) = weight t a + weights (f.next t a) w

  pub weights_append : (t : T) (v w : List A) → weights t (v ++ w) ≡ weights t v + weights (state f t v) w
  weights_append t [] w = let q : weights t w ≡ 0 + weights t w = omega arith in q
  weights_append t (a ∷ v) w =
      ap (λ (n : ℕ). weight t a + n) (weights_append (f.next t a) v w) ∙ sym (add_assoc (weight t a) (weights (f.next t a) v) (weights (state f (f.next t a) v) w))

-- a machine whose states show a section's state and a count, to which each value adds by the section's state
pub record Tallies {S T A B C : Type 0} (most : ℕ) (f : Section T A B) (weight : T → A → ℕ) (m : Machine S A C) (view : S → T) (count : S → ℕ) : Type 0 where
  pub view_after : (s : S) → view (m.after s) ≡ view s
  pub view_next : (s : S) (a : A) → view (m.next s a) ≡ f.next (view s) a
  pub count_after : (s : S) → count (m.after s) ≡ count s
  pub count_next : (s : S) (a : A) → count (m.next s a) ≡ held_sum most (count s) (weight (view s) a)

module _ {S T A B C : Type 0} (most : ℕ) (f : Section T A B) (weight : T → A → ℕ) (m : Machine S A C) (view : S → T) (count : S → ℕ) (tl : Tallies most f weight m view count) where
  -- of a state that the values w led to from s
  pub record Told (s : S) (w : List A) (r : S) : Type 0 where
    pub seen : view r ≡ state f (view s) w
    pub counted : count r ≡ held_sum most (count s) (weights f weight (view s) w)

  told_none : (s : S) → Told s [] s
  told_none s = record { seen = refl; counted = sym (held_none most (count s)) }

  told_after : (s : S) (w : List A) (r : S) → Told (m.after s) w r → Told s w r
  told_after s w r t =
      record {
        seen = t.seen ∙ ap (λ (x : T). state f x w) (tl.view_after s);
        counted = t.counted ∙ ap₂ {C = ℕ} (λ (c : ℕ) (x : T). held_sum most c (weights f weight x w)) (tl.count_after s) (tl.view_after s);
      }

  told_next : (s : S) (a : A) (w : List A) (r : S) → Told (m.next s a) w r → Told s (a ∷ w) r
  told_next s a w r t =
      record {
        seen = t.seen ∙ ap (λ (x : T). state f x w) (tl.view_next s a);
        counted =
            t.counted ∙ ap₂ {C = ℕ} (λ (c : ℕ) (x : T). held_sum most c (weights f weight x w)) (tl.count_next s a) (tl.view_next s a)
            ∙ held_more most (count s) (weight (view s) a) (weights f weight (f.next (view s) a) w);
      }

  steps_told : (k : ℕ) (s : S) (xs : List A) (n : ℕ) → Told s (take (steps m k s xs n).taken xs) (steps m k s xs n).line
  steps_told zero s xs n = told_none s
  steps_told (suc k) s xs zero = told_none s
  steps_told (suc k) s xs (suc n) = go (m.due s) refl xs (λ s' xs' n'. steps_told k s' xs' n')
    where
      go :
          (d : Bool) → m.due s ≡ d → (ys : List A) → ((s' : S) (xs' : List A) (n' : ℕ) → Told s' (take (steps m k s' xs' n').taken xs') (steps m k s' xs' n').line)
          → Told s (take (steps m (suc k) s ys (suc n)).taken ys) (steps m (suc k) s ys (suc n)).line
      go true e ys ih = rw (steps_due m k s ys n e) (told_after s _ _ (ih (m.after s) ys n))
      go false e [] ih = rw (steps_none m k s n e) (told_none s)
      go false e (a ∷ ys) ih = rw (steps_take m k s a ys n e) (told_next s a _ _ (ih (m.next s a) ys (less (m.now s a) (suc n))))

  pub feed_told : (s : S) (xs : List A) (n : ℕ) → Told s (take (feed m s xs n).taken xs) (feed m s xs n).line
  feed_told s xs n = steps_told (length xs + n) s xs n

  told_joined : (s : S) (v w : List A) (q r : S) → Told s v q → Told q w r → Told s (v ++ w) r
  told_joined s v w q r t u =
      record {
        seen = u.seen ∙ ap (λ (x : T). state f x w) t.seen ∙ sym (state_append f (view s) v w);
        counted =
            u.counted ∙ ap₂ {C = ℕ} (λ (c : ℕ) (x : T). held_sum most c (weights f weight x w)) t.counted t.seen
            ∙ held_more most (count s) (weights f weight (view s) v) (weights f weight (state f (view s) v) w)
            ∙ ap (held_sum most (count s)) (sym (weights_append f weight (view s) v w));
      }

  -- after any history
  pub history_told : (fresh : S) (h : Feedings A) → Told fresh (taken_by_feeds m fresh h) (state_after m fresh h)
  history_told fresh opened = told_none fresh
  history_told fresh (fed h xs n) =
      told_joined fresh (taken_by_feeds m fresh h) _ (state_after m fresh h) _ (history_told fresh h) (feed_told (state_after m fresh h) xs n)
