-- Where one machine is seen as another by a view of its states, a feed of the one is a feed of the other, seen. So a count beside the states changes nothing of a feed, and
-- a machine that hands each value on writes what it takes.
use mathlib.Core.Path.{◌≡◌, refl, sym, ap, ap₂, ◌∙◌}
use mathlib.Core.Bool.{Bool, true, false}
use mathlib.Core.List.{List, [], ◌∷◌}
use Rattle.std.specs.Prelude.{Option, None, Some}
use Prim.Native.Nat.{ℕ, zero, suc, ◌+◌, ◌≤◌}
use native.Mathlib.Omega.{arith}
use lib.ListN.{length}
use Rattle.theory.specs.Machines.{Machine, viewed}
use Rattle.theory.specs.Feeds.{Fed, wrote_then, took_then, feed}
use Rattle.theory.proofs.Feeds.{less}
use Rattle.theory.specs.Tally.{tallied}
use Rattle.theory.proofs.Machines.{Seen}
use Rattle.theory.proofs.FeedRules.{feed_full, feed_due, feed_end}
use Rattle.theory.proofs.Batches.{feed_takes}

module _ {S T A C : Type 0} (m : Machine S A C) (n : Machine T A C) (view : S → T) (Good : S → Type 0) (seen : Seen m n view Good)
    (after : (s : S) → Good s → m.due s ≡ true → Good (m.after s)) (next : (s : S) (a : A) → Good s → m.due s ≡ false → Good (m.next s a)) where
  abbrev seen_as : Fed S C → Fed T C
  seen_as f = record { taken = f.taken; written = f.written; line = view f.line }

  full : (s : S) (xs : List A) → seen_as (feed m s xs 0) ≡ feed n (view s) xs 0
  full s xs = rw (feed_full m s xs, feed_full n (view s) xs) refl

  seen_by : (k : ℕ) (s : S) (xs : List A) (p : ℕ) → length xs + p ≤ k → Good s → seen_as (feed m s xs p) ≡ feed n (view s) xs p
  seen_by zero s xs zero l g = full s xs
  seen_by zero s xs (suc p) l g = absurd (omega arith)
  seen_by (suc k) s xs zero l g = full s xs
  seen_by (suc k) s xs (suc p) l g = go (m.due s) refl xs l (λ s' xs' p' l' g'. seen_by k s' xs' p' l' g')
    where
      go :
          (d : Bool) → m.due s ≡ d → (ys : List A) → length ys + suc p ≤ suc k
          → ((s' : S) (xs' : List A) (p' : ℕ) → length xs' + p' ≤ k → Good s' → seen_as (feed m s' xs' p') ≡ feed n (view s') xs' p')
          → seen_as (feed m s ys (suc p)) ≡ feed n (view s) ys (suc p)
      go true e ys q ih =
          rw (feed_due m s ys p e, feed_due n (view s) ys p (sym (seen.due_same s g) ∙ e))
          (ap (wrote_then (m.val s)) (ih (m.after s) ys p (omega arith) (after s g e))
          ∙ ap₂ {C = Fed T C} (λ (c : C) (t : T). wrote_then c (feed n t ys p)) (seen.val_same s g e) (seen.after_same s g e))
      go false e [] q ih = rw (feed_end m s (suc p) e, feed_end n (view s) (suc p) (sym (seen.due_same s g) ∙ e)) refl
      go false e (a ∷ ys) q ih =
          rw (feed_takes m s a ys p e, feed_takes n (view s) a ys p (sym (seen.due_same s g) ∙ e), ← seen.now_same s a g e, ← seen.next_same s a g e) (of (m.now s a))
        where
          of : (o : Option C) → seen_as (took_then o (feed m (m.next s a) ys (less o (suc p)))) ≡ took_then o (feed n (view (m.next s a)) ys (less o (suc p)))
          of None = ap (took_then None) (ih (m.next s a) ys (suc p) (omega arith) (next s a g e))
          of (Some c) = ap (took_then (Some c)) (ih (m.next s a) ys p (omega arith) (next s a g e))

  pub feed_seen :
      (s : S) (xs : List A) (p : ℕ) → Good s
      → record { taken = (feed m s xs p).taken; written = (feed m s xs p).written; line = view (feed m s xs p).line } ≡ feed n (view s) xs p
  feed_seen s xs p g = seen_by (length xs + p) s xs p (omega arith) g

-- a machine over another type of states, as a struct's
module _ {S T A C : Type 0} (m : Machine T A C) (view : S → T) (back : T → S) (there : (t : T) → view (back t) ≡ t) (here : (s : S) → back (view s) ≡ s) where
  pub feed_viewed :
      (s : S) (xs : List A) (p : ℕ)
      → feed (viewed m view back) s xs p ≡ record { taken = (feed m (view s) xs p).taken; written = (feed m (view s) xs p).written; line = back (feed m (view s) xs p).line }
  feed_viewed s xs p =
      let f : Fed S C = feed (viewed m view back) s xs p in
      ap {B = Fed S C} (λ (l : S). record { taken = f.taken; written = f.written; line = l }) (sym (here f.line))
      ∙ ap {B = Fed S C} (λ (g : Fed T C). record { taken = g.taken; written = g.written; line = back g.line })
      (feed_seen (viewed m view back) m view (λ x. Unit {0})
      (record { due_same = λ x g. refl; val_same = λ x g d. refl; after_same = λ x g d. there (m.after (view x)); next_same = λ x a g d. there (m.next (view x) a); now_same = λ x a g d. refl })
      (λ x g d. tt) (λ x a g d. tt) s xs p tt)

-- a count beside the states
module _ {S A C : Type 0} (most : ℕ) (adds : S → A → ℕ) (m : Machine S A C) where
  pub feed_tallied :
      (s : S) (c : ℕ) (xs : List A) (p : ℕ) (f : Fed (S × ℕ) C) → f ≡ feed (tallied most adds m) (s, c) xs p
      → record { taken = f.taken; written = f.written; line = f.line.0 } ≡ feed m s xs p
  feed_tallied s c xs p f e =
      ap {B = Fed S C} (λ (g : Fed (S × ℕ) C). record { taken = g.taken; written = g.written; line = g.line.0 }) e
      ∙ feed_seen (tallied most adds m) m (λ q. q.0) (λ q. Unit {0})
      (record { due_same = λ q g. refl; val_same = λ q g d. refl; after_same = λ q g d. refl; next_same = λ q a g d. refl; now_same = λ q a g d. refl })
      (λ q g d. tt) (λ q a g d. tt) (s, c) xs p tt

-- a machine that hands each value on, at a state that stays
module _ {S A : Type 0} (m : Machine S A A) (s : S) (nothing : m.due s ≡ false) (stays : (a : A) → m.next s a ≡ s) (hands : (a : A) → m.now s a ≡ Some a) where
  pub feed_hands : (xs : List A) (p : ℕ) → (feed m s xs p).taken ≡ length xs → feed m s xs p ≡ record { taken = length xs; written = xs; line = s }
  feed_hands [] p t = feed_end m s p nothing
  feed_hands (a ∷ xs) zero t =
      let z : 0 ≡ suc (length xs) = sym (ap (λ (f : Fed S A). f.taken) (feed_full m s (a ∷ xs))) ∙ t in absurd (omega arith)
  feed_hands (a ∷ xs) (suc p) t =
      let e : feed m s (a ∷ xs) (suc p) ≡ took_then (Some a) (feed m s xs p) =
      feed_takes m s a xs p nothing ∙ ap₂ {C = Fed S A} (λ (o : Option A) (r : S). took_then o (feed m r xs (less o (suc p)))) (hands a) (stays a)
      in
      let k : suc (feed m s xs p).taken ≡ suc (length xs) = sym (ap (λ (f : Fed S A). f.taken) e) ∙ t in
      let i : (feed m s xs p).taken ≡ length xs = omega (arith, k) in
      e ∙ ap (took_then (Some a)) (feed_hands xs p i)
