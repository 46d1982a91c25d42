-- A feed's counts do not depend on its samples: a machine whose states show a clock takes as many values and writes as many outputs as the clock on marks. A section
-- that makes a value of every so many slows the clock of the machine behind it, so a chain of sections is one clock.
use mathlib.Core.Path.{◌≡◌, refl, sym, ap, ap₂, ◌∙◌}
use mathlib.Core.Bool.{Bool, true, false, cond, true≢false, false≢true}
use mathlib.Core.List.{List, [], ◌∷◌}
use Rattle.std.specs.Prelude.{Option, None, Some}
use Prim.Native.Nat.{ℕ, zero, suc, ◌+◌, ◌-◌, ◌*◌, ◌≤◌, ◌<◌}
use native.Mathlib.Nat.{suc-mul, mul_comm, mul-pos}
use native.Mathlib.Omega.{arith}
use borrow.Author.Tests.{leb-true, leb-false, le-leb, lt-leb}
use lib.Dec.{leb}
use lib.ListN.{length, replicate, length-replicate}
use Rattle.theory.specs.Sections.{Section, each}
use Rattle.theory.specs.Machines.{Machine, next_for, now_for, before, viewed}
use Rattle.theory.specs.Tally.{tallied}
use Rattle.theory.specs.Feeds.{Fed, took_then, steps, feed}
use Rattle.theory.proofs.Feeds.{less, steps_due, steps_none, steps_take}
use Rattle.theory.proofs.Counting.{came, CountsDown}
use Rattle.plan.specs.inner.Ticking.{at_left, arrived, ticking, slowed}
use Rattle.plan.specs.declared.counting.Clock.{Clock}

-- the clock counts for the machine
pub record Counts {S A C : Type 0} (m : Machine S A C) (clock : S → Clock) (Good : S → Type 0) : Type 0 where
  pub good_after : (s : S) → Good s → Good (m.after s)
  pub good_next : (s : S) (a : A) → Good s → Good (m.next s a)
  pub some_period : (s : S) → Good s → 1 ≤ (clock s).period
  pub due_same : (s : S) → Good s → m.due s ≡ ticking.due (clock s)
  pub after_same : (s : S) → Good s → clock (m.after s) ≡ ticking.after (clock s)
  pub next_same : (s : S) (a : A) → Good s → clock (m.next s a) ≡ ticking.next (clock s) tt
  pub now_same : (s : S) (a : A) → Good s → came (m.now s a) ≡ came (ticking.now (clock s) tt)

-- ---- a slowed clock
one_more : (k p : ℕ) → 1 ≤ k → p + (k - 1) * p ≡ k * p
one_more zero p h = absurd (omega arith)
one_more (suc k) p h =
    let e : suc k - 1 ≡ k = omega arith in
    ap (λ (n : ℕ). p + n * p) e ∙ (let q : p + k * p ≡ k * p + p = omega arith in q) ∙ sym (suc-mul k p)

-- a value of the section has come: the clock behind it ticks
leb_last : (p k : ℕ) → 1 ≤ p → leb (1 + (k - 1) * p) 1 ≡ leb k 1
leb_last p k h = go (leb k 1) refl
  where
    go : (b : Bool) → leb k 1 ≡ b → leb (1 + (k - 1) * p) 1 ≡ b
    go true e =
        let l = leb-true k 1 e in
        let z : k - 1 ≡ 0 = omega arith in
        ap (λ (n : ℕ). leb (1 + n * p) 1) z ∙ le-leb (1 + 0 * p) 1 (omega arith)
    go false e =
        let l = leb-false k 1 e in
        let q : 1 ≤ k - 1 = omega arith in
        lt-leb (1 + (k - 1) * p) 1 (omega (arith, mul-pos q h))

leb_wait : (l n : ℕ) → 1 < l → leb (l + n) 1 ≡ false
leb_wait l n h = lt-leb (l + n) 1 (omega arith)

slowed_last : (p : ℕ) (c : Clock) → 1 ≤ p → 1 ≤ c.period → slowed p p (ticking.next c tt) ≡ ticking.next (slowed 1 p c) tt
unfolding ticking
slowed_last p c h k = go (leb c.left 1) refl
  where
    go :
        (b : Bool) → leb c.left 1 ≡ b
        → slowed p p (cond (leb c.left 1) (arrived c) (at_left c (c.left - 1))) ≡ cond (leb (1 + (c.left - 1) * p) 1) (arrived (slowed 1 p c)) (at_left (slowed 1 p c) (1 + (c.left - 1) * p - 1))
    go true e =
        rw (leb_last p c.left h, e)
        (ap {B = Clock} (λ (n : ℕ). record { left = n; period = p * c.period; pace = (arrived c).pace }) (one_more c.period p k ∙ mul_comm c.period p))
    go false e =
        let l = leb-false c.left 1 e in
        let q : 1 ≤ c.left - 1 = omega arith in
        let j : ℕ = c.left - 1 in
        let z : j * p ≡ 1 + j * p - 1 = omega arith in
        rw (leb_last p c.left h, e)
        (ap {B = Clock} (λ (n : ℕ). record { left = n; period = p * c.period; pace = c.pace }) (one_more (c.left - 1) p q ∙ z))

slowed_wait : (l p : ℕ) (c : Clock) → 1 < l → slowed (l - 1) p c ≡ ticking.next (slowed l p c) tt
unfolding ticking
slowed_wait l p c h =
    let x : ℕ = (c.left - 1) * p in
    let z : l - 1 + x ≡ l + x - 1 = omega arith in
    rw (leb_wait l ((c.left - 1) * p) h) (ap {B = Clock} (λ (n : ℕ). record { left = n; period = p * c.period; pace = c.pace }) z)

now_last : (p : ℕ) (c : Clock) → 1 ≤ p → ticking.now c tt ≡ ticking.now (slowed 1 p c) tt
unfolding ticking
now_last p c h = rw (leb_last p c.left h) refl

now_wait : (l p : ℕ) (c : Clock) → 1 < l → None ≡ ticking.now (slowed l p c) tt
unfolding ticking
now_wait l p c h = rw (leb_wait l ((c.left - 1) * p) h) refl

-- ---- machines, from the parts
-- a section in front of a machine
module _ {S R A B C : Type 0} (f : Section S A B) (m : Machine R B C) (left period : S → ℕ) (clock : R → Clock) (GoodS : S → Type 0) (GoodR : R → Type 0)
    (cf : CountsDown f left period GoodS) (cm : Counts m clock GoodR) where
  abbrev slow : S × R → Clock
  slow p = slowed (left p.0) (period p.0) (clock p.1)

  good_for : (r : R) (o : Option B) → GoodR r → GoodR (next_for f m r o)
  good_for r None g = g
  good_for r (Some b) g = cm.good_next r b g

  -- by whether the section's value has come
  next_for_lem :
      (l p : ℕ) (r : R) → 1 ≤ l → 1 ≤ p → GoodR r → (b : Bool) → leb l 1 ≡ b → (o : Option B) → came o ≡ b
      → slowed (cond b p (l - 1)) p (clock (next_for f m r o)) ≡ ticking.next (slowed l p (clock r)) tt
  next_for_lem l p r hl hp g true e None q = absurd (false≢true q)
  next_for_lem l p r hl hp g true e (Some v) q =
      let t = leb-true l 1 e in
      let z : 1 ≡ l = omega arith in
      ap (slowed p p) (cm.next_same r v g) ∙ slowed_last p (clock r) hp (cm.some_period r g) ∙ ap (λ (n : ℕ). ticking.next (slowed n p (clock r)) tt) z
  next_for_lem l p r hl hp g false e None q = slowed_wait l p (clock r) (leb-false l 1 e)
  next_for_lem l p r hl hp g false e (Some v) q = absurd (true≢false q)

  now_for_lem :
      (l p : ℕ) (r : R) → 1 ≤ l → 1 ≤ p → GoodR r → (b : Bool) → leb l 1 ≡ b → (o : Option B) → came o ≡ b
      → came (now_for f m r o) ≡ came (ticking.now (slowed l p (clock r)) tt)
  now_for_lem l p r hl hp g true e None q = absurd (false≢true q)
  now_for_lem l p r hl hp g true e (Some v) q =
      let t = leb-true l 1 e in
      let z : 1 ≡ l = omega arith in
      cm.now_same r v g ∙ ap came (now_last p (clock r) hp) ∙ ap (λ (n : ℕ). came (ticking.now (slowed n p (clock r)) tt)) z
  now_for_lem l p r hl hp g false e None q = ap came (now_wait l p (clock r) (leb-false l 1 e))
  now_for_lem l p r hl hp g false e (Some v) q = absurd (true≢false q)

  pub counts_before : Counts (before f m) slow (λ p. GoodS p.0 × GoodR p.1)
  counts_before =
      record {
        good_after = λ p g. (g.0, cm.good_after p.1 g.1);
        good_next = λ p a g. (cf.good_next p.0 a g.0, good_for p.1 (f.out p.0 a) g.1);
        some_period = λ p g. mul-pos (cf.some_period p.0 g.0) (cm.some_period p.1 g.1);
        due_same = λ p g. cm.due_same p.1 g.1 ∙ due_slowed (left p.0) (period p.0) (clock p.1);
        after_same = λ p g. ap (slowed (left p.0) (period p.0)) (cm.after_same p.1 g.1) ∙ after_slowed (left p.0) (period p.0) (clock p.1);
        next_same = λ p a g.
            ap₂ {C = Clock} (λ (n k : ℕ). slowed n k (clock (next_for f m p.1 (f.out p.0 a)))) (cf.left_next p.0 a g.0) (cf.period_kept p.0 a g.0)
            ∙ next_for_lem (left p.0) (period p.0) p.1 (cf.some_left p.0 g.0) (cf.some_period p.0 g.0) g.1 (leb (left p.0) 1) refl (f.out p.0 a) (cf.out_same p.0 a g.0);
        now_same = λ p a g.
            now_for_lem (left p.0) (period p.0) p.1 (cf.some_left p.0 g.0) (cf.some_period p.0 g.0) g.1 (leb (left p.0) 1) refl (f.out p.0 a) (cf.out_same p.0 a g.0);
      }
    where
      due_slowed : (l p : ℕ) (c : Clock) → ticking.due c ≡ ticking.due (slowed l p c)
      due_slowed l p c = unfold ticking in refl

      after_slowed : (l p : ℕ) (c : Clock) → slowed l p (ticking.after c) ≡ ticking.after (slowed l p c)
      after_slowed l p c = unfold ticking in refl

-- a section that maps each value changes no count
pub counts_each :
    {R A B C : Type 0} (h : A → B) (m : Machine R B C) (clock : R → Clock) (Good : R → Type 0) → Counts m clock Good
    → Counts (before (each {S = Unit {0}} h) m) (λ p. clock p.1) (λ p. Good p.1)
counts_each h m clock Good c =
    record {
      good_after = λ p g. c.good_after p.1 g;
      good_next = λ p a g. c.good_next p.1 (h a) g;
      some_period = λ p g. c.some_period p.1 g;
      due_same = λ p g. c.due_same p.1 g;
      after_same = λ p g. c.after_same p.1 g;
      next_same = λ p a g. c.next_same p.1 (h a) g;
      now_same = λ p a g. c.now_same p.1 (h a) g;
    }

-- nor does a count beside the states
pub counts_tallied :
    {S A C : Type 0} (most : ℕ) (adds : S → A → ℕ) (m : Machine S A C) (clock : S → Clock) (Good : S → Type 0) → Counts m clock Good
    → Counts (tallied most adds m) (λ p. clock p.0) (λ p. Good p.0)
counts_tallied most adds m clock Good c =
    record {
      good_after = λ p g. c.good_after p.0 g;
      good_next = λ p a g. c.good_next p.0 a g;
      some_period = λ p g. c.some_period p.0 g;
      due_same = λ p g. c.due_same p.0 g;
      after_same = λ p g. c.after_same p.0 g;
      next_same = λ p a g. c.next_same p.0 a g;
      now_same = λ p a g. c.now_same p.0 a g;
    }

-- a machine over another type of states
pub counts_viewed :
    {S R A C : Type 0} (m : Machine R A C) (view : S → R) (back : R → S) → ((r : R) → view (back r) ≡ r) → (clock : R → Clock) (Good : R → Type 0) → Counts m clock Good
    → Counts (viewed m view back) (λ s. clock (view s)) (λ s. Good (view s))
counts_viewed m view back same clock Good c =
    record {
      good_after = λ s g. rw (same (m.after (view s))) (c.good_after (view s) g);
      good_next = λ s a g. rw (same (m.next (view s) a)) (c.good_next (view s) a g);
      some_period = λ s g. c.some_period (view s) g;
      due_same = λ s g. c.due_same (view s) g;
      after_same = λ s g. ap clock (same (m.after (view s))) ∙ c.after_same (view s) g;
      next_same = λ s a g. ap clock (same (m.next (view s) a)) ∙ c.next_same (view s) a g;
      now_same = λ s a g. c.now_same (view s) a g;
    }

-- ---- a feed, by its counts
pub record SameCounts {S C : Type 0} (clock : S → Clock) (f : Fed S C) (g : Fed Clock (Unit {0})) : Type 0 where
  pub taken : f.taken ≡ g.taken
  pub written : length f.written ≡ length g.written
  pub line : clock f.line ≡ g.line

module _ {S A C : Type 0} (m : Machine S A C) (clock : S → Clock) (Good : S → Type 0) (c : Counts m clock Good) where
  abbrev marks : List A → List (Unit {0})
  marks xs = replicate (length xs) tt

  steps_count : (k : ℕ) (s : S) (xs : List A) (j : ℕ) → Good s → SameCounts clock (steps m k s xs j) (steps ticking k (clock s) (marks xs) j)
  steps_count zero s xs j g = record { taken = refl; written = refl; line = refl }
  steps_count (suc k) s xs zero g = record { taken = refl; written = refl; line = refl }
  steps_count (suc k) s xs (suc j) g = go (m.due s) refl xs (λ s' xs' j' g'. steps_count k s' xs' j' g')
    where
      go :
          (d : Bool) → m.due s ≡ d → (ys : List A)
          → ((s' : S) (xs' : List A) (j' : ℕ) → Good s' → SameCounts clock (steps m k s' xs' j') (steps ticking k (clock s') (marks xs') j'))
          → SameCounts clock (steps m (suc k) s ys (suc j)) (steps ticking (suc k) (clock s) (marks ys) (suc j))
      go true e ys ih =
          let i = ih (m.after s) ys j (c.good_after s g) in
          rw (steps_due m k s ys j e, steps_due ticking k (clock s) (marks ys) j (sym (c.due_same s g) ∙ e), ← c.after_same s g)
          (record { taken = i.taken; written = ap suc i.written; line = i.line })
      go false e [] ih =
          rw (steps_none m k s j e, steps_none ticking k (clock s) j (sym (c.due_same s g) ∙ e)) (record { taken = refl; written = refl; line = refl })
      go false e (a ∷ ys) ih =
          rw (steps_take m k s a ys j e, steps_take ticking k (clock s) tt (marks ys) j (sym (c.due_same s g) ∙ e), ← c.next_same s a g)
          (of (m.now s a) (ticking.now (clock s) tt) (c.now_same s a g))
        where
          of :
              (o : Option C) (u : Option (Unit {0})) → came o ≡ came u
              → SameCounts clock (took_then o (steps m k (m.next s a) ys (less o (suc j)))) (took_then u (steps ticking k (clock (m.next s a)) (marks ys) (less u (suc j))))
          of None None q = let i = ih (m.next s a) ys (suc j) (c.good_next s a g) in record { taken = ap suc i.taken; written = i.written; line = i.line }
          of None (Some u) q = absurd (false≢true q)
          of (Some b) None q = absurd (true≢false q)
          of (Some b) (Some u) q = let i = ih (m.next s a) ys j (c.good_next s a g) in record { taken = ap suc i.taken; written = ap suc i.written; line = i.line }

  pub feed_counts_lem : (s : S) (xs : List A) (j : ℕ) → Good s → SameCounts clock (feed m s xs j) (feed ticking (clock s) (marks xs) j)
  feed_counts_lem s xs j g = rw (length-replicate (length xs) (tt {0})) (steps_count (length xs + j) s xs j g)
