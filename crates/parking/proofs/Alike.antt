-- Two states of a machine that are the same as far as it looks answer every feed alike: so they do at one step, and what a step leaves of them is the same again. A section
-- put before a machine keeps it.
use mathlib.Core.Path.{◌≡◌, refl, sym, ap, ◌∙◌, subst}
use mathlib.Core.Bool.{Bool, true, false}
use mathlib.Core.List.{List, [], ◌∷◌}
use Rattle.std.specs.Prelude.{Option, None, Some}
use Prim.Native.Nat.{ℕ, zero, suc, ◌+◌}
use lib.ListN.{length}
use Rattle.theory.specs.Sections.{Section, onto}
use Rattle.theory.specs.Machines.{Machine, before, next_for, now_for}
use Rattle.theory.specs.Feeds.{Fed, wrote_then, took_then, steps, feed}
use Rattle.theory.proofs.Feeds.{less, steps_due, steps_none, steps_take}

pub record AlikeSection {S A B : Type 0} (f : Section S A B) (Fine : S → Type 0) (Same : S → S → Type 0) : Type 0 where
  pub next : (s t : S) (a : A) → Fine s → Same s t → Same (f.next s a) (f.next t a)
  pub out : (s t : S) (a : A) → Fine s → Same s t → f.out s a ≡ f.out t a

pub record Alike {S A C : Type 0} (m : Machine S A C) (Fine : S → Type 0) (Same : S → S → Type 0) : Type 0 where
  pub due : (s t : S) → Fine s → Same s t → m.due s ≡ m.due t
  pub val : (s t : S) → Fine s → Same s t → m.due s ≡ true → m.val s ≡ m.val t
  pub after : (s t : S) → Fine s → Same s t → m.due s ≡ true → Same (m.after s) (m.after t)
  pub next : (s t : S) (a : A) → Fine s → Same s t → Same (m.next s a) (m.next t a)
  pub now : (s t : S) (a : A) → Fine s → Same s t → m.now s a ≡ m.now t a

module _ {S R A B C : Type 0} (f : Section S A B) (m : Machine R B C) (FineS : S → Type 0) (SameS : S → S → Type 0) (FineR : R → Type 0) (SameR : R → R → Type 0) where
  pub alike_before : AlikeSection f FineS SameS → Alike m FineR SameR → Alike (before f m) (λ p. FineS p.0 × FineR p.1) (λ p q. SameS p.0 q.0 × SameR p.1 q.1)
  alike_before one law =
      record {
        due = λ p q g e. law.due p.1 q.1 g.1 e.1;
        val = λ p q g e d. law.val p.1 q.1 g.1 e.1 d;
        after = λ p q g e d. (e.0, law.after p.1 q.1 g.1 e.1 d);
        next = λ p q a g e. (
          one.next p.0 q.0 a g.0 e.0,
          subst (λ (o : Option B). SameR (next_for f m p.1 (f.out p.0 a)) (next_for f m q.1 o)) (one.out p.0 q.0 a g.0 e.0) (goes p.1 q.1 (f.out p.0 a) g.1 e.1),
        );
        now = λ p q a g e. told p.1 q.1 (f.out p.0 a) g.1 e.1 ∙ ap (now_for f m q.1) (one.out p.0 q.0 a g.0 e.0);
      }
    where
      goes : (r u : R) (o : Option B) → FineR r → SameR r u → SameR (next_for f m r o) (next_for f m u o)
      goes r u None g e = e
      goes r u (Some b) g e = law.next r u b g e

      told : (r u : R) (o : Option B) → FineR r → SameR r u → now_for f m r o ≡ now_for f m u o
      told r u None g e = refl
      told r u (Some b) g e = law.now r u b g e

-- what two feeds did
pub record SameFed {S C : Type 0} (Same : S → S → Type 0) (f g : Fed S C) : Type 0 where
  pub taken : f.taken ≡ g.taken
  pub written : f.written ≡ g.written
  pub line : Same f.line g.line

module _
    {S A C : Type 0} (m : Machine S A C) (Good : S → Type 0) (Same : S → S → Type 0) (alike : Alike m Good Same)
    (after : (s : S) → Good s → m.due s ≡ true → Good (m.after s)) (next : (s : S) (a : A) → Good s → m.due s ≡ false → Good (m.next s a))
  where
    wrote_same : (c e : C) (f g : Fed S C) → c ≡ e → SameFed Same f g → SameFed Same (wrote_then c f) (wrote_then e g)
    wrote_same c e f g p s = record { taken = s.taken; written = ap (λ (k : C). k ∷ f.written) p ∙ ap (λ (l : List C). e ∷ l) s.written; line = s.line }

    took_same : (o : Option C) (f g : Fed S C) → SameFed Same f g → SameFed Same (took_then o f) (took_then o g)
    took_same o f g s = record { taken = ap suc s.taken; written = ap (onto o) s.written; line = s.line }

    steps_same : (k : ℕ) (s t : S) (xs : List A) (n : ℕ) → Good s → Same s t → SameFed Same (steps m k s xs n) (steps m k t xs n)
    steps_same zero s t xs n g e = record { taken = refl; written = refl; line = e }
    steps_same (suc k) s t xs zero g e = record { taken = refl; written = refl; line = e }
    steps_same (suc k) s t xs (suc n) g e = go (m.due s) refl xs (λ s' t' xs' n' g' e'. steps_same k s' t' xs' n' g' e')
      where
        go :
            (d : Bool) → m.due s ≡ d → (ys : List A) → ((s' t' : S) (xs' : List A) (n' : ℕ) → Good s' → Same s' t' → SameFed Same (steps m k s' xs' n') (steps m k t' xs' n'))
            → SameFed Same (steps m (suc k) s ys (suc n)) (steps m (suc k) t ys (suc n))
        go true d ys ih =
            rw (steps_due m k s ys n d, steps_due m k t ys n (sym (alike.due s t g e) ∙ d))
            (wrote_same _ _ _ _ (alike.val s t g e d) (ih (m.after s) (m.after t) ys n (after s g d) (alike.after s t g e d)))
        go false d [] ih =
            rw (steps_none m k s n d, steps_none m k t n (sym (alike.due s t g e) ∙ d)) (record { taken = refl; written = refl; line = e })
        go false d (a ∷ ys) ih =
            rw (steps_take m k s a ys n d, steps_take m k t a ys n (sym (alike.due s t g e) ∙ d), ← alike.now s t a g e)
            (took_same (m.now s a) _ _ (ih (m.next s a) (m.next t a) ys (less (m.now s a) (suc n)) (next s a g d) (alike.next s t a g e)))

    pub feed_same : (s t : S) (xs : List A) (n : ℕ) → Good s → Same s t → SameFed Same (feed m s xs n) (feed m t xs n)
    feed_same s t xs n g e = steps_same (length xs + n) s t xs n g e
