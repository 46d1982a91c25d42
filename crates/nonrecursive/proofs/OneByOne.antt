-- A feed of a section by itself, one value after the other: each is a step, and where a value or a place is missing what was done is the feed.
use mathlib.Core.Path.{◌≡◌, refl, sym, ap, ◌∙◌, subst}
use mathlib.Core.Bool.{Bool, true, false}
use mathlib.Core.Logic.{◌⊎◌, inl, inr}
use mathlib.Core.List.{List, [], ◌∷◌, ◌++◌}
use Rattle.std.specs.Prelude.{Option, None, Some}
use Prim.Native.Nat.{ℕ, suc, ◌+◌, ◌≤◌, ◌<◌}
use native.Mathlib.Nat.{add-zero}
use borrow.Author.Tests.{lt-ltb, le-ltb}
use lib.Dec.{ltb}
use lib.IntN.{ℤ, pos}
use lib.ListN.{length, drop, get_or, drop_of_length-le}
use lib.Seq.{drop-cons}
use Rattle.theory.specs.Sections.{Section, onto}
use Rattle.theory.specs.Machines.{Machine, alone}
use Rattle.theory.specs.Feeds.{Fed, took, both, stopped, Stepped, head_of, taking, step, feed}
use Rattle.theory.proofs.Machines.{Lawful, lawful_alone}
use Rattle.theory.proofs.Feeds.{step_not}
use Rattle.theory.proofs.FeedLoop.{Midway, after_took, after_both, after_stopped}
use Rattle.nonrecursive.specs.inner.Tape.{put}

module _ {S : Type 0} (f : Section S ℤ ℤ) where
  abbrev m : Machine S ℤ ℤ
  m = alone (pos 0) f

  abbrev Any : S → Type 0
  Any s = Unit {0}

  pub law : Lawful m 0 Any
  law = lawful_alone (pos 0) f 0 Any (λ s a g. g)

  -- t values of xs are taken and w places written
  abbrev pub Done : S → List ℤ → List ℤ → List ℤ → S → ℕ → ℕ → Type 0
  Done s₀ xs out₀ out s t w = Midway m 0 Any law s₀ xs out₀ out s t w

  module _ (s₀ : S) (xs out₀ out : List ℤ) (s : S) (t w : ℕ) (mid : Done s₀ xs out₀ out s t w) where
    pub one : w < length out → t < length xs → (x : ℤ) → x ≡ get_or xs t (pos 0) → (o : Option ℤ) → o ≡ f.out s x → Done s₀ xs out₀ (put out w o) (f.next s x) (t + 1) (w + length (onto o []))
    one room some x read o made = go o made
      where
        more : drop t xs ≡ x ∷ drop (suc t) xs
        more = drop-cons xs t (pos 0) some ∙ ap (λ (y : ℤ). y ∷ drop (suc t) xs) (sym read)

        by : (o : Option ℤ) → o ≡ f.out s x → record { event = taking o; line = f.next s x } ≡ step m (ltb w (length out)) s (head_of (drop t xs))
        by o h =
            sym (ap (λ (b : Bool). step m b s (head_of (drop t xs))) (lt-ltb w (length out) room)
            ∙ ap (λ (l : List ℤ). step m true s (head_of l)) more
            ∙ step_not m s (Some x) refl
            ∙ ap {B = Stepped S ℤ} (λ (p : Option ℤ). record { event = taking p; line = f.next s x }) (sym h))

        go : (o : Option ℤ) → o ≡ f.out s x → Done s₀ xs out₀ (put out w o) (f.next s x) (t + 1) (w + length (onto o []))
        go None h =
            subst (λ (n : ℕ). Done s₀ xs out₀ out (f.next s x) (t + 1) n) (sym (add-zero w))
            (after_took m 0 Any law s₀ xs out₀ out s t w mid (record { event = took; line = f.next s x }) (by None h) refl).1
        go (Some y) h = (after_both m 0 Any law s₀ xs out₀ out s t w mid (record { event = both y; line = f.next s x }) (by (Some y) h) y refl).2

    no_value : (place : Bool) → record { event = stopped; line = s } ≡ step m place s None
    no_value true = refl
    no_value false = refl

    ends : (length xs ≤ t) ⊎ (length out ≤ w) → record { event = stopped; line = s } ≡ step m (ltb w (length out)) s (head_of (drop t xs))
    ends (inl h) = no_value (ltb w (length out)) ∙ ap (λ (l : List ℤ). step m (ltb w (length out)) s (head_of l)) (sym (drop_of_length-le xs h))
    ends (inr h) = ap (λ (b : Bool). step m b s (head_of (drop t xs))) (sym (le-ltb w (length out) h))

    pub ended : (length xs ≤ t) ⊎ (length out ≤ w) →
        let fed : Fed S ℤ = feed m s₀ xs (length out₀) in
        (t ≡ fed.taken) × (w ≡ length fed.written) × (s ≡ fed.line) × (out ≡ fed.written ++ drop (length fed.written) out₀)
    ended h =
        let e = after_stopped m 0 Any law s₀ xs out₀ out s t w mid (record { event = stopped; line = s }) (ends h) refl in
        rw e.is_fed (refl, sym e.count, refl, e.span)
