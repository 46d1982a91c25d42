-- What a batch comes to: a section's block and then a batch of the machine behind it is a batch of the two, where all is taken; so section by section, from the resampler up.
use mathlib.Core.Path.{◌≡◌, refl, sym, ap, ap₂, ◌∙◌, subst, subst⁻¹}
use mathlib.Core.Bool.{true, false}
use mathlib.Core.List.{List, ◌++◌, map}
use Prim.Native.Nat.{ℕ, ◌≤◌}
use borrow.Author.Tests.{eq-eqb, ne_eqb}
use lib.Ieee.{Float}
use lib.ListN.{length, drop}
use Rattle.theory.specs.Sections.{Section, state, outs, each}
use Rattle.theory.specs.Machines.{Machine, before}
use Rattle.theory.specs.Feeds as F
use Rattle.theory.proofs.Sections.{outs_each}
use Rattle.theory.proofs.Feeds.{feed_right}
use Rattle.theory.proofs.Batches.{feed_before}
use Rattle.theory.proofs.FeedsSeen.{feed_seen, feed_hands}
use Rattle.float.specs.PolyphaseOpening.{valid_in_line}
use Rattle.float.specs.PolyphaseResamp.{is_on, passed, consumed, in_line, resampler}
use Rattle.float.specs.declared.polyphase_resamp.PolyphaseResampF32.{PolyphaseResampF32}
use Rattle.float.proofs.PolyphaseRange as Res
use Rattle.chain.specs.inner.Batched.{Whole, Batched}

-- ---- a section in front of a machine
module _ {S R A B : Type 0} (f : Section S A B) (m : Machine R B Float) where
  -- what the section makes is taken whole too
  pub whole_behind : (s : S) (r : R) (xs : List A) (n : ℕ) → Whole (before f m) (s, r) xs n → Whole m r (outs f s xs) n
  whole_behind s r xs n w = (feed_before f m s r xs n w).0

  pub batched_before :
      (s : S) (r : R) (xs : List A) (o₀ o : List Float) (t : S) (q : R) (w : ℕ) → Whole (before f m) (s, r) xs (length o₀) → t ≡ state f s xs
      → Batched m r (outs f s xs) o₀ o q w → Batched (before f m) (s, r) xs o₀ o (t, q) w
  batched_before s r xs o₀ o t q w h e b =
      let i = (feed_before f m s r xs (length o₀) h).1 in
      record {
        state = ap₂ {C = S × R} (λ (x : S) (y : R). (x, y)) e b.state ∙ sym (ap (λ (g : F.Fed (S × R) Float). g.line) i);
        wrote = b.wrote ∙ sym (ap (λ (g : F.Fed (S × R) Float). length g.written) i);
        span = b.span ∙ sym (ap (λ (g : F.Fed (S × R) Float). g.written ++ drop (length g.written) o₀) i);
      }

-- a section that maps each value
pub batched_each :
    {R A B : Type 0} (g : A → B) (m : Machine R B Float) (r : R) (xs : List A) (ys : List B) (o₀ o : List Float) (q : R) (w : ℕ) → ys ≡ map g xs
    → Whole (before (each {S = Unit {0}} g) m) (tt, r) xs (length o₀) → Batched m r ys o₀ o q w → Batched (before (each {S = Unit {0}} g) m) (tt, r) xs o₀ o (tt, q) w
batched_each g m r xs ys o₀ o q w e h b =
    batched_before (each g) m tt r xs o₀ o tt q w h refl (subst⁻¹ (λ l. Batched m r l o₀ o q w) (outs_each g tt xs ∙ sym e) b)

pub whole_each : {R A B : Type 0} (g : A → B) (m : Machine R B Float) (r : R) (xs : List A) (n : ℕ) → Whole (before (each {S = Unit {0}} g) m) (tt, r) xs n → Whole m r (map g xs) n
whole_each g m r xs n h = subst (λ l. Whole m r l n) (outs_each g tt xs) (whole_behind (each g) m tt r xs n h)

-- ---- the resampler
pub is_off : (s : PolyphaseResampF32) → s.phases ≡ 0 → is_on s ≡ false
unfolding is_on
is_off s e = rw (eq-eqb s.phases 0 e) refl

pub is_on_lem : (s : PolyphaseResampF32) → (s.phases ≡ 0 → ⊥) → is_on s ≡ true
unfolding is_on
is_on_lem s n = rw (ne_eqb s.phases 0 n) refl

-- off, it hands each level on
pub batched_off : (s : PolyphaseResampF32) (xs o₀ : List Float) → is_on s ≡ false → Whole in_line s xs (length o₀) → Batched in_line s xs o₀ (xs ++ drop (length xs) o₀) s (length xs)
unfolding in_line
batched_off s xs o₀ o h =
    let e = feed_hands in_line s (rw o) (λ x. rw o) (λ x. rw o) xs (length o₀) h in
    record {
      state = sym (ap (λ (g : F.Fed PolyphaseResampF32 Float). g.line) e);
      wrote = sym (ap (λ (g : F.Fed PolyphaseResampF32 Float). length g.written) e);
      span = sym (ap (λ (g : F.Fed PolyphaseResampF32 Float). g.written ++ drop (length g.written) o₀) e);
    }

-- on, it is the one beside the line
pub fed_on_lem : (s : PolyphaseResampF32) (xs : List Float) (n : ℕ) → is_on s ≡ true → F.feed in_line s xs n ≡ F.feed resampler s xs n
unfolding in_line resampler is_on passed consumed
fed_on_lem s xs n o =
    feed_seen in_line resampler (λ x. x) (λ x. is_on x ≡ true)
    (record { due_same = λ x g. rw g; val_same = λ x g d. refl; after_same = λ x g d. refl; next_same = λ x y g d. rw g; now_same = λ x y g d. rw g })
    (λ x g d. g) (λ x y g d. rw g g) s xs n o

-- off, what it takes whole has a place each
pub off_room : (s : PolyphaseResampF32) (xs : List Float) (n : ℕ) → is_on s ≡ false → valid_in_line s ≡ true → Whole in_line s xs n → length xs ≤ n
unfolding in_line
off_room s xs n o v h =
    subst (λ (g : F.Fed PolyphaseResampF32 Float). length g.written ≤ n) (feed_hands in_line s (rw o) (λ x. rw o) (λ x. rw o) xs n h)
    (feed_right in_line 64 (λ r. valid_in_line r ≡ true) Res.line_lawful s xs n v).room
