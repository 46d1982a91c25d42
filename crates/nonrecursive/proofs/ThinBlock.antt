-- A block of section 1 of either kind is the block of the kind's own decimator, the rest of the state beside it: that decimator is seen in the states of its kind, and a
-- sample changes nothing else.
use Rattle.std.specs.Prelude.{Result, Ok, Err}
use Rattle.std.specs.Result.{result_unwrap_or}
use mathlib.Core.Path.{◌≡◌, refl, sym, ap, ◌∙◌}
use mathlib.Core.Bool.{Bool, true, false, cond}
use mathlib.Core.List.{List, ◌++◌}
use Prim.Native.Nat.{ℕ}
use lib.IntN.{ℤ, pos}
use lib.ListN.{length, drop}
use Rattle.theory.specs.Sections.{Section}
use Rattle.theory.specs.Machines.{alone}
use Rattle.theory.specs.Feeds.{Fed, idle, feed}
use Rattle.theory.proofs.FeedRules.{feed_keeps}
use Rattle.theory.proofs.FeedsSeen.{feed_seen}
use Rattle.refusal.specs.Outcome.{Outcome, none_moved, value_in, told_on}
use Rattle.refusal.specs.declared.Moved.{Moved}
use Rattle.refusal.specs.declared.Refusal.{Refusal}
use Rattle.integer.specs.CicDecimator.{decimator_of, decimator}
use Rattle.integer.specs.CicDecimator as C
use Rattle.nonrecursive.specs.NonrecursiveDecimator.{nonrecursive_of, nonrecursive}
use Rattle.nonrecursive.specs.NonrecursiveDecimator as D
use Rattle.nonrecursive.specs.EitherKind.{Thinner, thinner_of, beside, with_beside, with_cic, valid_at, next_by, out_by, thin, thin_fed}
use Rattle.nonrecursive.specs.declared.thinning.Thinning.{Thinning}
use Rattle.nonrecursive.specs.declared.thinning.Thinning.TheVariants as thinning

-- a feed's counts, state and span, as `thin_block_at` hands them over
abbrev pub Given : {S : Type 0} → Fed S ℤ → List ℤ → ℕ → ℕ → S → List ℤ → Type 0
Given fed span taken made after left =
    ((taken ≡ fed.taken) × (made ≡ length fed.written)) × ((after ≡ fed.line) × (left ≡ fed.written ++ drop (length fed.written) span))

-- a kind: its own decimator f in a state, and a state with another one of it
record Kind {S : Type 0} (k : Thinning) (part : Thinner → S) (with_part : Thinner → S → Thinner) (f : Section S ℤ ℤ) : Type 0 where
  pub next_is : (t : Thinner) (x : ℤ) → next_by k t x ≡ with_part t (f.next (part t) x)
  pub out_is : (t : Thinner) (x : ℤ) → out_by k t x ≡ f.out (part t) x
  pub got : (t : Thinner) (s : S) → part (with_part t s) ≡ s
  pub own : (t : Thinner) → with_part t (part t) ≡ t
  pub again : (t : Thinner) (s u : S) → with_part (with_part t s) u ≡ with_part t u
  pub still : (t : Thinner) (s : S) → (with_part t s).kind ≡ t.kind

integrators_kind : Kind thinning.Integrators (λ t. t.cic) with_cic decimator
integrators_kind =
    record { next_is = λ t x. refl; out_is = λ t x. refl; got = λ t s. refl; own = λ t. refl; again = λ t s u. refl; still = λ t s. refl }

neighbours_kind : Kind thinning.Neighbours beside with_beside nonrecursive
neighbours_kind =
    record { next_is = λ t x. refl; out_is = λ t x. refl; got = λ t s. refl; own = λ t. refl; again = λ t s u. refl; still = λ t s. refl }

module _ {S : Type 0} (k : Thinning) (part : Thinner → S) (with_part : Thinner → S → Thinner) (f : Section S ℤ ℤ) (kind : Kind k part with_part f) (t : Thinner) (is_k : t.kind ≡ k) where
  -- what a feed of t keeps: the kind, and all but the decimator
  abbrev Good : Thinner → Type 0
  Good u = (u.kind ≡ k) × (u ≡ with_part t (part u))

  thin_next : (u : Thinner) (x : ℤ) → u.kind ≡ k → thin.next u x ≡ with_part u (f.next (part u) x)
  unfolding thin
  thin_next u x e = ap (λ (j : Thinning). next_by j u x) e ∙ kind.next_is u x

  thin_out : (u : Thinner) (x : ℤ) → u.kind ≡ k → thin.out u x ≡ f.out (part u) x
  unfolding thin
  thin_out u x e = ap (λ (j : Thinning). out_by j u x) e ∙ kind.out_is u x

  good_next : (u : Thinner) (x : ℤ) → Good u → Good (thin.next u x)
  good_next u x g =
      let s : S = f.next (part u) x in
      let n : thin.next u x ≡ with_part u s = thin_next u x g.0 in
      let a : with_part u s ≡ with_part t s = ap (λ (v : Thinner). with_part v s) g.1 ∙ kind.again t (part u) s in
      (ap (λ (v : Thinner). v.kind) n ∙ kind.still u s ∙ g.0, n ∙ a ∙ ap (with_part t) (sym (ap part n ∙ kind.got u s)))

  abbrev fed_as : Fed S ℤ → Fed Thinner ℤ
  fed_as g = record { taken = g.taken; written = g.written; line = with_part t g.line }

  fed_is : (w : List ℤ) (places : ℕ) → feed (alone (pos 0) thin) t w places ≡ fed_as (feed (alone (pos 0) f) (part t) w places)
  fed_is w places =
      let fed : Fed Thinner ℤ = feed (alone (pos 0) thin) t w places in
      let start : Good t = (is_k, sym (kind.own t)) in
      ap {B = Fed Thinner ℤ} (λ (l : Thinner). record { taken = fed.taken; written = fed.written; line = l })
      (feed_keeps (alone (pos 0) thin) Good (λ u g d. g) (λ u x g d. good_next u x g) t w places start).1
      ∙ ap fed_as
      (feed_seen (alone (pos 0) thin) (alone (pos 0) f) part Good
      (record {
        due_same = λ u g. refl;
        val_same = λ u g d. refl;
        after_same = λ u g d. refl;
        next_same = λ u x g d. ap part (thin_next u x g.0) ∙ kind.got u (f.next (part u) x);
        now_same = λ u x g d. thin_out u x g.0;
      })
      (λ u g d. g) (λ u x g d. good_next u x g) t w places start)

  -- a block of the decimator that answers a and leaves a span, refused where it is not valid, is the block of t
  block_is :
      (v : Bool) (w span left : List ℤ) (a : Outcome Moved S) (places : ℕ) (own : Fed S ℤ)
      → own ≡ feed (alone (pos 0) f) (part t) w places
      → a ≡ cond v (record { number = 0; value = record { taken = own.taken; written = length own.written }; state = own.line }) (record { number = 15; value = record { taken = 0; written = 0 }; state = part t })
      → left ≡ cond v (own.written ++ drop (length own.written) span) span
      → Given (cond v (feed (alone (pos 0) thin) t w places) (idle t)) span a.value.taken a.value.written (with_part t a.state) left
  block_is true w span left a places own o e s = rw (fed_is w places, ← o, e, s) ((refl, refl), (refl, refl))
  block_is false w span left a places own o e s = rw (e, s, kind.own t) ((refl, refl), (refl, refl))

-- the counts of a block, none where it is refused
moved_is : (counts : Result Moved Refusal) (moved : Moved) → moved ≡ result_unwrap_or counts none_moved → moved ≡ value_in none_moved counts
moved_is (Ok m) moved e = e
moved_is (Err q) moved e = e

-- the same of a result's counts, with the arrays as the kind's own block leaves them
module _ (N r : ℕ) (i h n : List ℤ) (counter : ℕ) (w span : List ℤ) (counts : Result Moved Refusal) {k : Thinning} {left : List ℤ} {moved : Moved} {counter' : ℕ}
    (told : moved ≡ result_unwrap_or counts none_moved) where
  pub integrators_block :
      {i' h' : List ℤ} → k ≡ thinning.Integrators
      → told_on none_moved counts (decimator_of N r i' h' counter') ≡ C.block (decimator_of N r i h counter) w (length span)
      → left ≡ C.block_span (decimator_of N r i h counter) w span
      → Given (thin_fed (thinner_of k N r i h n counter) w (length span)) span moved.taken moved.written (thinner_of k N r i' h' n counter') left
  unfolding C.block C.block_span C.fed_block thin_fed valid_at
  integrators_block {i'} {h'} is e s =
      rw (is, moved_is counts moved told)
      (block_is thinning.Integrators (λ u. u.cic) with_cic decimator integrators_kind (thinner_of thinning.Integrators N r i h n counter) refl (C.valid_at N r counter) w span left
      (told_on none_moved counts (decimator_of N r i' h' counter')) (length span) _ refl e s)

  pub neighbours_block :
      {n' : List ℤ} → k ≡ thinning.Neighbours
      → told_on none_moved counts (nonrecursive_of N r n' counter') ≡ D.block (nonrecursive_of N r n counter) w (length span)
      → left ≡ D.block_span (nonrecursive_of N r n counter) w span
      → Given (thin_fed (thinner_of k N r i h n counter) w (length span)) span moved.taken moved.written (thinner_of k N r i h n' counter') left
  unfolding D.block D.block_span D.fed_block thin_fed valid_at
  neighbours_block {n'} is e s =
      rw (is, moved_is counts moved told)
      (block_is thinning.Neighbours beside with_beside nonrecursive neighbours_kind (thinner_of thinning.Neighbours N r i h n counter) refl (D.valid_at N r counter) w span left
      (told_on none_moved counts (nonrecursive_of N r n' counter')) (length span) _ refl e s)
