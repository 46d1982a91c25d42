-- Demand 3 of every feed that answers as its contract says: a history as its callers see it is one of the machine's, of which the theorem on feeds speaks, and what the
-- machine makes of a whole list are the outputs that 01 defines.
use mathlib.Core.Path.{◌≡◌, refl, sym, ap, ap₂, ◌∙◌, subst, subst⁻¹}
use mathlib.Core.Bool.{true, false}
use mathlib.Core.List.{List, ◌++◌}
use Prim.Native.Nat.{ℕ, ◌<◌}
use lib.IntN.{ℤ}
use lib.Ieee.{Float}
use lib.ListN.{length, take, drop}
use lib.Seq.{take-append_seam}
use Rattle.theory.specs.Lists.{but_last}
use Rattle.theory.specs.Feeds as F
use Rattle.theory.proofs.Kept as K
use Rattle.theory.proofs.Machines.{all}
use Rattle.theory.proofs.Feeds.{promised, line_good}
use Rattle.theory.proofs.Kept.{kept}
use Rattle.refusal.specs.Outcome.{Outcome}
use Rattle.refusal.specs.declared.Moved.{Moved}
use Rattle.line.specs.Outputs.{Opening, Outputs}
use Rattle.line.specs.Openings.{valid, opened, opened_by, fresh}
use Rattle.line.specs.Line.{line, fed_line, feed_outcome, feed_span}
use Rattle.line.specs.inner.Together.{RanTo}
use Rattle.line.specs.Demand3.{History, none_yet, fed, line_of, taken_of, written_of, Kept, Defined, Demand3}
use Rattle.line.specs.declared.gauge_line.Line.{Line}
use Rattle.line.proofs.Lawful.{Good, line_lawful}
use Rattle.line.proofs.Cuts.{cuts_held}
use Rattle.line.proofs.Openings.{Accepted, accepted, fresh_valid, makes, one_list}

-- the same feeds, as the machine's theory has them
abbrev pub modelled : History → F.Feedings ℤ
modelled none_yet = F.opened
modelled (fed h xs span) = F.fed (modelled h) xs (length span)

-- a feed of a valid line, by what the machine's feed did
abbrev pub answered : F.Fed Line Float → Outcome Moved Line
answered f = record { number = 0; value = record { taken = f.taken; written = length f.written }; state = f.line }

abbrev pub spanned : F.Fed Line Float → List Float → List Float
spanned f span = f.written ++ drop (length f.written) span

pub outcome_is : (l : Line) (xs : List ℤ) (n : ℕ) → valid l ≡ true → feed_outcome l xs n ≡ answered (F.feed line l xs n)
unfolding feed_outcome fed_line
outcome_is l xs n v = rw v

pub span_is : (l : Line) (xs : List ℤ) (span : List Float) → valid l ≡ true → feed_span l xs span ≡ spanned (F.feed line l xs (length span)) span
unfolding feed_span fed_line
span_is l xs span v = rw v

module _ (o : Opening) (zero : (opened o).number ≡ 0) where
  pub ok : Accepted o
  ok = accepted o (unfold opened in zero)

  pub start : (opened o).state ≡ fresh o
  start = unfold opened in ap (λ (n : ℕ). opened_by n o) zero

  pub valid_fresh : valid (fresh o) ≡ true
  valid_fresh = fresh_valid o ok

  pub valid_at_lem : (h : F.Feedings ℤ) → valid (F.state_after line (fresh o) h) ≡ true
  valid_at_lem = line_good line 64 Good line_lawful (fresh o) valid_fresh

  pub same_line : (h : History) → line_of o h ≡ F.state_after line (fresh o) (modelled h)
  same_line none_yet = start
  same_line (fed h xs span) =
      ap (λ (l : Line). (feed_outcome l xs (length span)).state) (same_line h)
      ∙ ap (λ (r : Outcome Moved Line). r.state) (outcome_is (F.state_after line (fresh o) (modelled h)) xs (length span) (valid_at_lem (modelled h)))

  same_taken : (h : History) → taken_of o h ≡ F.taken_by_feeds line (fresh o) (modelled h)
  same_taken none_yet = refl
  same_taken (fed h xs span) =
      ap₂ {C = List ℤ} (λ (w : List ℤ) (n : ℕ). w ++ take n xs) (same_taken h)
      (ap (λ (l : Line). (feed_outcome l xs (length span)).value.taken) (same_line h)
      ∙ ap (λ (r : Outcome Moved Line). r.value.taken) (outcome_is (F.state_after line (fresh o) (modelled h)) xs (length span) (valid_at_lem (modelled h))))

  same_written : (h : History) → written_of o h ≡ F.written_by_feeds line (fresh o) (modelled h)
  same_written none_yet = refl
  same_written (fed h xs span) =
      let l = F.state_after line (fresh o) (modelled h) in
      let f = F.feed line l xs (length span) in
      let v = valid_at_lem (modelled h) in
      ap₂ {C = List Float} (λ (y z : List Float). y ++ z) (same_written h)
      (ap (λ (k : Line). take (feed_outcome k xs (length span)).value.written (feed_span k xs span)) (same_line h)
      ∙ ap₂ {C = List Float} (λ (r : Outcome Moved Line) (s : List Float). take r.value.written s) (outcome_is l xs (length span) v) (span_is l xs span v)
      ∙ take-append_seam f.written (drop (length f.written) span))

  defined : Defined o
  defined = record { some = λ w. (all line 64 (fresh o) w, makes o ok w); one = λ w a b. one_list o w a b }

  -- what the theorem on feeds promises, of the outputs that 01 defines
  module _ (h : F.Feedings ℤ) (xs : List ℤ) (before : List Float) where
    abbrev done : F.Fed Line Float
    done = F.feed line (F.state_after line (fresh o) h) xs (length before)

    model : K.Kept line (fresh o) (all line 64 (fresh o)) h xs before (spanned done before) done.taken (length done.written) done.line
    model = kept line (fresh o) (all line 64 (fresh o)) h Good xs before (promised line 64 Good line_lawful (fresh o) valid_fresh h xs (length before)) done refl

    abbrev samples : List ℤ
    samples = F.taken_by_feeds line (fresh o) h ++ take done.taken xs

    abbrev outputs : List Float
    outputs = F.written_by_feeds line (fresh o) h ++ take (length done.written) (spanned done before)

    model_kept : Kept o xs before (spanned done before) (answered done) samples outputs
    model_kept =
        record {
          not_refused = refl;
          taken_lent = model.taken_lent;
          written_in_span = model.written_in_span;
          behind = model.untouched;
          first = λ y d. model.first ∙ ap (take (length outputs)) (one_list o samples (all line 64 (fresh o) samples) y (makes o ok samples) d);
          unwritten = λ l. (subst⁻¹ (Outputs o samples) (model.unwritten l).0 (makes o ok samples), (model.unwritten l).1);
          filled = λ e p y d.
              subst (λ (z : List Float). length z < length outputs)
              (one_list o (but_last samples) (all line 64 (fresh o) (but_last samples)) y (makes o ok (but_last samples)) d)
              (model.filled e p);
          cuts = cuts_held o ok (F.fed h xs (length before));
        }

pub demanded :
    (l : Line) (xs : List ℤ) (before after : List Float) (told : Outcome Moved Line)
    → told ≡ feed_outcome l xs (length before) → after ≡ feed_span l xs before → Demand3 l xs before after told
unfolding Demand3
demanded l xs before after told et ea o h zero e =
    let k = F.state_after line (fresh o) (modelled h) in
    let at : l ≡ k = sym e ∙ same_line o zero h in
    let v : valid k ≡ true = valid_at_lem o zero (modelled h) in
    let t : told ≡ answered (F.feed line k xs (length before)) = et ∙ ap (λ (z : Line). feed_outcome z xs (length before)) at ∙ outcome_is k xs (length before) v in
    let a : after ≡ spanned (F.feed line k xs (length before)) before = ea ∙ ap (λ (z : Line). feed_span z xs before) at ∙ span_is k xs before v in
    (defined o zero, rw (t, a, same_taken o zero h, same_written o zero h) (model_kept o zero (modelled h) xs before))

-- the three clauses of a feed: of one that was refused, and of one that was not
pub refused :
    (l : Line) → valid l ≡ false → (xs : List ℤ) (span : List Float) → let told : Outcome Moved Line = record { number = 15; value = record { taken = 0; written = 0 }; state = l } in
    (told ≡ feed_outcome l xs (length span)) × (span ≡ feed_span l xs span) × Demand3 l xs span span told
unfolding feed_outcome feed_span
refused l v xs span = (rw v, rw v, demanded l xs span span _ (rw v) (rw v))

pub ran :
    (l : Line) → valid l ≡ true → {xs : List ℤ} {before after : List Float} {t w : ℕ} {k : Line} (told : Outcome Moved Line)
    → told ≡ record { number = 0; value = record { taken = t; written = w }; state = k } → RanTo l xs before after t w k
    → (told ≡ feed_outcome l xs (length before)) × (after ≡ feed_span l xs before) × Demand3 l xs before after told
unfolding feed_outcome feed_span
ran l v {xs} {before} {after} {t} {w} {k} told et r =
    let er : told ≡ feed_outcome l xs (length before) = rw (v, et, r.took, r.wrote, r.line) in
    let ea : after ≡ feed_span l xs before = rw v r.span in
    (er, ea, demanded l xs before after told er ea)
