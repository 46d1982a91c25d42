-- A line of neighbours and one of integrators answer every list of feeds alike: what 01 defines for the samples taken does not name the kind, and the counts follow from
-- a clock that both have.
use mathlib.Core.Path.{◌≡◌, refl, sym, ap, ap₂, ◌∙◌}
use mathlib.Core.List.{List, ◌++◌}
use Prim.Native.Nat.{ℕ, zero, suc, ◌+◌}
use lib.IntN.{ℤ}
use lib.Ieee.{Float}
use lib.ListN.{length, take, drop, length-append}
use lib.Seq.{drop_at}
use Rattle.theory.specs.Feeds as F
use Rattle.theory.proofs.Machines.{all}
use Rattle.theory.proofs.Feeds.{promised}
use Rattle.theory.proofs.FeedRules.{feed_keeps}
use Rattle.refusal.specs.Outcome.{Outcome}
use Rattle.refusal.specs.declared.Moved.{Moved}
use Rattle.nonrecursive.specs.declared.thinning.Thinning.{Thinning}
use Rattle.line.specs.Outputs.{Opening, levels, Resampled, Outputs, cuts_of, held_cuts}
use Rattle.line.specs.Openings.{opened, resampler_fresh, fresh}
use Rattle.line.specs.Line.{line, feed_outcome, feed_span}
use Rattle.line.specs.declared.gauge_line.Line.{Line}
use Rattle.line.proofs.Lawful.{Good, line_lawful}
use Rattle.line.proofs.Openings.{makes, one_list}
use Rattle.line.proofs.Cuts.{cuts_held}
use Rattle.line.proofs.Demanded.{modelled, outcome_is, span_is, ok, valid_fresh, valid_at_lem, same_line}
use Rattle.plan.specs.SameFeeds.{of_kind, SameFeeds}
use Rattle.plan.specs.inner.Ticking.{count_feed}
use Rattle.plan.specs.declared.counting.Clock.{Clock}
use Rattle.plan.proofs.LineClock.{clock_of, Runs, line_counts, fed_counts}
use Rattle.plan.proofs.Start.{fresh_runs}

-- two feeds of the same samples, from lines with the same clock
record Alike (f g : F.Fed Line Float) : Type 0 where
  taken : f.taken ≡ g.taken
  written : length f.written ≡ length g.written
  clock : clock_of f.line ≡ clock_of g.line

feeds_alike : (l k : Line) (xs : List ℤ) (n : ℕ) → Runs l → Runs k → clock_of l ≡ clock_of k → Alike (F.feed line l xs n) (F.feed line k xs n)
feeds_alike l k xs n v u e =
    let a = fed_counts l xs n v in
    let b = fed_counts k xs n u in
    let same = ap (λ (c : Clock). count_feed c (length xs) n) e in
    record {
      taken = a.taken ∙ ap (λ (f : F.Fed Clock (Unit {0})). f.taken) same ∙ sym b.taken;
      written = a.written ∙ ap (λ (f : F.Fed Clock (Unit {0})). length f.written) same ∙ sym b.written;
      clock = a.line ∙ ap (λ (f : F.Fed Clock (Unit {0})). f.line) same ∙ sym b.line;
    }

runs_on : (l : Line) (xs : List ℤ) (n : ℕ) → Runs l → Runs (F.feed line l xs n).line
runs_on = feed_keeps line Runs (λ s q e. line_counts.good_after s q) (λ s a q e. line_counts.good_next s a q)

module _ (o : Opening) (k : Thinning) (e : (opened o).number ≡ 0) (e' : (opened (of_kind k o)).number ≡ 0) where
  abbrev p : Opening
  p = of_kind k o

  -- the two lines after the feeds h
  abbrev one : F.Feedings ℤ → Line
  one h = F.state_after line (fresh o) h

  abbrev other : F.Feedings ℤ → Line
  other h = F.state_after line (fresh p) h

  runs_one : (h : F.Feedings ℤ) → Runs (one h)
  runs_one F.opened = fresh_runs o e
  runs_one (F.fed h xs n) = runs_on (one h) xs n (runs_one h)

  runs_other : (h : F.Feedings ℤ) → Runs (other h)
  runs_other F.opened = fresh_runs p e'
  runs_other (F.fed h xs n) = runs_on (other h) xs n (runs_other h)

  -- they have taken and written as many
  record Level (h : F.Feedings ℤ) : Type 0 where
    clock : clock_of (one h) ≡ clock_of (other h)
    taken : F.taken_by_feeds line (fresh o) h ≡ F.taken_by_feeds line (fresh p) h
    long : length (F.written_by_feeds line (fresh o) h) ≡ length (F.written_by_feeds line (fresh p) h)

  alike : (h : F.Feedings ℤ) → Level h
  unfolding fresh resampler_fresh
  alike F.opened = record { clock = refl; taken = refl; long = refl }
  alike (F.fed h xs n) =
      let a = alike h in
      let f = feeds_alike (one h) (other h) xs n (runs_one h) (runs_other h) a.clock in
      record {
        clock = f.clock;
        taken = ap₂ {C = List ℤ} (λ (w : List ℤ) (j : ℕ). w ++ take j xs) a.taken f.taken;
        long =
            length-append (F.written_by_feeds line (fresh o) h) (F.feed line (one h) xs n).written
            ∙ ap₂ {C = ℕ} (λ (i j : ℕ). i + j) a.long f.written
            ∙ sym (length-append (F.written_by_feeds line (fresh p) h) (F.feed line (other h) xs n).written);
      }

  -- 01 defines the same outputs for both
  defined_same : (v y : List Float) (n : ℕ) → Resampled n p v y → Resampled n o v y
  defined_same v y zero d = d
  defined_same v y (suc n) d = d

  all_same : (w : List ℤ) → all line 64 (fresh o) w ≡ all line 64 (fresh p) w
  unfolding Outputs levels
  all_same w = one_list o w _ _ (makes o (ok o e) w) (defined_same (levels o w) _ o.settings.phases (makes p (ok p e') w))

  written_same : (h : F.Feedings ℤ) → F.written_by_feeds line (fresh o) h ≡ F.written_by_feeds line (fresh p) h
  written_same F.opened = refl
  written_same (F.fed h xs n) =
      let a = alike (F.fed h xs n) in
      let w = F.taken_by_feeds line (fresh o) (F.fed h xs n) in
      (promised line 64 Good line_lawful (fresh o) (valid_fresh o e) h xs n).first
      ∙ ap₂ {C = List Float} (λ (j : ℕ) (y : List Float). take j y) a.long (all_same w ∙ ap (all line 64 (fresh p)) a.taken)
      ∙ sym (promised line 64 Good line_lawful (fresh p) (valid_fresh p e') h xs n).first

  -- what one feed more writes
  fed_same : (h : F.Feedings ℤ) (xs : List ℤ) (n : ℕ) → (F.feed line (one h) xs n).written ≡ (F.feed line (other h) xs n).written
  fed_same h xs n =
      sym (drop_at (F.written_by_feeds line (fresh o) h) (F.feed line (one h) xs n).written (length (F.written_by_feeds line (fresh p) h)) (alike h).long)
      ∙ ap (drop (length (F.written_by_feeds line (fresh p) h))) (written_same (F.fed h xs n))
      ∙ drop_at (F.written_by_feeds line (fresh p) h) (F.feed line (other h) xs n).written (length (F.written_by_feeds line (fresh p) h)) refl

  -- `SameFeeds` of specs/SameFeeds, which docs/believed.md lists
  pub same_feeds : SameFeeds o p
  unfolding held_cuts cuts_of
  same_feeds =
      record {
        counts = λ h xs n.
            let m = modelled h in
            let f = feeds_alike (one m) (other m) xs n (runs_one m) (runs_other m) (alike m).clock in
            ap (λ (l : Line). (feed_outcome l xs n).value) (same_line o e h)
            ∙ ap (λ (r : Outcome Moved Line). r.value) (outcome_is (one m) xs n (valid_at_lem o e m))
            ∙ ap₂ {C = Moved} (λ (i j : ℕ). record { taken = i; written = j }) f.taken f.written
            ∙ sym (ap (λ (r : Outcome Moved Line). r.value) (outcome_is (other m) xs n (valid_at_lem p e' m)))
            ∙ sym (ap (λ (l : Line). (feed_outcome l xs n).value) (same_line p e' h));
        spans = λ h xs span.
            let m = modelled h in
            ap (λ (l : Line). feed_span l xs span) (same_line o e h)
            ∙ span_is (one m) xs span (valid_at_lem o e m)
            ∙ ap (λ (y : List Float). y ++ drop (length y) span) (fed_same m xs (length span))
            ∙ sym (span_is (other m) xs span (valid_at_lem p e' m))
            ∙ sym (ap (λ (l : Line). feed_span l xs span) (same_line p e' h));
        cuts = λ h.
            let m = modelled h in
            ap (λ (l : Line). l.cuts) (same_line o e h)
            ∙ cuts_held o (ok o e) m ∙ ap (held_cuts o) (alike m).taken
            ∙ sym (cuts_held p (ok p e') m)
            ∙ sym (ap (λ (l : Line). l.cuts) (same_line p e' h));
      }
