-- The counts of a feed of the line follow from its clock: the resampler's clock, slowed by each section in front of it. So feed after feed of a freshly opened line,
-- whatever the samples.
use mathlib.Core.Path.{◌≡◌, refl, ap, ap₂, ◌∙◌}
use mathlib.Core.Bool.{Bool, true, false, cond, not, ◌&&◌}
use mathlib.Core.List.{List, [], ◌∷◌, map}
use Rattle.std.specs.Prelude.{Option, None, Some}
use Prim.Native.Nat.{ℕ}
use native.Mathlib.Omega.{arith}
use lib.Dec.{eqb}
use lib.IntN.{ℤ}
use lib.Ieee.{Float, binary32, add, sub, lt}
use lib.ListN.{length}
use mir.Syntax.{w16}
use Rattle.theory.specs.Sections.{each}
use Rattle.theory.specs.Machines.{before}
use Rattle.theory.specs.Tally.{tallied}
use Rattle.theory.specs.Feeds as F
use Rattle.theory.proofs.Feeds.{feed_right}
use Rattle.theory.proofs.FeedRules.{feed_keeps}
use Rattle.refusal.specs.Outcome.{Outcome}
use Rattle.refusal.specs.declared.Moved.{Moved}
use Rattle.nonrecursive.specs.EitherKind as E
use Rattle.q15.specs.Fixed.{cut}
use Rattle.q15.specs.FirDecimator.{fir}
use Rattle.q15.specs.declared.fir_decimator.FirDecimator.{FirDecimator}
use Rattle.half_band.specs.HbfStream.{hbf_stream}
use Rattle.half_band.specs.declared.hbf_stream.HbfStream.{HbfStream}
use Rattle.float.specs.F32.{one32}
use Rattle.float.specs.Level.{level}
use Rattle.float.specs.PolyphaseResamp.{in_line, is_on, passed, consumed}
use Rattle.float.specs.declared.polyphase_resamp.PolyphaseResampF32.{PolyphaseResampF32}
use Rattle.chain.specs.Chain.{Parts, from3, from4, from5, chain}
use Rattle.chain.specs.Cuts.{most_cuts}
use Rattle.line.specs.Openings.{valid}
use Rattle.line.specs.Line.{parts_of, counted_of, of_counted, cuts_at, line}
use Rattle.line.specs.declared.gauge_line.Line.{Line}
use Rattle.line.proofs.Lawful.{Good, line_lawful}
use Rattle.line.proofs.Demanded.{outcome_is}
use Rattle.plan.specs.Plan.{feed_counts}
use Rattle.plan.specs.inner.Ticking.{pace_by, due_at, behind_output, behind_value, at_once, ticking, slowed, count_feed, count_feeds}
use Rattle.plan.specs.declared.counting.Clock.{Clock}
use Rattle.plan.specs.declared.counting.Pace.{Pace}
use Rattle.theory.proofs.Counting.{came}
use Rattle.plan.proofs.Clocks.{Counts, counts_before, counts_each, counts_tallied, counts_viewed, SameCounts, feed_counts_lem}
use Rattle.chain.proofs.Sections.{by_cond, ThinGood, thin_left, thin_period, thin_down, FirGood, fir_left, fir_period, fir_down, HalfGood, half_left, half_period, half_down}

-- ---- the line, section by section from the last
abbrev only : Option Pace → Clock
only p = record { left = 1; period = 1; pace = p }

abbrev pub clock5 : PolyphaseResampF32 → Clock
clock5 s = only (pace_by (eqb s.phases 0) s.step s.mu)

counts5 : Counts from5 clock5 (λ s. Unit {0})
unfolding in_line is_on passed consumed ticking
counts5 =
    record {
      good_after = λ s g. tt;
      good_next = λ s x g. tt;
      some_period = λ s g. omega arith;
      due_same = λ s g. due (eqb s.phases 0) s.step s.mu;
      after_same = λ s g. ap only (after (eqb s.phases 0) s.step s.mu);
      next_same = λ s x g. by_cond clock5 (not (eqb s.phases 0)) (consumed s x) s ∙ next (eqb s.phases 0) s.step s.mu;
      now_same = λ s x g. now x (eqb s.phases 0) s.step s.mu;
    }
  where
    due : (off : Bool) (step mu : Float) → (not off && lt mu one32) ≡ due_at (pace_by off step mu)
    due true step mu = refl
    due false step mu = refl

    after : (off : Bool) (step mu : Float) → pace_by off step (add binary32 mu step) ≡ behind_output (pace_by off step mu)
    after true step mu = refl
    after false step mu = refl

    next :
        (off : Bool) (step mu : Float)
        → cond (not off) (only (pace_by off step (sub binary32 mu one32))) (only (pace_by off step mu)) ≡ only (behind_value (pace_by off step mu))
    next true step mu = refl
    next false step mu = refl

    now : (x : Float) (off : Bool) (step mu : Float) → came (cond (not off) None (Some x)) ≡ came (at_once (pace_by off step mu))
    now x true step mu = refl
    now x false step mu = refl

abbrev Good4 : HbfStream × PolyphaseResampF32 → Type 0
Good4 p = HalfGood p.0 × Unit {0}

abbrev clock4 : HbfStream × PolyphaseResampF32 → Clock
clock4 p = slowed (half_left p.0) (half_period p.0) (clock5 p.1)

counts4 : Counts from4 clock4 Good4
counts4 = counts_before hbf_stream from5 half_left half_period clock5 HalfGood (λ s. Unit {0}) half_down counts5

abbrev Good3 : FirDecimator × (Unit {0} × (HbfStream × PolyphaseResampF32)) → Type 0
Good3 p = FirGood p.0 × Good4 p.1.1

abbrev clock3 : FirDecimator × (Unit {0} × (HbfStream × PolyphaseResampF32)) → Clock
clock3 p = slowed (fir_left p.0) (fir_period p.0) (clock4 p.1.1)

counts3 : Counts from3 clock3 Good3
counts3 =
    counts_before fir (before (each level) from4) fir_left fir_period (λ p. clock4 p.1) FirGood (λ p. Good4 p.1) fir_down
    (counts_each level from4 clock4 Good4 counts4)

abbrev Good1 : Parts → Type 0
Good1 p = ThinGood p.0 × Good3 p.1.1

abbrev clock1 : Parts → Clock
clock1 p = slowed (thin_left p.0) (thin_period p.0) (clock3 p.1.1)

counts1 : Counts chain clock1 Good1
counts1 =
    counts_before E.either (before (each (cut w16)) from3) thin_left thin_period (λ p. clock3 p.1) ThinGood (λ p. Good3 p.1) thin_down
    (counts_each (cut w16) from3 clock3 Good3 counts3)

abbrev pub Runs : Line → Type 0
Runs l = Good1 (parts_of l)

abbrev pub clock_of : Line → Clock
clock_of l = clock1 (parts_of l)

pub line_counts : Counts line clock_of Runs
line_counts =
    counts_viewed (tallied most_cuts cuts_at chain) counted_of of_counted (λ p. refl) (λ p. clock1 p.0) (λ p. Good1 p.0) (counts_tallied most_cuts cuts_at chain clock1 Good1 counts1)

-- ---- feed after feed
pub fed_counts : (l : Line) (xs : List ℤ) (n : ℕ) → Runs l → SameCounts clock_of (F.feed line l xs n) (count_feed (clock_of l) (length xs) n)
unfolding count_feed
fed_counts l xs n g = feed_counts_lem line clock_of Runs line_counts l xs n g

-- the counts of a valid line's feeds are those of its clock, on every choice of samples
pub feeds_counted : (samples : List (List ℤ)) (spans : List ℕ) (l : Line) → valid l ≡ true → Runs l → feed_counts l samples spans ≡ count_feeds (clock_of l) (map length samples) spans
feeds_counted [] spans l v g = refl
feeds_counted (xs ∷ samples) [] l v g = refl
feeds_counted (xs ∷ samples) (n ∷ spans) l v g =
    let f = F.feed line l xs n in
    let c = fed_counts l xs n g in
    let o = outcome_is l xs n v in
    let k : Runs f.line = feed_keeps line Runs (λ s q e. line_counts.good_after s q) (λ s a q e. line_counts.good_next s a q) l xs n g in
    ap₂ {C = List Moved} (λ (m : Moved) (r : List Moved). m ∷ r)
    (ap (λ (r : Outcome Moved Line). r.value) o
    ∙ ap₂ {C = Moved} (λ (a b : ℕ). record { taken = a; written = b }) c.taken c.written)
    (ap (λ (r : Outcome Moved Line). feed_counts r.state samples spans) o
    ∙ feeds_counted samples spans f.line (feed_right line 64 Good line_lawful l xs n v).good k
    ∙ ap (λ (q : Clock). count_feeds q (map length samples) spans) c.line)
