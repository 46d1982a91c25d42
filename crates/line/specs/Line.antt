-- 01, section 6: the sections one before the other, as one machine over the line's own record, and what a step and a feed come to.
use Rattle.std.specs.Prelude.{Bool, cond, List, ℕ, ◌+◌, length, ℤ, Float, Option, None, Some, Result, Ok, Err}
use Rattle.std.specs.Int.{w16}
use Rattle.theory.specs.Lists.{in_front}
use Rattle.theory.specs.Machines.{Machine, viewed}
use Rattle.theory.specs.Tally.{tallied}
use Rattle.theory.specs.Feeds as F
use Rattle.refusal.specs.Outcome.{Outcome, number_in}
use Rattle.refusal.specs.declared.Refusal.{Refusal}
use Rattle.refusal.specs.declared.Moved.{Moved}
use Rattle.nonrecursive.specs.EitherKind.{either}
use Rattle.q15.specs.Fixed.{cut, cut_one}
use Rattle.q15.specs.FirDecimator.{fir, fir_sum_out}
use Rattle.q15.specs.declared.fir_decimator.FirDecimator.{FirDecimator}
use Rattle.chain.specs.Chain.{Parts, chain}
use Rattle.chain.specs.Cuts.{most_cuts}
use Rattle.line.specs.declared.gauge_line.Line.{Line}
use Rattle.line.specs.declared.step.LineStep.{LineStep}
use Rattle.line.specs.declared.step.LineStep.TheVariants as step
use Rattle.line.specs.Openings.{thinner_of, valid}

abbrev pub parts_of : Line → Parts
parts_of l = (thinner_of l, (tt, (l.fir, (tt, (l.half_band, l.resampler)))))

-- the same with the count of cut values
abbrev pub counted_of : Line → Parts × ℕ
counted_of l = (parts_of l, l.cuts)

abbrev pub of_counted : Parts × ℕ → Line
of_counted p =
    record {
      thinning = p.0.0.kind;
      cic = p.0.0.cic;
      neighbours = p.0.0.neighbours;
      fir = p.0.1.1.0;
      half_band = p.0.1.1.1.1.0;
      resampler = p.0.1.1.1.1.1;
      cuts = p.1;
    }

-- 02, §4: how many values are cut where a scaled sum reaches sections 2 and 3: the sum itself, and the FIR's, if it makes one
abbrev pub sum_cut : Option ℤ → ℕ
sum_cut None = 0
sum_cut (Some z) = cut_one w16 z

abbrev pub cuts_for : FirDecimator → Option ℤ → ℕ
cuts_for s None = 0
cuts_for s (Some v) = cut_one w16 v + sum_cut (fir_sum_out s (cut w16 v))

-- and where a sample is taken
abbrev pub cuts_at : Parts → ℤ → ℕ
cuts_at p x = cuts_for p.1.1.0 (either.out p.0 x)

abbrev pub line : Machine Line ℤ Float
line = viewed (tallied most_cuts cuts_at chain) counted_of of_counted

-- each case of LineStep in the words of section 6: "it took a sample, wrote one float sample, did both, or stopped"
abbrev pub event_of : LineStep → F.Event Float
event_of step.Took = F.took
event_of (step.Wrote y) = F.wrote y
event_of (step.TookAndWrote y) = F.both y
event_of step.Stopped = F.stopped

-- and of a step that may be refused, which then stopped
abbrev pub event_in : Result LineStep Refusal → F.Event Float
event_in (Ok s) = event_of s
event_in (Err q) = F.stopped

abbrev pub told_step : Result LineStep Refusal → Line → Outcome (F.Event Float) Line
told_step r l = record { number = number_in r; value = event_in r; state = l }

-- one step, with a place of the span left or not, and the next sample if there is one
unfoldable pub step_outcome : Line → Bool → Option ℤ → Outcome (F.Event Float) Line
step_outcome l place x =
    cond (valid l)
    (record { number = 0; value = (F.step line place l x).event; state = (F.step line place l x).line })
    (record { number = 15; value = F.stopped; state = l })

-- a feed: "steps until stopped and gives counts taken and written"; and the span that it leaves
unfoldable pub fed_line : Line → List ℤ → ℕ → F.Fed Line Float
fed_line l xs places = F.feed line l xs places

unfoldable pub feed_outcome : Line → List ℤ → ℕ → Outcome Moved Line
feed_outcome l xs places =
    cond (valid l)
    (record { number = 0; value = record { taken = (fed_line l xs places).taken; written = length (fed_line l xs places).written }; state = (fed_line l xs places).line })
    (record { number = 15; value = record { taken = 0; written = 0 }; state = l })

unfoldable pub feed_span : Line → List ℤ → List Float → List Float
feed_span l xs span =
    cond (valid l)
    (in_front (fed_line l xs (length span)).written span)
    span
