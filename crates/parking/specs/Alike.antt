-- 02, request 6, of a line that was lent with anything in the places that no parking writes (those behind what the settings use, and parts that are off): parked and taken
-- up, it goes on as it would have, although the records differ there.
use Rattle.std.specs.Prelude.{◌≡◌, List, ℕ, ◌<◌, ℤ, Float, length}
use Rattle.std.specs.Int.{w16, w32}
use Rattle.std.proofs.Common.{SFits}
use Rattle.nonrecursive.specs.NonrecursiveDecimator.{most_neighbours}
use Rattle.line.specs.Line.{feed_outcome, feed_span}
use Rattle.line.specs.Demand3.{History, none_yet, fed}
use Rattle.line.specs.declared.gauge_line.Line.{Line}
use Rattle.words.specs.Fields.{All, IsFloat}
use Rattle.parking.specs.Lengths.{ArrayLengths}

-- a record has its types: arrays of their lengths, integers and floats in their widths
pub record LineTyped (l : Line) : Type 0 where
  pub arrays : ArrayLengths l.cic l.fir l.half_band l.resampler
  pub integrators : All (SFits w32) l.cic.integrator_state
  pub combs : All (SFits w32) l.cic.comb_state
  pub neighbours_long : length l.neighbours ≡ most_neighbours
  pub neighbours : All (SFits w32) l.neighbours
  pub taps : All (SFits w16) l.fir.taps
  pub fir_delay : All (SFits w16) l.fir.delay
  pub delays : All IsFloat l.half_band.delays
  pub held : All IsFloat l.half_band.held
  pub delay : All IsFloat l.resampler.delay
  pub prototype : All IsFloat l.resampler.prototype
  pub mu : IsFloat l.resampler.mu
  pub step : IsFloat l.resampler.step
  pub cuts : l.cuts < 4294967296

-- the line after feeds
abbrev pub fed_on : Line → History → Line
fed_on l none_yet = l
fed_on l (fed h xs span) = (feed_outcome (fed_on l h) xs (length span)).state

-- after any feeds, a feed more answers alike and leaves the same span, and the cut counts are the same
pub record GoesOnAlike (l k : Line) : Type 0 where
  pub numbers : (h : History) (xs : List ℤ) (places : ℕ) → (feed_outcome (fed_on l h) xs places).number ≡ (feed_outcome (fed_on k h) xs places).number
  pub answers : (h : History) (xs : List ℤ) (places : ℕ) → (feed_outcome (fed_on l h) xs places).value ≡ (feed_outcome (fed_on k h) xs places).value
  pub outputs : (h : History) (xs : List ℤ) (span : List Float) → feed_span (fed_on l h) xs span ≡ feed_span (fed_on k h) xs span
  pub cuts : (h : History) → (fed_on l h).cuts ≡ (fed_on k h).cuts
