-- 02, request 6: "A line that is parked and taken up between any two feeds gives the answers, outputs and cut counts of one never parked."
use Rattle.std.specs.Prelude.{◌≡◌, cond, List, ℕ, ◌≤◌, ℤ, Float, eqb, length, take}
use Rattle.std.specs.Int.{w16}
use Rattle.std.proofs.Common.{SFits}
use Rattle.line.specs.Outputs.{Opening}
use Rattle.line.specs.Openings.{opened, reset}
use Rattle.line.specs.Line.{feed_outcome, feed_span}
use Rattle.line.specs.Demand3 as D
use Rattle.line.specs.declared.gauge_line.Line.{Line}
use Rattle.words.specs.Fields.{All, IsFloat}
use Rattle.parking.specs.Parked.{Panel}
use Rattle.parking.specs.Parking.{parked_line, park_number, park_answer, park_span, taken_up}

-- what is lent to an opening has its types: 16-bit taps, and f32
pub record Typed (o : Opening) : Type 0 where
  pub taps : All (SFits w16) o.taps
  pub prototype : All IsFloat o.prototype
  pub step : IsFloat o.settings.step

-- the bytes that a line parked into a span leaves in its front, as many as parking answered
abbrev pub sheet_in : Panel → Line → List ℕ → List ℕ
sheet_in v l span = take (park_answer v l (length span)).value (park_span v l span)

-- the feeds since the opening and the parkings between them, any number anywhere, the latest outermost; each feed with its samples and its span, each parking with
-- its span
pub data PanelHistory : Type 0 where
  none_yet : PanelHistory
  fed : PanelHistory → List ℤ → List Float → PanelHistory
  parked : PanelHistory → List ℕ → PanelHistory

-- the same feeds, with no parking between them
abbrev pub unparked : PanelHistory → D.History
unparked none_yet = D.none_yet
unparked (fed h xs span) = D.fed (unparked h) xs span
unparked (parked h span) = unparked h

-- the line after them: a parked one is taken up from the front of its span; one that is refused its parking stays
module _ (v : Panel) (o : Opening) where
  abbrev pub line_after : PanelHistory → Line
  line_after none_yet = (opened o).state
  line_after (fed h xs span) = (feed_outcome (line_after h) xs (length span)).state
  line_after (parked h span) = cond (eqb (park_number v (line_after h) (length span)) 0) (taken_up v (sheet_in v (line_after h) span)).state (line_after h)

-- after the history h, of a line that panel v parks and takes up, against one never parked
pub record AsNeverParked (v : Panel) (o : Opening) (h : PanelHistory) : Type 0 where
  -- it may be parked into every span that has room for its sheet
  pub parks : (span : List ℕ) → length (parked_line v (line_after v o h)) ≤ length span → park_number v (line_after v o h) (length span) ≡ 0
  -- what was parked is taken up, and parked again gives the same bytes
  pub takes_up : (span : List ℕ) → park_number v (line_after v o h) (length span) ≡ 0 → taken_up v (sheet_in v (line_after v o h) span) ≡ record { number = 0; state = D.line_of o (unparked h) }
  pub parks_again : (span : List ℕ) → park_number v (line_after v o h) (length span) ≡ 0 → park_span v (taken_up v (sheet_in v (line_after v o h) span)).state span ≡ park_span v (line_after v o h) span
  -- every feed after it answers alike, and leaves the same span and line; a reset too
  pub answers : (xs : List ℤ) (places : ℕ) → feed_outcome (line_after v o h) xs places ≡ feed_outcome (D.line_of o (unparked h)) xs places
  pub outputs : (xs : List ℤ) (span : List Float) → feed_span (line_after v o h) xs span ≡ feed_span (D.line_of o (unparked h)) xs span
  pub resets : reset (line_after v o h) ≡ reset (D.line_of o (unparked h))
  -- and so it does after any feeds more, since the record is the same, the cut count with it
  pub same_cuts : (line_after v o h).cuts ≡ (D.line_of o (unparked h)).cuts
  pub same_line : line_after v o h ≡ D.line_of o (unparked h)
