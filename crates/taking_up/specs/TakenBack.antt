-- 02, request 6: what is taken up of a sheet that parking wrote.
use Rattle.std.specs.Prelude.{◌≡◌, List, ℕ, length}
use Rattle.refusal.specs.Outcome.{Opened}
use Rattle.line.specs.Outputs.{Opening}
use Rattle.line.specs.Openings.{opened}
use Rattle.line.specs.Demand3 as D
use Rattle.line.specs.declared.gauge_line.Line.{Line}
use Rattle.parking.specs.Parked.{panel}
use Rattle.parking.specs.Parking.{park_number}
use Rattle.parking.specs.Alike.{LineTyped, GoesOnAlike}
use Rattle.parking.specs.Between.{Typed, sheet_in, PanelHistory, unparked, line_after}

-- what is answered of the bytes b: where they are what a line after a history, with any parkings in it, left in front of a span that it was parked into, the line
-- of the same feeds with none
pub record TakenBack (b : List ℕ) (r : Opened Line) : Type 0 where
  pub back :
      (o : Opening) (h : PanelHistory) (span : List ℕ) → (opened o).number ≡ 0 → Typed o → park_number panel (line_after panel o h) (length span) ≡ 0 → b ≡ sheet_in panel (line_after panel o h) span
      → r ≡ record { number = 0; state = D.line_of o (unparked h) }
  -- and where they are what any line left there, whatever stands in the places that no parking writes, a line that goes on as it
  pub lent : (l : Line) (span : List ℕ) → LineTyped l → park_number panel l (length span) ≡ 0 → b ≡ sheet_in panel l span → (r.number ≡ 0) × GoesOnAlike l r.state
