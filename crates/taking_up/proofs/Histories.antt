-- What is taken up as the definition says is the line never parked, for every history that led to the sheet, one that goes on as any line that was parked to it, and one that
-- parks to its entries.
use mathlib.Core.Path.{◌≡◌, refl, sym, ap, ◌∙◌, subst}
use mathlib.Core.List.{List}
use Prim.Native.Nat.{ℕ, ◌≤◌}
use native.Mathlib.Omega.{arith}
use lib.ListN.{length}
use Rattle.refusal.specs.Outcome.{Opened}
use Rattle.q15.specs.FirDecimator.{most_taps}
use Rattle.line.specs.Outputs.{Opening}
use Rattle.line.specs.Openings.{opened}
use Rattle.line.specs.Demand3 as D
use Rattle.line.specs.declared.gauge_line.Line.{Line}
use Rattle.parking.specs.Parked.{panel}
use Rattle.parking.specs.Parking.{park_number, taken_up}
use Rattle.parking.specs.Alike.{LineTyped, GoesOnAlike}
use Rattle.parking.specs.Between.{Typed, sheet_in, PanelHistory, unparked, line_after}
use Rattle.taking_up.specs.TakenBack.{TakenBack}
use Rattle.taking_up.specs.AsParked.{AsParked}
use Rattle.parking.specs.Older.{StillTaken}
use Rattle.parking.proofs.Taken.{sheet_in_lem, taken_from}
use Rattle.parking.proofs.Trimmed.{parks_valid, lent_goes_on}
use Rattle.parking.proofs.Older.{still_taken_up}
use Rattle.taking_up.proofs.Accepted.{as_parked}

pub taken_twice : (b : List ℕ) (r : Opened Line) → r ≡ taken_up panel b → (r ≡ taken_up panel b) × (TakenBack b r × (AsParked b r × StillTaken b r))
taken_twice b r e = (e, (record { back = back; lent = lent }, (as_parked b r e, still_taken_up b r e)))
  where
    limit : most_taps ≤ panel.most_taps
    limit = omega arith

    back :
        (o : Opening) (h : PanelHistory) (span : List ℕ) → (opened o).number ≡ 0 → Typed o → park_number panel (line_after panel o h) (length span) ≡ 0 → b ≡ sheet_in panel (line_after panel o h) span
        → r ≡ record { number = 0; state = D.line_of o (unparked h) }
    back o h span z t p q = e ∙ ap (taken_up panel) q ∙ taken_from panel limit refl o z t h span p

    lent : (l : Line) (span : List ℕ) → LineTyped l → park_number panel l (length span) ≡ 0 → b ≡ sheet_in panel l span → (r.number ≡ 0) × GoesOnAlike l r.state
    lent l span t p q =
        subst (λ (z : Opened Line). (z.number ≡ 0) × GoesOnAlike l z.state) (sym (e ∙ ap (taken_up panel) (q ∙ sheet_in_lem panel l span p)))
        (lent_goes_on l (parks_valid panel l (length span) p) t panel limit refl)
