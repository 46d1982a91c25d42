-- 02, request 7: "Sheets parked earlier are still taken up. A line of up to 64 taps is parked to the same bytes as before, and an older panel given a longer one answers 15,
-- never a shortened filter." And request 9, for panels whose sheets have no mark, and request 13, for panels
-- that know no neighbours. The older panels are `at6`, `at7` and `at9`: the same definition at their limits and their rule.
use Rattle.std.specs.Prelude.{◌≡◌, List, ℕ, ◌≤◌, ◌<◌, take}
use Rattle.refusal.specs.Outcome.{Opened}
use Rattle.nonrecursive.specs.declared.thinning.Thinning.TheVariants as thinning
use Rattle.q15.specs.FirDecimator.{fir_state}
use Rattle.line.specs.Openings as L
use Rattle.line.specs.declared.gauge_line.Line.{Line}
use Rattle.sheet.specs.Sheet.{former, le16, mark, marked}
use Rattle.parking.specs.Parked.{Panel, at6, at7, at9, panel}
use Rattle.parking.specs.Parking.{parked_line, taken_up_number, taken_up}

-- a line as a panel has it whose FIR holds `most` taps: the arrays are that long
unfoldable pub held_by : ℕ → Line → Line
held_by most l =
    record {
      thinning = l.thinning;
      cic = l.cic;
      neighbours = l.neighbours;
      fir = fir_state (take most l.fir.taps) l.fir.tap_count l.fir.factor (take most l.fir.delay) l.fir.wait;
      half_band = l.half_band;
      resampler = l.resampler;
      cuts = l.cuts;
    }

-- of the bytes b that line l was parked to
pub record ForOlder (l : Line) (b : List ℕ) : Type 0 where
  -- request 9: "But for that bit, the bytes that §7 keeps are kept"
  pub but_for_the_mark : b ≡ marked (parked_line at7 l)
  -- request 7: "A line of up to 64 taps is parked to the same bytes as before"
  pub same_bytes : l.fir.tap_count ≤ at6.most_taps → b ≡ marked (parked_line at6 (held_by at6.most_taps l))
  -- request 9: "A reader made before this answers a new sheet with 16"
  pub unread : (v : Panel) → v.rule ≡ former → taken_up v b ≡ record { number = 16; state = L.zeros }
  -- request 7, of the sheet without the mark: "an older panel given a longer one answers 15, never a shortened filter"
  pub longer : l.thinning ≡ thinning.Integrators → at6.most_taps < l.fir.tap_count → taken_up at6 (parked_line at7 l) ≡ record { number = 15; state = L.zeros }
  -- request 13: a line of integrators is parked as before; one of neighbours in eight entries, "so a panel made after §9 and before this answers 21"
  pub as_before : l.thinning ≡ thinning.Integrators → b ≡ parked_line at9 l
  pub eight : l.thinning ≡ thinning.Neighbours → taken_up at9 b ≡ record { number = 21; state = L.zeros }

-- a panel that reads a sheet under the former rule
abbrev pub formerly : Panel → Panel
formerly v = record { most_taps = v.most_taps; rule = former; thinning = v.thinning }

-- of what is answered of the bytes b
pub record StillTaken (b : List ℕ) (r : Opened Line) : Type 0 where
  -- request 7: what the older panel takes up is taken up, as the same line
  pub still : taken_up_number at6 b ≡ 0 → r ≡ taken_up at6 b
  -- request 9: "sheets made before this are checked under the former rule, marked by the lack of the top bit"
  pub unmarked : le16 b 0 < mark → r ≡ taken_up (formerly panel) b
  -- what the panels of requests 7 and 9 take up is taken up too, as the same line
  pub still_seven : taken_up_number at7 b ≡ 0 → r ≡ taken_up at7 b
  pub still_nine : taken_up_number at9 b ≡ 0 → r ≡ taken_up at9 b
