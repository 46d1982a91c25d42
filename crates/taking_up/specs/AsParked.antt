-- 02, request 6: "or for fields that no parking writes". What is taken up some valid line parks: the line that was read, and its entries are those of the sheet.
use Rattle.std.specs.Prelude.{◌≡◌, true, List, ℕ, ◌<◌}
use Rattle.refusal.specs.Outcome.{Opened}
use Rattle.line.specs.Openings as L
use Rattle.line.specs.declared.gauge_line.Line.{Line}
use Rattle.sheet.specs.Sheet.{present}
use Rattle.words.specs.Fields.{All}
use Rattle.parking.specs.Parked.{entries_of}
use Rattle.parking.specs.Entries.{line_entries}

-- of the bytes b, each of 8 bits
pub record AsParked (b : List ℕ) (r : Opened Line) : Type 0 where
  pub valid : r.number ≡ 0 → L.valid r.state ≡ true
  pub entries : All (λ (n : ℕ). n < 256) b → r.number ≡ 0 → line_entries r.state ≡ entries_of present b
