-- 02, request 6: parking a line and taking it up, as a panel does it.
use Rattle.std.specs.Prelude.{cond, List, ℕ, leb, eqb, length}
use Rattle.theory.specs.Lists.{in_front}
use Rattle.refusal.specs.Outcome.{Answer, Opened}
use Rattle.line.specs.Openings as L
use Rattle.line.specs.declared.gauge_line.Line.{Line}
use Rattle.parking.specs.Parked.{Panel, parked, entries_of, take_up_number}
use Rattle.parking.specs.Entries.{line_entries, line_from, fine}

-- "Write a line's settings, taps and whole record as a tap sheet of seven entries"
unfoldable pub parked_line : Panel → Line → List ℕ
parked_line v l = parked v.rule (line_entries l)

-- a sheet of which a span has the places, or 17
unfoldable pub sheet_answer : List ℕ → ℕ → Answer ℕ
sheet_answer b places = cond (leb (length b) places) (record { number = 0; value = length b }) (record { number = 17; value = 0 })

unfoldable pub sheet_span : List ℕ → List ℕ → List ℕ
sheet_span b span = cond (leb (length b) (length span)) (in_front b span) span

-- 15 as for any call on a state; "Parking into a span too short is 17"
unfoldable pub park_number : Panel → Line → ℕ → ℕ
park_number v l places = cond (L.valid l) (cond (leb (length (parked_line v l)) places) 0 17) 15

-- the length by itself, for whoever makes the span: 15, or the sheet's
unfoldable pub length_answer : Panel → Line → Answer ℕ
length_answer v l = cond (L.valid l) (record { number = 0; value = length (parked_line v l) }) (record { number = 15; value = 0 })

-- the sheet's length, and the span: the sheet in front, and the places behind it as they were
unfoldable pub park_answer : Panel → Line → ℕ → Answer ℕ
park_answer v l places = record { number = park_number v l places; value = cond (eqb (park_number v l places) 0) (length (parked_line v l)) 0 }

unfoldable pub park_span : Panel → Line → List ℕ → List ℕ
park_span v l span = cond (eqb (park_number v l (length span)) 0) (in_front (parked_line v l) span) span

-- 16 and 17, "21 when a parked sheet has another entry count or an entry of the wrong length, after 16 and 17; then 15"
unfoldable pub taken_up_number : Panel → List ℕ → ℕ
taken_up_number v b = take_up_number fine v b

-- "a refused opening's state is all zeros"
unfoldable pub taken_up : Panel → List ℕ → Opened Line
taken_up v b = record { number = taken_up_number v b; state = cond (eqb (taken_up_number v b) 0) (line_from (entries_of v.rule b)) L.zeros }
