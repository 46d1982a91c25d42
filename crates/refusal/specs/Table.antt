-- 01, "Where each call is turned back", and 02's requests, whose refusals "join document 01's table": the number of each row.
use Rattle.std.specs.Prelude.{ℕ}
use Rattle.refusal.specs.declared.Refusal.{Refusal}
use Rattle.refusal.specs.declared.Refusal.TheVariants.{Stages, Factor, GainBits, Span, FirFactor, Taps, Samples, TapsMultiple, Ratio, HalfBandTaps, Depth, Phases, Prototype, Step, State, Directory, Entries, EntryNumber, PhaseTaps, Lengths, Parked, Plan, PowerOfTwo}

abbrev pub number_of : Refusal → ℕ
number_of Stages = 1
number_of Factor = 2
number_of GainBits = 3
number_of Span = 4
number_of FirFactor = 5
number_of Taps = 6
number_of Samples = 7
number_of TapsMultiple = 8
number_of Ratio = 9
number_of HalfBandTaps = 10
number_of Depth = 11
number_of Phases = 12
number_of Prototype = 13
number_of Step = 14
number_of State = 15
number_of Directory = 16
number_of Entries = 17
number_of EntryNumber = 18
number_of PhaseTaps = 19
number_of Lengths = 20
number_of Parked = 21
number_of Plan = 22
number_of PowerOfTwo = 23
