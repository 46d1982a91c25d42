-- No two rows have one number, so a contract that names the number names the row: `row_of` finds the row again.
use mathlib.Core.Path.{◌≡◌, refl, sym, ap, ◌∙◌}
use Prim.Native.Nat.{ℕ, ◌<◌}
use lib.Dec.{lit<}
use Rattle.refusal.specs.declared.Refusal.{Refusal}
use Rattle.refusal.specs.declared.Refusal.TheVariants.{Stages, Factor, GainBits, Span, FirFactor, Taps, Samples, TapsMultiple, Ratio, HalfBandTaps, Depth, Phases, Prototype, Step, State, Directory, Entries, EntryNumber, PhaseTaps, Lengths, Parked, Plan, PowerOfTwo}
use Rattle.refusal.specs.Table.{number_of}
use mathlib.Core.List.{List, [], ◌∷◌}
use lib.ListN.{get_or}

rows : List Refusal
rows =
    State ∷ Stages ∷ Factor ∷ GainBits ∷ Span ∷ FirFactor ∷ Taps ∷ Samples ∷ TapsMultiple ∷ Ratio ∷ HalfBandTaps ∷ Depth ∷ Phases ∷ Prototype ∷ Step ∷ State ∷ Directory ∷ Entries ∷ EntryNumber ∷ PhaseTaps ∷ Lengths ∷ Parked ∷ Plan ∷ PowerOfTwo ∷ []

row_of : ℕ → Refusal
row_of n = get_or rows n State

row_of_lem : (q : Refusal) → row_of (number_of q) ≡ q
unfolding row_of rows
row_of_lem Stages = refl
row_of_lem Factor = refl
row_of_lem GainBits = refl
row_of_lem Span = refl
row_of_lem FirFactor = refl
row_of_lem Taps = refl
row_of_lem Samples = refl
row_of_lem TapsMultiple = refl
row_of_lem Ratio = refl
row_of_lem HalfBandTaps = refl
row_of_lem Depth = refl
row_of_lem Phases = refl
row_of_lem Prototype = refl
row_of_lem Step = refl
row_of_lem State = refl
row_of_lem Directory = refl
row_of_lem Entries = refl
row_of_lem EntryNumber = refl
row_of_lem PhaseTaps = refl
row_of_lem Lengths = refl
row_of_lem Parked = refl
row_of_lem Plan = refl
row_of_lem PowerOfTwo = refl

-- contracts name a row by its number, `number_of` of specs/Table, which docs/believed.md lists: no two rows have one
pub number_injective : (p q : Refusal) → number_of p ≡ number_of q → p ≡ q
number_injective p q e = sym (row_of_lem p) ∙ ap row_of e ∙ row_of_lem q

-- 0 is left for an answer that is not refused
pub number_positive : (q : Refusal) → 0 < number_of q
number_positive Stages = lit< tt
number_positive Factor = lit< tt
number_positive GainBits = lit< tt
number_positive Span = lit< tt
number_positive FirFactor = lit< tt
number_positive Taps = lit< tt
number_positive Samples = lit< tt
number_positive TapsMultiple = lit< tt
number_positive Ratio = lit< tt
number_positive HalfBandTaps = lit< tt
number_positive Depth = lit< tt
number_positive Phases = lit< tt
number_positive Prototype = lit< tt
number_positive Step = lit< tt
number_positive State = lit< tt
number_positive Directory = lit< tt
number_positive Entries = lit< tt
number_positive EntryNumber = lit< tt
number_positive PhaseTaps = lit< tt
number_positive Lengths = lit< tt
number_positive Parked = lit< tt
number_positive Plan = lit< tt
number_positive PowerOfTwo = lit< tt
