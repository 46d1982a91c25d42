-- For the contracts of private functions: the filter of a `Folded`, and of a number of taps and a kind with the taps and the delay that are lent.
use Rattle.std.specs.Prelude.{List, ℕ, Float, take, drop, ◌++◌}
use Rattle.theory.specs.Sections.{Section, state, outs}
use Rattle.linear_phase.specs.LinearPhase.{reach}
use Rattle.linear_phase.specs.Windows.{window_value}
use Rattle.linear_phase.specs.inner.Lanes.{linear_phase, window_values}
use Rattle.linear_phase.specs.LinearPhaseFir.{phase_of}
use Rattle.linear_phase.specs.declared.kinds.Folded.{Folded}
use Rattle.linear_phase.specs.declared.kinds.Half.{Half}
use Rattle.linear_phase.specs.declared.kinds.Kind.{Kind}
use Rattle.linear_phase.specs.declared.linear_phase_fir.LinearPhaseFir.{LinearPhaseFir}

-- sample by sample
abbrev pub by : Folded → Section (List Float) Float Float
by fir = linear_phase fir.kind.odd fir.kind.antisymmetric fir.taps.now

-- the output at a window, and those at the first n along a line
abbrev pub value_of : Folded → List Float → Float
value_of fir w = window_value fir.kind.odd fir.kind.antisymmetric fir.taps.now w

abbrev pub values_of : Folded → List Float → ℕ → List Float
values_of fir line n = window_values fir.kind.odd fir.kind.antisymmetric fir.taps.now fir.long line n

-- of a delay in front of the lent places: these after the samples v, and the outputs
abbrev pub left_of : Section (List Float) Float Float → ℕ → List Float → List Float → List Float
left_of f long delay v = state f (take long delay) v ++ drop long delay

abbrev pub made_of : Section (List Float) Float Float → ℕ → List Float → List Float → List Float
made_of f long delay v = outs f (take long delay) v

-- of m taps in front of those lent: the filter, and how long its delay is
abbrev pub kind_by : ℕ → Kind → List Float → Section (List Float) Float Float
kind_by m k taps = linear_phase k.odd k.antisymmetric (take m taps)

abbrev pub kind_long : ℕ → Kind → ℕ
kind_long m k = reach k.odd m

-- the lent state
abbrev pub lent_state : Half → List Float → List Float → LinearPhaseFir
lent_state h taps delay = phase_of h.m h.kind.odd h.kind.antisymmetric taps delay
