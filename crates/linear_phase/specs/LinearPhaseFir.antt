-- 02, §2, `LinearPhaseFir`: the M taps and the last LEN samples; what lies behind them is not looked at. Openings, calls, and what refuses them.
use Rattle.std.specs.Prelude.{◌≡◌, Bool, false, cond, not, List, [], ◌∷◌, ◌++◌, ℕ, eqb, length, take, drop, replicate, Float, Some}
use Rattle.theory.specs.Lists.{padded_to}
use Rattle.theory.specs.Sections.{Section, outs, state}
use Rattle.refusal.specs.Outcome.{Answer, Opened, Outcome}
use Rattle.refusal.specs.Rows.{outside}
use Rattle.float.specs.F32.{zero32}
use Rattle.half_band.specs.Windows.{slid}
use Rattle.half_band.specs.HbfIntCascade.{joined}
use Rattle.linear_phase.specs.LinearPhase.{reach, phase_filtered}
use Rattle.linear_phase.specs.Windows.{window_value}
use Rattle.linear_phase.specs.declared.linear_phase_fir.LinearPhaseFir.{LinearPhaseFir}

-- "M from 1 to 23"
abbrev pub most_linear_phase_taps : ℕ
most_linear_phase_taps = 23

-- the longest LEN
abbrev pub most_delays : ℕ
most_delays = 46

-- the filter with these taps and this delay
abbrev pub phase_of : ℕ → Bool → Bool → List Float → List Float → LinearPhaseFir
phase_of M odd antisymmetric taps delay = record { m = M; odd = odd; antisymmetric = antisymmetric; taps = taps; delay = delay }

abbrev pub phase_taps : LinearPhaseFir → List Float
phase_taps d = take d.m d.taps

abbrev pub phase_delay : LinearPhaseFir → List Float
phase_delay d = take (reach d.odd d.m) d.delay

abbrev pub with_delay : LinearPhaseFir → List Float → LinearPhaseFir
with_delay d w = phase_of d.m d.odd d.antisymmetric d.taps (w ++ drop (reach d.odd d.m) d.delay)

-- one sample: the next state, and the output
unfoldable pub phase_next : LinearPhaseFir → Float → LinearPhaseFir
phase_next d x = with_delay d (slid (phase_delay d) (x ∷ []))

unfoldable pub phase_out : LinearPhaseFir → Float → Float
phase_out d x = window_value d.odd d.antisymmetric (phase_taps d) (phase_delay d ++ (x ∷ []))

unfoldable pub phase_fir : Section LinearPhaseFir Float Float
phase_fir = record { next = phase_next; out = λ d x. Some (phase_out d x) }

-- all zeros, and an opening with the taps c
abbrev pub phase_none : LinearPhaseFir
phase_none = record { m = 0; odd = false; antisymmetric = false; taps = replicate most_linear_phase_taps zero32; delay = replicate most_delays zero32 }

abbrev pub phase_fresh : Bool → Bool → List Float → LinearPhaseFir
phase_fresh odd antisymmetric c =
    record { m = length c; odd = odd; antisymmetric = antisymmetric; taps = padded_to most_linear_phase_taps zero32 c; delay = replicate most_delays zero32 }

-- "19 when M is outside its limits", "M from 1 to 23"
abbrev pub phase_opening : Bool → Bool → List Float → Opened LinearPhaseFir
phase_opening odd antisymmetric c =
    cond (outside (length c) 1 most_linear_phase_taps) (record { number = 19; state = phase_none }) (record { number = 0; state = phase_fresh odd antisymmetric c })

-- 15: "settings that its opening refuses"
abbrev pub phase_refused : LinearPhaseFir → Bool
phase_refused d = outside d.m 1 most_linear_phase_taps

-- "Reset equals a fresh opening", with the state's own taps and kind
abbrev pub phase_reset : LinearPhaseFir → Opened LinearPhaseFir
phase_reset d = cond (phase_refused d) (record { number = 15; state = d }) (phase_opening d.odd d.antisymmetric (phase_taps d))

-- the Rust's LEN
abbrev pub phase_response_length : LinearPhaseFir → Answer ℕ
phase_response_length d = cond (phase_refused d) (record { number = 15; value = 0 }) (record { number = 0; value = reach d.odd d.m })

-- one sample
abbrev pub phase_step : LinearPhaseFir → Float → Outcome Float LinearPhaseFir
phase_step d x = cond (phase_refused d) (record { number = 15; value = zero32; state = d }) (record { number = 0; value = phase_out d x; state = phase_next d x })

-- "20 when the block's source and span differ in length"
unfoldable pub lengths_differ : ℕ → ℕ → Bool
lengths_differ source span = not (eqb source span)

-- a block of the samples v: 15, then 20
abbrev pub phase_block : LinearPhaseFir → List Float → ℕ → Outcome ℕ LinearPhaseFir
phase_block d v span =
    cond (phase_refused d) (record { number = 15; value = 0; state = d })
    (cond (lengths_differ (length v) span) (record { number = 20; value = 0; state = d })
    (record { number = 0; value = length v; state = state phase_fir d v }))

-- and the span after it: an output at every place
abbrev pub phase_span : LinearPhaseFir → List Float → List Float → List Float
phase_span d v span = cond (phase_refused d) span (cond (lengths_differ (length v) (length span)) span (outs phase_fir d v))

-- a block in place
abbrev pub phase_inplace : LinearPhaseFir → List Float → Outcome ℕ LinearPhaseFir
phase_inplace d v = cond (phase_refused d) (record { number = 15; value = 0; state = d }) (record { number = 0; value = length v; state = state phase_fir d v })

abbrev pub phase_inplace_span : LinearPhaseFir → List Float → List Float
phase_inplace_span d v = cond (phase_refused d) v (outs phase_fir d v)

-- blocks, one after the other, each from the state that the one before leaves
abbrev pub block_outs : {S A B : Type 0} → Section S A B → S → List (List A) → List B
block_outs f s [] = []
block_outs f s (b ∷ blocks) = outs f s b ++ block_outs f (state f s b) blocks

-- what an opening with the taps c that was not refused gives
pub record PhaseStreams (odd antisymmetric : Bool) (c : List Float) (d : LinearPhaseFir) : Type 0 where
  -- no sample after it is refused
  pub never_refused : (v : List Float) → phase_refused (state phase_fir d v) ≡ false
  -- the outputs of any list are §2's of the whole list
  pub whole : (v : List Float) → outs phase_fir d v ≡ phase_filtered odd antisymmetric c v
  -- "Block size must show in no output: cutting a stream differently changes nothing"
  pub cut : (blocks : List (List Float)) → block_outs phase_fir d blocks ≡ phase_filtered odd antisymmetric c (joined blocks)
