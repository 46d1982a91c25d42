-- 01, section 7, `HbfInt`: what its calls answer, and what a stream of samples from its opening makes.
use Rattle.std.specs.Prelude.{◌≡◌, Bool, false, cond, List, [], ◌∷◌, ◌++◌, ℕ, ◌*◌, ◌/◌, min, length, take, drop, replicate, Float, Some}
use Rattle.theory.specs.Lists.{padded_to}
use Rattle.theory.specs.Sections.{Section, state, outs}
use Rattle.refusal.specs.Outcome.{Opened, Outcome}
use Rattle.half_band.specs.Limits.{most_half_band_taps}
use Rattle.refusal.specs.Rows.{outside, samples_refused}
use Rattle.half_band.specs.HalfBand.{flat, interpolated}
use Rattle.float.specs.F32.{zero32}
use Rattle.half_band.specs.Windows.{slid, int_value}
use Rattle.half_band.specs.declared.hbf_int.HbfInt.{HbfInt}

-- a state of its parts
abbrev pub int_of : ℕ → List Float → List Float → HbfInt
int_of m coeffs delay = record { m = m; coeffs = coeffs; delay = delay }

-- the M taps and the last 2M samples; what lies behind them is not looked at
abbrev pub int_taps : HbfInt → List Float
int_taps d = take d.m d.coeffs

abbrev pub int_window : HbfInt → List Float
int_window d = take (2 * d.m) d.delay

abbrev pub with_int_window : HbfInt → List Float → HbfInt
with_int_window d w = record { m = d.m; coeffs = d.coeffs; delay = w ++ drop (2 * d.m) d.delay }

-- one sample: the next state, and the even and the odd output
unfoldable pub int_next : HbfInt → Float → HbfInt
int_next d x = with_int_window d (slid (int_window d) (x ∷ []))

unfoldable pub int_out : HbfInt → Float → Float × Float
int_out d x = int_value (int_taps d) (slid (int_window d) (x ∷ []))

unfoldable pub hbf_int : Section HbfInt Float (Float × Float)
hbf_int = record { next = int_next; out = λ d x. Some (int_out d x) }

-- all zeros, and an opening with the taps c
abbrev pub int_none : HbfInt
int_none = record { m = 0; coeffs = replicate most_half_band_taps zero32; delay = replicate 48 zero32 }

abbrev pub int_fresh : List Float → HbfInt
int_fresh c = record { m = length c; coeffs = padded_to most_half_band_taps zero32 c; delay = replicate 48 zero32 }

-- 10: "M not 1..23"
abbrev pub int_opening : List Float → Opened HbfInt
int_opening c = cond (outside (length c) 1 most_half_band_taps) (record { number = 10; state = int_none }) (record { number = 0; state = int_fresh c })

-- 15: "settings that its opening refuses"
abbrev pub int_refused : HbfInt → Bool
int_refused d = outside d.m 1 most_half_band_taps

-- "Reset equals a fresh opening", with the state's own taps
abbrev pub int_reset : HbfInt → Opened HbfInt
int_reset d = cond (int_refused d) (record { number = 15; state = d }) (int_opening (int_taps d))

-- one sample
abbrev pub int_step : HbfInt → Float → Outcome (Float × Float) HbfInt
int_step d x = cond (int_refused d) (record { number = 15; value = (zero32, zero32); state = d }) (record { number = 0; value = int_out d x; state = int_next d x })

-- the samples that a block takes: two places for each
abbrev pub int_taken : List Float → ℕ → List Float
int_taken v span = take (min (length v) (span / 2)) v

abbrev pub int_block : HbfInt → List Float → ℕ → Outcome ℕ HbfInt
int_block d v span =
    cond (int_refused d) (record { number = 15; value = 0; state = d })
    (cond (samples_refused (length v) span) (record { number = 7; value = 0; state = d })
    (record { number = 0; value = 2 * min (length v) (span / 2); state = state hbf_int d (int_taken v span) }))

-- and the span after it: the outputs in front, the rest as it was
abbrev pub int_span : HbfInt → List Float → List Float → List Float
int_span d v span =
    cond (int_refused d) span
    (cond (samples_refused (length v) (length span)) span
    (flat (outs hbf_int d (int_taken v (length span))) ++ drop (2 * min (length v) (length span / 2)) span))

-- what an opening with the taps c that was not refused gives
pub record IntMeets (c : List Float) (d : HbfInt) : Type 0 where
  -- no sample after it is refused
  pub never_refused : (v : List Float) → int_refused (state hbf_int d v) ≡ false
  -- the outputs of any list, two of each sample, are section 7's of the whole list
  pub whole : (v : List Float) → flat (outs hbf_int d v) ≡ interpolated c v
