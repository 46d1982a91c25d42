-- 01, section 4, `HbfDec`: what its calls answer, and what a stream of pairs from its opening makes.
use Rattle.std.specs.Prelude.{◌≡◌, Bool, false, cond, List, [], ◌∷◌, ◌++◌, ℕ, ◌*◌, ◌/◌, min, length, take, drop, replicate, Float, Some}
use Rattle.theory.specs.Lists.{padded_to}
use Rattle.theory.specs.Sections.{Section, state, outs}
use Rattle.refusal.specs.Outcome.{Opened, Outcome}
use Rattle.half_band.specs.Limits.{most_half_band_taps}
use Rattle.refusal.specs.Rows.{outside, samples_refused}
use Rattle.half_band.specs.HalfBand.{decimated}
use Rattle.float.specs.F32.{zero32}
use Rattle.half_band.specs.Windows.{slid, dec_value, pairs}
use Rattle.half_band.specs.declared.hbf_dec.HbfDec.{HbfDec}

-- a state of its parts
abbrev pub dec_of : ℕ → List Float → List Float → HbfDec
dec_of m coeffs delay = record { m = m; coeffs = coeffs; delay = delay }

-- the M taps and the last 4M samples; what lies behind them is not looked at
abbrev pub dec_taps : HbfDec → List Float
dec_taps d = take d.m d.coeffs

abbrev pub dec_window : HbfDec → List Float
dec_window d = take (4 * d.m) d.delay

abbrev pub with_dec_window : HbfDec → List Float → HbfDec
with_dec_window d w = record { m = d.m; coeffs = d.coeffs; delay = w ++ drop (4 * d.m) d.delay }

-- one pair: the next state, and the output
unfoldable pub dec_next : HbfDec → Float → Float → HbfDec
dec_next d a b = with_dec_window d (slid (dec_window d) (a ∷ b ∷ []))

unfoldable pub dec_out : HbfDec → Float → Float → Float
dec_out d a b = dec_value (dec_taps d) (slid (dec_window d) (a ∷ b ∷ []))

unfoldable pub hbf_dec : Section HbfDec (Float × Float) Float
hbf_dec = record { next = λ d p. dec_next d p.0 p.1; out = λ d p. Some (dec_out d p.0 p.1) }

-- all zeros, and an opening with the taps c
abbrev pub dec_none : HbfDec
dec_none = record { m = 0; coeffs = replicate most_half_band_taps zero32; delay = replicate 96 zero32 }

abbrev pub dec_fresh : List Float → HbfDec
dec_fresh c = record { m = length c; coeffs = padded_to most_half_band_taps zero32 c; delay = replicate 96 zero32 }

-- 10: "M not 1..23"
abbrev pub dec_opening : List Float → Opened HbfDec
dec_opening c = cond (outside (length c) 1 most_half_band_taps) (record { number = 10; state = dec_none }) (record { number = 0; state = dec_fresh c })

-- 15: "settings that its opening refuses"
abbrev pub dec_refused : HbfDec → Bool
dec_refused d = outside d.m 1 most_half_band_taps

-- "Reset equals a fresh opening", with the state's own taps
abbrev pub dec_reset : HbfDec → Opened HbfDec
dec_reset d = cond (dec_refused d) (record { number = 15; state = d }) (dec_opening (dec_taps d))

-- one pair
abbrev pub dec_step : HbfDec → Float → Float → Outcome Float HbfDec
dec_step d a b = cond (dec_refused d) (record { number = 15; value = zero32; state = d }) (record { number = 0; value = dec_out d a b; state = dec_next d a b })

-- a block: the pairs of v, as many as the span has places. "`HbfDec::process` leaves it unread": an odd last sample is in no pair
abbrev pub dec_block : HbfDec → List Float → ℕ → Outcome ℕ HbfDec
dec_block d v span =
    cond (dec_refused d) (record { number = 15; value = 0; state = d })
    (cond (samples_refused (length v) span) (record { number = 7; value = 0; state = d })
    (record { number = 0; value = min span (length v / 2); state = state hbf_dec d (take (min span (length v / 2)) (pairs v)) }))

-- and the span after it: the outputs in front, the rest as it was
abbrev pub dec_span : HbfDec → List Float → List Float → List Float
dec_span d v span =
    cond (dec_refused d) span
    (cond (samples_refused (length v) (length span)) span
    (outs hbf_dec d (take (min (length span) (length v / 2)) (pairs v)) ++ drop (min (length span) (length v / 2)) span))

-- what an opening with the taps c that was not refused gives
pub record DecMeets (c : List Float) (d : HbfDec) : Type 0 where
  -- no pair after it is refused
  pub never_refused : (p : List (Float × Float)) → dec_refused (state hbf_dec d p) ≡ false
  -- the outputs of any list, pair by pair, are section 4's of the whole list
  pub whole : (v : List Float) → outs hbf_dec d (pairs v) ≡ decimated c v
