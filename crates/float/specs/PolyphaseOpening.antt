-- 01, section 5: the resampler's limits, which openings are refused and what the others make; what a state must be not to be refused; and a reset.
use Rattle.std.specs.Prelude.{ℕ, ◌+◌, ◌-◌, ◌*◌, Bool, false, cond, ◌&&◌, ◌||◌, List, ◌++◌, length, take, replicate, ◌==◌, from_bits, nat_le, Float}
use Rattle.std.specs.Float.{binary32}
use Rattle.std.specs.Float.Ieee.{add, le}
use Rattle.refusal.specs.Outcome.{Opened}
use Rattle.float.specs.F32.{zero32, one32, above_zero}
use Rattle.float.specs.declared.polyphase_resamp.PolyphaseResampF32.{PolyphaseResampF32}

-- "P phases 2 to 64, T taps 1 to 16"
abbrev pub least_phases : ℕ
least_phases = 2

abbrev pub most_phases : ℕ
most_phases = 64

abbrev pub least_phase_taps : ℕ
least_phase_taps = 1

abbrev pub most_phase_taps : ℕ
most_phase_taps = 16

unfoldable pub within : ℕ → ℕ → ℕ → Bool
within least most n = nat_le least n && nat_le n most

-- refusal 12, "P or T outside its limits"
unfoldable pub in_limits : ℕ → ℕ → Bool
in_limits P T = within least_phases most_phases P && within least_phase_taps most_phase_taps T

-- refusal 15, "mu not in −2^24..1+step as rounded (line: 0..1+step)": from `low` up
unfoldable pub mu_from : Float → Float → Float → Bool
mu_from low step mu = le low mu && le mu (add binary32 one32 step)

-- −2^24
abbrev pub lowest_mu : Float
lowest_mu = from_bits binary32 0xcb80_0000

-- refusal 15 beside the line: settings that the opening refuses, or such a mu
unfoldable pub valid_at : ℕ → ℕ → Float → Float → Bool
valid_at P T step mu = in_limits P T && (above_zero step && mu_from lowest_mu step mu)

-- "step is 1/64 to 64"
abbrev pub least_line_step : Float
least_line_step = from_bits binary32 0x3c80_0000

abbrev pub most_line_step : Float
most_line_step = from_bits binary32 0x4280_0000

unfoldable pub step_in_line : Float → Bool
step_in_line step = le least_line_step step && le step most_line_step

-- refusal 15 in the line, where "P = 0 means off" and "a part that is off is not checked"
unfoldable pub valid_in_line_at : ℕ → ℕ → Float → Float → Bool
valid_in_line_at P T step mu = P == 0 || (in_limits P T && (step_in_line step && mu_from zero32 step mu))

-- refusal 15, beside the line and in it
unfoldable pub valid : PolyphaseResampF32 → Bool
valid s = valid_at s.phases s.taps s.step s.mu

unfoldable pub valid_in_line : PolyphaseResampF32 → Bool
valid_in_line s = valid_in_line_at s.phases s.taps s.step s.mu

-- the prototype in front, zeros behind
abbrev pub most_cells : ℕ
most_cells = most_phases * most_phase_taps

unfoldable pub packed : List Float → List Float
packed h = take most_cells h ++ replicate (most_cells - length h) zero32

-- "mu starts at 1.0", "every delay at zero"
unfoldable pub fresh : Bool → ℕ → ℕ → List Float → Float → PolyphaseResampF32
fresh straight P T h step =
    record { phases = P; taps = T; straight = straight; mu = one32; step = step; delay = replicate most_phase_taps zero32; prototype = packed h }

-- "a refused opening's state is all zeros"
unfoldable pub zeros : PolyphaseResampF32
zeros =
    record {
      phases = 0;
      taps = 0;
      straight = false;
      mu = zero32;
      step = zero32;
      delay = replicate most_phase_taps zero32;
      prototype = replicate most_cells zero32;
    }

abbrev pub refused_opening : ℕ → Opened PolyphaseResampF32
refused_opening number = record { number = number; state = zeros }

-- rows 12, 13 and 14 of a prototype of so many cells, with a step that is fine or not
abbrev pub settings_number : ℕ → ℕ → ℕ → Bool → ℕ
settings_number P T cells step_fine = cond (in_limits P T) (cond (cells == P * T) (cond step_fine 0 14) 13) 12

-- `from_taps`: 12, 13 ("prototype not P × T long") and 14, downward
unfoldable pub opening : Bool → ℕ → ℕ → List Float → Float → Opened PolyphaseResampF32
opening straight P T h step =
    cond (in_limits P T)
    (cond (length h == P * T)
    (cond (above_zero step) (record { number = 0; state = fresh straight P T h step }) (refused_opening 14))
    (refused_opening 13))
    (refused_opening 12)

-- the P × T taps in front of the state's prototype
unfoldable pub own_taps : PolyphaseResampF32 → List Float
own_taps s = take (s.phases * s.taps) s.prototype

-- "Reset equals a fresh opening", with the state's own settings and taps
unfoldable pub reset : PolyphaseResampF32 → Opened PolyphaseResampF32
reset s = cond (valid s) (opening s.straight s.phases s.taps (own_taps s) s.step) (record { number = 15; state = s })
