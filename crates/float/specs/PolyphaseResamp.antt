-- 01, section 5: the resampler's calls, and as a machine what section 6 says of its whole list.
use Rattle.std.specs.Prelude.{ℕ, ◌+◌, Bool, cond, not, ◌&&◌, List, [], ◌∷◌, ◌++◌, length, take, drop, ◌==◌, nat_le, Float, None, Some}
use Rattle.std.specs.Float.{binary32}
use Rattle.std.specs.Float.Ieee.{add, sub, lt}
use Rattle.theory.specs.Lists.{in_front}
use Rattle.theory.specs.Machines.{Machine}
use Rattle.theory.specs.Feeds.{Fed, feed}
use Rattle.refusal.specs.Outcome.{Outcome, none_moved}
use Rattle.refusal.specs.declared.Moved.{Moved}
use Rattle.float.specs.F32.{one32}
use Rattle.float.specs.PolyphaseOutput.{output}
use Rattle.float.specs.declared.polyphase_resamp.PolyphaseResampF32.{PolyphaseResampF32}
use Rattle.float.specs.declared.settings.Setting.{Setting}
use Rattle.float.specs.PolyphaseOpening.{most_phase_taps, valid}

-- "newest at delay 0": x goes in at the front of the T places, and the oldest falls out
unfoldable pub shifted_in : ℕ → Float → List Float → List Float
shifted_in T x d = cond (nat_le T most_phase_taps) (take T (x ∷ d) ++ drop T d) d

-- a consumed sample: "newest at delay 0, mu falls by 1.0"
unfoldable pub consumed : PolyphaseResampF32 → Float → PolyphaseResampF32
consumed s x =
    record {
      phases = s.phases;
      taps = s.taps;
      straight = s.straight;
      mu = sub binary32 s.mu one32;
      step = s.step;
      delay = shifted_in s.taps x s.delay;
      prototype = s.prototype;
    }

-- an output: "output and add step to mu"
unfoldable pub output_of : PolyphaseResampF32 → Float
output_of s = output s.straight s.phases s.taps s.mu s.delay s.prototype

unfoldable pub passed : PolyphaseResampF32 → PolyphaseResampF32
passed s =
    record {
      phases = s.phases;
      taps = s.taps;
      straight = s.straight;
      mu = add binary32 s.mu s.step;
      step = s.step;
      delay = s.delay;
      prototype = s.prototype;
    }

-- "while mu < 1 an output is made, else the next value is consumed": a value makes nothing at once
unfoldable pub resampler : Machine PolyphaseResampF32 Float Float
resampler =
    record { due = λ s. lt s.mu one32; val = λ s. output_of s; after = λ s. passed s; next = λ s x. consumed s x; now = λ s x. None }

-- "In the line P = 0 means off": nothing is due, and "a part that is off hands its list on unchanged"
unfoldable pub is_on : PolyphaseResampF32 → Bool
is_on s = not (s.phases == 0)

unfoldable pub in_line : Machine PolyphaseResampF32 Float Float
in_line =
    record {
      due = λ s. is_on s && lt s.mu one32;
      val = λ s. output_of s;
      after = λ s. passed s;
      next = λ s x. cond (is_on s) (consumed s x) s;
      now = λ s x. cond (is_on s) None (Some x);
    }

-- the counts of a block
abbrev pub Counts : Type 0
Counts = Moved

-- `process_block`: "While the span has a place: if mu ≥ 1, consume a sample or stop if none; else output and add step to mu"
unfoldable pub block : PolyphaseResampF32 → List Float → List Float → Fed PolyphaseResampF32 Float
block s xs o = feed resampler s xs (length o)

unfoldable pub block_outcome : PolyphaseResampF32 → List Float → List Float → Outcome Counts PolyphaseResampF32
block_outcome s xs o =
    cond (valid s)
    (record { number = 0; value = record { written = length (block s xs o).written; taken = (block s xs o).taken }; state = (block s xs o).line })
    (record { number = 15; value = none_moved; state = s })

unfoldable pub block_span : PolyphaseResampF32 → List Float → List Float → List Float
block_span s xs o = cond (valid s) (in_front (block s xs o).written o) o

-- "`push` consumes first whatever mu is", then writes what is due while the span has a place
unfoldable pub push : PolyphaseResampF32 → Float → List Float → Fed PolyphaseResampF32 Float
push s x o = feed resampler (consumed s x) [] (length o)

unfoldable pub push_outcome : PolyphaseResampF32 → Float → List Float → Outcome ℕ PolyphaseResampF32
push_outcome s x o =
    cond (valid s) (record { number = 0; value = length (push s x o).written; state = (push s x o).line }) (record { number = 15; value = 0; state = s })

unfoldable pub push_span : PolyphaseResampF32 → Float → List Float → List Float
push_span s x o = cond (valid s) (in_front (push s x o).written o) o

-- the state of which a loop holds the numbers and the arrays apart
abbrev pub together : Bool → ℕ → ℕ → Float → Float → List Float → List Float → PolyphaseResampF32
together straight P T mu step d h = record { phases = P; taps = T; straight = straight; mu = mu; step = step; delay = d; prototype = h }

-- and of which a call is lent the arrays and mu beside what its opening set
abbrev pub state_of : Setting → Float → List Float → List Float → PolyphaseResampF32
state_of q mu d h = together q.straight q.phases q.phase_taps mu q.step d h
