-- 01, section 6, "In 5": the list that a whole list becomes in the resampler, from the settings, the prototype h and the list alone; and what the
-- contracts of the opening and the calls claim of it.
use Rattle.std.specs.Prelude.{◌≡◌, ℕ, ◌<◌, Bool, true, false, List, [], ◌∷◌, ◌++◌, length, take, drop, slice_index_or, Float, None}
use Rattle.std.specs.Float.{binary32}
use Rattle.std.specs.Float.Ieee.{add, sub, lt}
use Rattle.theory.specs.Lists.{listed}
use Rattle.theory.specs.Machines.{Machine}
use Rattle.theory.specs.Runs.{Runs}
use Rattle.refusal.specs.Outcome.{Outcome, Opened}
use Rattle.float.specs.F32.{zero32, one32}
use Rattle.float.specs.PolyphaseOutput.{output}
use Rattle.float.specs.PolyphaseOpening.{step_in_line, valid, own_taps}
use Rattle.float.specs.PolyphaseResamp.{consumed, resampler, Counts}
use Rattle.float.specs.declared.polyphase_resamp.PolyphaseResampF32.{PolyphaseResampF32}

-- how far a list has come: mu, and the values consumed so far, the newest first
pub record Progress : Type 0 where
  pub mu : Float
  pub values : List Float

-- delay t is the value consumed t before the newest; "Samples before the start are zero"
unfoldable pub delays : ℕ → List Float → List Float
delays T v = listed T (λ t. slice_index_or v t zero32)

-- "while mu < 1 an output is made, else the next value is consumed"
unfoldable pub whole_list : Bool → ℕ → ℕ → List Float → Float → Machine Progress Float Float
whole_list straight P T h step =
    record {
      due = λ c. lt c.mu one32;
      val = λ c. output straight P T c.mu (delays T c.values) h;
      after = λ c. record { mu = add binary32 c.mu step; values = c.values };
      next = λ c x. record { mu = sub binary32 c.mu one32; values = x ∷ c.values };
      now = λ c x. None;
    }

-- "mu begins at 1.0 and every delay at zero"
unfoldable pub begin : Progress
begin = record { mu = one32; values = [] }

-- "the list ends when a value is wanted and none is left": o is what the list xs becomes
unfoldable pub Becomes : Bool → ℕ → ℕ → List Float → Float → List Float → List Float → Type 0
Becomes straight P T h step xs o = Runs (whole_list straight P T h step) begin xs o

-- What an opening that is not refused claims of its state: no call on it is refused, and a list that runs through it becomes what 01 says, by the setting, and the other way
-- (`whole`, `every`). Both speak of lists that become one. With a step of the line, 1/64 to 64, every list does (`some`). With another step one need not: where
-- mu + step rounds to mu below 1.0, as at 0.25 with a step of 2^−26, an output is due for ever, and the list has no end.
pub record Opens (straight : Bool) (P T : ℕ) (h : List Float) (step : Float) (r : Opened PolyphaseResampF32) : Type 0 where
  pub accepted : r.number ≡ 0 → valid r.state ≡ true
  pub whole : r.number ≡ 0 → (xs o : List Float) → Runs resampler r.state xs o → Becomes straight P T h step xs o
  pub every : r.number ≡ 0 → (xs o : List Float) → Becomes straight P T h step xs o → Runs resampler r.state xs o
  pub some : r.number ≡ 0 → step_in_line step ≡ true → (xs : List Float) → (o : List Float) × Becomes straight P T h step xs o

-- What a reset of a valid state claims: what an opening with the state's own settings and taps does
unfoldable pub Resets : PolyphaseResampF32 → Opened PolyphaseResampF32 → Type 0
Resets s r = valid s ≡ true → (r.number ≡ 0) × Opens s.straight s.phases s.taps (own_taps s) s.step r

-- What was written, then what the next state t makes of the samples left, is what the state s makes of all of them, and nothing else is
pub record Conserves (s : PolyphaseResampF32) (xs written : List Float) (taken : ℕ) (t : PolyphaseResampF32) : Type 0 where
  pub onward : (o : List Float) → Runs resampler t (drop taken xs) o → Runs resampler s xs (written ++ o)
  pub only : (o : List Float) → Runs resampler s xs o → (o ≡ written ++ drop (length written) o) × Runs resampler t (drop taken xs) (drop (length written) o)

-- What a block of a valid state claims: the next call is not refused either, no output is lost or made twice, and where a place is left unwritten every
-- sample was taken and no output is due
pub record BlockKept (s : PolyphaseResampF32) (xs before after : List Float) (r : Outcome Counts PolyphaseResampF32) : Type 0 where
  pub accepted : valid s ≡ true → valid r.state ≡ true
  pub conserved : valid s ≡ true → Conserves s xs (take r.value.written after) r.value.taken r.state
  pub drained : valid s ≡ true → r.value.written < length before → (r.value.taken ≡ length xs) × (resampler.due r.state ≡ false)

-- What a push to a valid state claims: the same, of the state that has consumed the sample
pub record PushKept (s : PolyphaseResampF32) (x : Float) (before after : List Float) (r : Outcome ℕ PolyphaseResampF32) : Type 0 where
  pub accepted : valid s ≡ true → valid r.state ≡ true
  pub conserved : valid s ≡ true → Conserves (consumed s x) [] (take r.value after) 0 r.state
  pub drained : valid s ≡ true → r.value < length before → resampler.due r.state ≡ false
