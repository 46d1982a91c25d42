-- A run of the resampler, and the places that it reads: for the contracts of private functions.
use Rattle.std.specs.Prelude.{◌≡◌, ℕ, ◌+◌, ◌*◌, ◌<◌, List, length, Float, zero, suc, ◌-◌, Bool, cond, slice_set}
use Rattle.theory.specs.Feeds.{Fed, feed}
use Rattle.refusal.specs.declared.Moved.{Moved}
use Rattle.float.specs.declared.polyphase_resamp.PolyphaseResampF32.{PolyphaseResampF32}
use Rattle.float.specs.declared.settings.Setting.{Setting}
use Rattle.theory.specs.Lists.{in_front}
use Rattle.float.specs.PolyphaseOpening.{most_cells, in_limits}
use Rattle.float.specs.PolyphaseResamp.{resampler, state_of}
use Rattle.std.specs.Float.{binary32}
use Rattle.std.specs.Float.Ieee.{add, lt}
use Rattle.float.specs.F32.{one32}
use Rattle.float.specs.PolyphaseOutput.{output}
use Rattle.float.specs.declared.due.Due.{Due}

-- the places from p on, P apart, of the first n taps lie in the prototype's array
unfoldable pub Inside : ℕ → ℕ → ℕ → Type 0
Inside P n p = (t : ℕ) → t < n → t * P + p < most_cells

abbrev pub setting_of : PolyphaseResampF32 → Setting
setting_of s = record { phases = s.phases; phase_taps = s.taps; straight = s.straight; step = s.step }

-- what a run from mu₀ left: the counts r, mu and the delay d are those of the feed, and the span o is o₀ with the outputs in front
abbrev pub ran : Setting → Float → List Float → List Float → List Float → List Float → Fed PolyphaseResampF32 Float
ran q mu₀ h d₀ xs o₀ = feed resampler (state_of q mu₀ d₀ h) xs (length o₀)

pub record RanTo (q : Setting) (mu₀ : Float) (h d₀ xs o₀ : List Float) (r : Moved) (mu : Float) (d o : List Float) : Type 0 where
  pub state : state_of q mu d h ≡ (ran q mu₀ h d₀ xs o₀).line
  pub taken : r.taken ≡ (ran q mu₀ h d₀ xs o₀).taken
  pub written : r.written ≡ length (ran q mu₀ h d₀ xs o₀).written
  pub span : o ≡ in_front (ran q mu₀ h d₀ xs o₀).written o₀

-- 01, section 5, "while mu < 1 an output is made": mu after the outputs that were due, the places written, and the span
pub record Emitted : Type 0 where
  pub mu : Float
  pub written : ℕ
  pub span : List Float

-- for the delay d and the prototype h, with w places of the span o written and n left
unfoldable pub emitted : Bool → ℕ → ℕ → Float → List Float → List Float → ℕ → Float → ℕ → List Float → Emitted
emitted straight P T step d h zero mu w o = record { mu = mu; written = w; span = o }
emitted straight P T step d h (suc n) mu w o =
    cond (lt mu one32)
    (emitted straight P T step d h n (add binary32 mu step) (w + 1) (slice_set o w (output straight P T mu d h)))
    (record { mu = mu; written = w; span = o })

-- outside the limits of P and T, nothing
unfoldable pub emitted_from : Bool → ℕ → ℕ → Float → List Float → List Float → Float → ℕ → List Float → Emitted
emitted_from straight P T step d h mu w o = cond (in_limits P T) (emitted straight P T step d h (length o - w) mu w o) (record { mu = mu; written = w; span = o })

-- what `write_due` answered, and the span it left
abbrev pub told_due : Due → List Float → Emitted
told_due r o = record { mu = r.mu; written = r.written; span = o }
