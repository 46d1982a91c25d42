-- A line that only counts, for the contracts of the private functions: how many samples are left until a value reaches the resampler, how many lie between two
-- values, and mu. It has no samples, and no outputs, only whether there is one.
use Rattle.std.specs.Prelude.{◌≡◌, Bool, false, cond, Option, None, Some, List, [], ◌∷◌, ℕ, ◌+◌, ◌-◌, ◌*◌, ◌^◌, ◌≤◌, leb, eqb, Float, length, replicate}
use Rattle.std.specs.Float.{binary32}
use Rattle.std.specs.Float.Ieee.{add, sub, lt}
use Rattle.theory.specs.Machines.{Machine}
use Rattle.theory.specs.Feeds as F
use Rattle.refusal.specs.declared.Moved.{Moved}
use Rattle.float.specs.F32.{one32}
use Rattle.chain.specs.inner.Counting.{or_one}
use Rattle.chain.specs.declared.settings.Settings.{Settings}
use Rattle.plan.specs.declared.counting.Clock.{Clock}
use Rattle.plan.specs.declared.counting.Pace.{Pace}

abbrev pub at_left : Clock → ℕ → Clock
at_left c n = record { left = n; period = c.period; pace = c.pace }

-- of a resampler, where it is on
abbrev pub pace_by : Bool → Float → Float → Option Pace
pace_by off step mu = cond off None (Some (record { step = step; mu = mu }))

-- "An output is due when the resampler is on and mu < 1."
abbrev pub due_at : Option Pace → Bool
due_at None = false
due_at (Some p) = lt p.mu one32

abbrev pub behind_output : Option Pace → Option Pace
behind_output None = None
behind_output (Some p) = Some (record { step = p.step; mu = add binary32 p.mu p.step })

-- a value has reached the resampler, where it lowers mu by 1.0; without one it is written
abbrev pub behind_value : Option Pace → Option Pace
behind_value None = None
behind_value (Some p) = Some (record { step = p.step; mu = sub binary32 p.mu one32 })

abbrev pub at_once : Option Pace → Option (Unit {0})
at_once None = Some tt
at_once (Some p) = None

abbrev pub written_at_once : Option Pace → ℕ
written_at_once None = 1
written_at_once (Some p) = 0

abbrev pub arrived : Clock → Clock
arrived c = record { left = c.period; period = c.period; pace = behind_value c.pace }

unfoldable pub ticking : Machine Clock (Unit {0}) (Unit {0})
ticking =
    record {
      due = λ c. due_at c.pace;
      val = λ c. tt;
      after = λ c. record { left = c.left; period = c.period; pace = behind_output c.pace };
      next = λ c u. cond (leb c.left 1) (arrived c) (at_left c (c.left - 1));
      now = λ c u. cond (leb c.left 1) (at_once c.pace) None;
    }

-- the clock behind a section whose next value is `left` samples away, and each other `period` more
abbrev pub slowed : ℕ → ℕ → Clock → Clock
slowed left period c = record { left = left + (c.left - 1) * period; period = period * c.period; pace = c.pace }

-- ---- the clock of a fresh line, with so many taps

-- the resampler alone, which gets every value
abbrev pub resampler_clock : Settings → Clock
resampler_clock s = record { left = 1; period = 1; pace = pace_by (eqb s.phases 0) s.step one32 }

abbrev pub start_clock : Settings → ℕ → Clock
start_clock s T = slowed s.r s.r (slowed (or_one T T) (or_one T s.factor) (slowed (2 ^ s.depth) (2 ^ s.depth) (resampler_clock s)))

-- ---- a feed of so many samples, and feed after feed
unfoldable pub count_feed : Clock → ℕ → ℕ → F.Fed Clock (Unit {0})
count_feed c piece places = F.feed ticking c (replicate piece tt) places

abbrev pub moved_by : F.Fed Clock (Unit {0}) → Moved
moved_by f = record { taken = f.taken; written = length f.written }

abbrev pub count_feeds : Clock → List ℕ → List ℕ → List Moved
count_feeds c [] spans = []
count_feeds c (piece ∷ pieces) [] = []
count_feeds c (piece ∷ pieces) (places ∷ spans) = moved_by (count_feed c piece places) ∷ count_feeds (count_feed c piece places).line pieces spans

-- a clock that runs
abbrev pub Runs : Clock → Type 0
Runs c = (1 ≤ c.left) × (1 ≤ c.period)

-- what a feed that only counts left
pub record CountedTo (c : Clock) (piece places taken written : ℕ) (k : Clock) : Type 0 where
  pub took : taken ≡ (count_feed c piece places).taken
  pub wrote : written ≡ length (count_feed c piece places).written
  pub left : k ≡ (count_feed c piece places).line
  pub runs : Runs k
