-- How an answer crosses to a caller in C or Rust: 01's number comes back, 0 for none, and the values stand in places that the caller lends.
use Rattle.std.specs.Prelude.{Bool, not, cond, ℕ, eqb, ℤ, pos, Float, Option, None, Some}
use Rattle.theory.specs.Feeds.{Event, took, wrote, both, stopped}
use Rattle.refusal.specs.Outcome.{Outcome}
use Rattle.nonrecursive.specs.declared.thinning.Thinning.{Thinning}
use Rattle.nonrecursive.specs.declared.thinning.Thinning.TheVariants as thinning
use Rattle.q15.specs.FirDecimator.{Filtered}
use Rattle.float.specs.F32.{zero32}

-- an output that may be missing: how many there are, and the output, or a zero where there is none (01's table: "The counts and values of a refusal are 0")
abbrev pub optional : {A : Type 0} → A → Option A → ℕ × A
optional z None = (0, z)
optional z (Some y) = (1, y)

abbrev pub crossed : {A S : Type 0} → A → Outcome (Option A) S → Outcome (ℕ × A) S
crossed z o = record { number = o.number; value = optional z o.value; state = o.state }

-- a yes or a no crosses as a number: 0 is no, any other is yes
abbrev pub is_set : ℕ → Bool
is_set n = not (eqb n 0)

-- and the number that is written for it
abbrev pub flag_of : Bool → ℕ
flag_of b = cond b 1 0

-- 02, §13: which kind thins a line crosses as a number: 0 is the integrators, any other the neighbours
abbrev pub kind_of : ℕ → Thinning
kind_of n = cond (is_set n) thinning.Neighbours thinning.Integrators

-- 02, §4: a FIR output that may be missing, and whether it was cut
abbrev pub crossed_fir : {S : Type 0} → Outcome Filtered S → Outcome (ℕ × (ℤ × ℕ)) S
crossed_fir o =
    let made = optional (pos 0) o.value.made in
    record { number = o.number; value = (made.0, (made.1, flag_of o.value.cut)); state = o.state }

-- 01, section 6, "it took a sample, wrote one float sample, did both, or stopped": how many samples it took, how many outputs it wrote, and the output, or a zero
abbrev pub moves : Event Float → ℕ × (ℕ × Float)
moves took = (1, (0, zero32))
moves (wrote y) = (0, (1, y))
moves (both y) = (1, (1, y))
moves stopped = (0, (0, zero32))

abbrev pub crossed_step : {S : Type 0} → Outcome (Event Float) S → Outcome (ℕ × (ℕ × Float)) S
crossed_step o = record { number = o.number; value = moves o.value; state = o.state }
