-- What single numbers in C stand for, and a line's numbers without its arrays: for the contracts of private functions.
use Rattle.std.specs.Prelude.{ℕ, Float, Option, None, Some}
use Rattle.nonrecursive.specs.declared.thinning.Thinning.{Thinning}
use Rattle.nonrecursive.specs.declared.thinning.Thinning.TheVariants as thinning
use Rattle.line.specs.declared.lent.LineNumbers.{LineNumbers}
use Rattle.gauge_line.specs.Crossing.{is_set, kind_of}
use Rattle.gauge_line.specs.States.{Moment, Place, at}

-- how many outputs there are, where one may be missing
abbrev pub made_in : {A : Type 0} → Option A → ℕ
made_in None = 0
made_in (Some y) = 1

-- the number that is written for a kind of section 1
abbrev pub kind_number : Thinning → ℕ
kind_number thinning.Integrators = 0
kind_number thinning.Neighbours = 1

-- a line's numbers
abbrev pub numbers_by : ℕ → ℕ → ℕ → ℕ → ℕ → ℕ → ℕ → ℕ → ℕ → ℕ → Float → Float → ℕ → ℕ → LineNumbers
numbers_by stages r counter tap_count factor wait depth phases phase_taps straight mu step cuts kind =
    record {
      settings =
          record {
            stages = stages;
            r = r;
            factor = factor;
            depth = depth;
            phases = phases;
            phase_taps = phase_taps;
            straight = is_set straight;
            step = step;
            thinning = kind_of kind;
          };
      tap_count = tap_count;
      clock = record { sample_counter = counter; wait = wait; mu = mu; cuts = cuts };
    }

abbrev pub numbers_at :
    Moment → Place ℕ → Place ℕ → Place ℕ → Place ℕ → Place ℕ → Place ℕ → Place ℕ → Place ℕ → Place ℕ → Place ℕ → Place Float → Place Float → Place ℕ → Place ℕ → LineNumbers
numbers_at m stages r counter tap_count factor wait depth phases phase_taps straight mu step cuts kind =
    numbers_by (at m stages) (at m r) (at m counter) (at m tap_count) (at m factor) (at m wait) (at m depth) (at m phases) (at m phase_taps) (at m straight) (at m mu) (at m step) (at m cuts) (at m kind)
