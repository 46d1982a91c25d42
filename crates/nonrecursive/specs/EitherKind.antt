-- 02, §13: "the line may be opened with either". Section 1 as the line has it: which kind thins, the CIC decimator with the numbers that both kinds have, and the
-- neighbours. Of integrators and combs, or neighbours, one part is off. Its opening, what a state must be not to be refused, its sums, a block of them, and its scaled
-- sums.
use Rattle.std.specs.Prelude.{Bool, true, false, cond, ◌&&◌, List, ℕ, leb, ℤ, pos, replicate, Option}
use Rattle.theory.specs.Sections.{Section}
use Rattle.theory.specs.Machines.{alone}
use Rattle.theory.specs.Feeds.{Fed, idle, feed}
use Rattle.integer.specs.Limits.{stages_ok, factor_ok}
use Rattle.integer.specs.Gain.{gain_bits, most_bits}
use Rattle.integer.specs.CicDecimator.{decimator_of, decimator, scaled_by}
use Rattle.integer.specs.CicDecimator as C
use Rattle.integer.specs.declared.cic_decimator.CicDecimator.{CicDecimator}
use Rattle.nonrecursive.specs.NonrecursiveDecimator.{power_of_two, most_neighbours, nonrecursive_of, nonrecursive}
use Rattle.nonrecursive.specs.NonrecursiveDecimator as D
use Rattle.nonrecursive.specs.declared.nonrecursive_decimator.NonrecursiveDecimator.{NonrecursiveDecimator}
use Rattle.nonrecursive.specs.declared.thinning.Thinning.{Thinning}
use Rattle.nonrecursive.specs.declared.thinning.Thinning.TheVariants as thinning

pub record Thinner : Type 0 where
  pub kind : Thinning
  pub cic : CicDecimator
  pub neighbours : List ℤ

-- from its numbers and arrays
abbrev pub thinner_of : Thinning → ℕ → ℕ → List ℤ → List ℤ → List ℤ → ℕ → Thinner
thinner_of k N r integrators combs neighbours counter = record { kind = k; cic = decimator_of N r integrators combs counter; neighbours = neighbours }

-- the nonrecursive decimator in it: `sample_counter` is its place
abbrev pub beside_of : CicDecimator → List ℤ → NonrecursiveDecimator
beside_of c neighbours = nonrecursive_of c.stages c.r neighbours c.sample_counter

abbrev pub beside : Thinner → NonrecursiveDecimator
beside t = beside_of t.cic t.neighbours

-- and with another one, or another CIC decimator, in its stead
abbrev pub with_beside : Thinner → NonrecursiveDecimator → Thinner
with_beside t d =
    record { kind = t.kind; cic = decimator_of d.stages d.r t.cic.integrator_state t.cic.comb_state d.place; neighbours = d.neighbours }

abbrev pub with_cic : Thinner → CicDecimator → Thinner
with_cic t c = record { kind = t.kind; cic = c; neighbours = t.neighbours }

-- "23 when the factor is not a power of two"
unfoldable pub factor_for : Thinning → ℕ → Bool
factor_for thinning.Integrators r = true
factor_for thinning.Neighbours r = power_of_two r

-- rows 1, 2, "23 .. right after 2", 3
unfoldable pub settings_number : Thinning → ℕ → ℕ → ℕ
settings_number k N r = cond (stages_ok N) (cond (factor_ok r) (cond (factor_for k r) (cond (leb (gain_bits N r) most_bits) 0 3) 23) 2) 1

-- "A part that is off is opened as zeros"
abbrev pub fresh : Thinning → ℕ → ℕ → Thinner
fresh k N r = record { kind = k; cic = C.fresh N r; neighbours = replicate most_neighbours (pos 0) }

-- row 15: settings that its opening refuses; `sample_counter`, which is the place too, not below r; "a part that is off is not checked"
unfoldable pub valid_at : Thinning → ℕ → ℕ → ℕ → Bool
valid_at thinning.Integrators N r counter = C.valid_at N r counter
valid_at thinning.Neighbours N r counter = D.valid_at N r counter

unfoldable pub fine : Thinner → Bool
fine t = valid_at t.kind t.cic.stages t.cic.r t.cic.sample_counter && leb (gain_bits t.cic.stages t.cic.r) most_bits

-- one sample; a part that is off stays as it is
abbrev pub next_by : Thinning → Thinner → ℤ → Thinner
next_by thinning.Integrators t x = with_cic t (decimator.next t.cic x)
next_by thinning.Neighbours t x = with_beside t (nonrecursive.next (beside t) x)

abbrev pub out_by : Thinning → Thinner → ℤ → Option ℤ
out_by thinning.Integrators t x = decimator.out t.cic x
out_by thinning.Neighbours t x = nonrecursive.out (beside t) x

-- the sums, before they are scaled
unfoldable pub thin : Section Thinner ℤ ℤ
thin = record { next = λ t x. next_by t.kind t x; out = λ t x. out_by t.kind t x }

-- a block: a full span stops it, else the next sample is taken; of a state that 15 refuses nothing
unfoldable pub thin_fed : Thinner → List ℤ → ℕ → Fed Thinner ℤ
thin_fed t w places =
    cond (valid_at t.kind t.cic.stages t.cic.r t.cic.sample_counter) (feed (alone (pos 0) thin) t w places) (idle t)

-- the kind as the code hands it on
abbrev pub kind_of : Bool → Thinning
kind_of true = thinning.Neighbours
kind_of false = thinning.Integrators

-- the scaled sums
unfoldable pub either : Section Thinner ℤ ℤ
either =
    record { next = λ t x. next_by t.kind t x; out = λ t x. scaled_by (gain_bits t.cic.stages t.cic.r) (out_by t.kind t x) }
