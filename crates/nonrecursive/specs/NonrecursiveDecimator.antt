-- 02, §13, `NonrecursiveDecimator`: the CIC decimator's sums with no integrators, for a factor that is a power of two. Its state, its opening and refusals, one
-- sample, one scaled sample; and what holds of every stream.
use Rattle.std.specs.Prelude.{◌≡◌, Bool, true, cond, ◌&&◌, List, ◌++◌, ℕ, zero, suc, ◌+◌, ◌/◌, ◌%◌, ◌^◌, eqb, leb, ltb, ℤ, pos, length, take, drop, replicate, Option, None, Some}
use Rattle.std.specs.Int.{w32}
use Rattle.theory.specs.Lists.{in_front}
use Rattle.theory.specs.Wrap.{wrap}
use Rattle.theory.specs.Sections.{Section, state, outs}
use Rattle.theory.specs.Machines.{Machine, alone}
use Rattle.theory.specs.Feeds.{Fed, feed, Feedings, Promised}
use Rattle.refusal.specs.Outcome.{Outcome, Opened}
use Rattle.refusal.specs.declared.Moved.{Moved}
use Rattle.integer.specs.Limits.{stages_ok, factor_ok}
use Rattle.integer.specs.Stages.{Passed, row, kept, sum32}
use Rattle.integer.specs.Gain.{gain_bits, most_bits}
use Rattle.integer.specs.MovingSums.{sums, scaled_sums}
use Rattle.integer.specs.CicDecimator.{scaled_by}
use Rattle.integer.specs.CicDecimator as C
use Rattle.nonrecursive.specs.declared.nonrecursive_decimator.NonrecursiveDecimator.{NonrecursiveDecimator}

-- "each halving of the factor, rounded down, that leaves at least 1": the most m up to `most` with 2^m ≤ r, and 0 where there is none
unfoldable pub halvings_up_to : ℕ → ℕ → ℕ
halvings_up_to zero r = 0
halvings_up_to (suc most) r = cond (leb (2 ^ suc most) r) (suc most) (halvings_up_to most r)

-- of any factor that a usize holds
unfoldable pub halvings : ℕ → ℕ
halvings r = halvings_up_to 63 r

-- "the factor is .. a power of two"
unfoldable pub power_of_two : ℕ → Bool
power_of_two r = eqb (2 ^ halvings r) r

-- N neighbours for each of the 12 halvings of 4,096
abbrev pub most_neighbours : ℕ
most_neighbours = 96

-- a decimator from its parts
abbrev pub nonrecursive_of : ℕ → ℕ → List ℤ → ℕ → NonrecursiveDecimator
nonrecursive_of N r neighbours place = record { stages = N; r = r; neighbours = neighbours; place = place }

abbrev pub fresh : ℕ → ℕ → NonrecursiveDecimator
fresh N r = nonrecursive_of N r (replicate most_neighbours (pos 0)) 0

-- 1, 2, and "23 when the factor is not a power of two, right after 2"; "a refused opening's state is all zeros"
unfoldable pub settings_number : ℕ → ℕ → ℕ
settings_number N r = cond (stages_ok N) (cond (factor_ok r) (cond (power_of_two r) 0 23) 2) 1

abbrev pub refused_opening : ℕ → Opened NonrecursiveDecimator
refused_opening n = record { number = n; state = fresh 0 0 }

abbrev pub opened_by : ℕ → ℕ → ℕ → Opened NonrecursiveDecimator
opened_by zero N r = record { number = 0; state = fresh N r }
opened_by (suc q) N r = refused_opening (suc q)

unfoldable pub opening : ℕ → ℕ → Opened NonrecursiveDecimator
opening N r = opened_by (settings_number N r) N r

-- 15: settings that its opening refuses; "Its place among the factor's samples, when not below the factor"
unfoldable pub valid_at : ℕ → ℕ → ℕ → Bool
valid_at N r place = eqb (settings_number N r) 0 && ltb place r

abbrev pub valid : NonrecursiveDecimator → Bool
valid d = valid_at d.stages d.r d.place

-- "N times add each value to the one before": a value goes through the first N neighbours; each hands on the sum, and keeps the value
unfoldable pub summed : ℕ → List ℤ → ℤ → Passed ℤ
summed = row kept sum32

-- the neighbours as a value leaves them, and the output if it makes one
pub record Thinned : Type 0 where
  pub state : List ℤ
  pub out : Option ℤ

-- the N neighbours of one halving, and then those of the others
abbrev pub behind : ℕ → List ℤ → Thinned → Thinned
behind N s q = record { state = take N s ++ q.state; out = q.out }

-- m halvings: "drop every first of two", which is a value whose place is even; a second goes on to the next halving, at half the place
unfoldable pub thinned : ℕ → ℕ → List ℤ → ℕ → ℤ → Thinned
thinned N zero s place v = record { state = s; out = Some v }
thinned N (suc m) s place v =
    cond (eqb (place % 2) 0) (record { state = (summed N s v).state; out = None })
    (behind N (summed N s v).state (thinned N m (drop N (summed N s v).state) (place / 2) (summed N s v).val))

-- the place after one sample more
abbrev pub next_place : ℕ → ℕ → ℕ
next_place place r = cond (ltb (place + 1) r) (place + 1) 0

unfoldable pub nonrecursive : Section NonrecursiveDecimator ℤ ℤ
nonrecursive =
    record {
      next = λ d x. nonrecursive_of d.stages d.r (thinned d.stages (halvings d.r) d.neighbours d.place (wrap w32 x)).state (next_place d.place d.r);
      out = λ d x. (thinned d.stages (halvings d.r) d.neighbours d.place (wrap w32 x)).out;
    }

abbrev pub refused_step : ℕ → NonrecursiveDecimator → Outcome (Option ℤ) NonrecursiveDecimator
refused_step n d = record { number = n; value = None; state = d }

-- `process_sample`
unfoldable pub step : NonrecursiveDecimator → ℤ → Outcome (Option ℤ) NonrecursiveDecimator
step d x = cond (valid d) (record { number = 0; value = nonrecursive.out d x; state = nonrecursive.next d x }) (refused_step 15 d)

unfoldable pub scaled_nonrecursive : Section NonrecursiveDecimator ℤ ℤ
scaled_nonrecursive =
    record { next = nonrecursive.next; out = λ d x. scaled_by (gain_bits d.stages d.r) (nonrecursive.out d x) }

-- `process_sample_scaled`; row 3, "gain bits over 31"
unfoldable pub scaled_step : NonrecursiveDecimator → ℤ → Outcome (Option ℤ) NonrecursiveDecimator
scaled_step d x =
    cond (valid d)
    (cond (leb (gain_bits d.stages d.r) most_bits)
    (record { number = 0; value = scaled_nonrecursive.out d x; state = scaled_nonrecursive.next d x })
    (refused_step 3 d))
    (refused_step 15 d)

-- the decimator as a machine with nothing ever due, and a feed of it: a full span stops it, else the next sample is taken
abbrev pub machine : Machine NonrecursiveDecimator ℤ ℤ
machine = alone (pos 0) nonrecursive

unfoldable pub fed_block : NonrecursiveDecimator → List ℤ → ℕ → Fed NonrecursiveDecimator ℤ
fed_block d w places = feed machine d w places

-- `process_block`, and the span that it leaves
unfoldable pub block : NonrecursiveDecimator → List ℤ → ℕ → Outcome Moved NonrecursiveDecimator
block d w places =
    cond (valid d)
    (record {
      number = 0;
      value = record { taken = (fed_block d w places).taken; written = length (fed_block d w places).written };
      state = (fed_block d w places).line;
    })
    (record { number = 15; value = record { taken = 0; written = 0 }; state = d })

unfoldable pub block_span : NonrecursiveDecimator → List ℤ → List ℤ → List ℤ
block_span d w span =
    cond (valid d)
    (in_front (fed_block d w (length span)).written span)
    span

-- What a decimator d of N stages and factor r keeps over every list of samples
pub record Streams (N r : ℕ) (d : NonrecursiveDecimator) : Type 0 where
  -- no sample is refused: the state stays valid, and the settings stay N and r
  pub unrefused : (w : List ℤ) → valid (state nonrecursive d w) ≡ true
  pub settings : (w : List ℤ) → ((state nonrecursive d w).stages ≡ N) × ((state nonrecursive d w).r ≡ r)
  -- the outputs are Hogenauer's moving sums, scaled or not
  pub sums_made : (w : List ℤ) → outs nonrecursive d w ≡ sums N r w
  pub scaled_made : (w : List ℤ) → outs scaled_nonrecursive d w ≡ scaled_sums N r w
  -- and so they are for every way of cutting the list into blocks
  pub blocks : (h : Feedings ℤ) (w : List ℤ) (places : ℕ) → Promised machine d (λ s. valid s ≡ true) (sums N r) h w places
  -- "From fresh states it gives, sample after sample, what the CIC decimator gives, every wrapped value included"
  pub as_cic : (w : List ℤ) (x : ℤ) → nonrecursive.out (state nonrecursive d w) x ≡ (C.decimator).out (state C.decimator (C.fresh N r) w) x
