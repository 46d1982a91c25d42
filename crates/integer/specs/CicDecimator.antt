-- 01, section 1, `CicDecimator`: its state, its openings and refusals, one sample, one scaled sample and a block; and what holds of every stream.
use Rattle.std.specs.Prelude.{◌≡◌, ℕ, ◌+◌, ◌^◌, Bool, true, cond, ◌&&◌, List, length, replicate, ℤ, pos, nat_le, nat_lt, Option, None, Some}
use Rattle.theory.specs.Lists.{in_front}
use Rattle.theory.specs.Floor.{floor_div}
use Rattle.theory.specs.Sections.{Section, state, outs}
use Rattle.theory.specs.Machines.{Machine, alone}
use Rattle.theory.specs.Feeds.{Fed, feed, Feedings, Promised}
use Rattle.refusal.specs.Outcome.{Outcome}
use Rattle.refusal.specs.declared.Moved.{Moved}
use Rattle.integer.specs.Limits.{most_stages, stages_ok, factor_ok}
use Rattle.integer.specs.Stages.{integrated, combed}
use Rattle.integer.specs.Gain.{gain_bits, most_bits}
use Rattle.integer.specs.MovingSums.{sums, scaled_sums}
use Rattle.integer.specs.declared.cic_decimator.CicDecimator.{CicDecimator}

-- a decimator from its parts
abbrev pub decimator_of : ℕ → ℕ → List ℤ → List ℤ → ℕ → CicDecimator
decimator_of N r integrators combs counter =
    record { stages = N; r = r; integrator_state = integrators; comb_state = combs; sample_counter = counter }

-- zero in every sum
abbrev pub fresh : ℕ → ℕ → CicDecimator
fresh N r = decimator_of N r (replicate most_stages (pos 0)) (replicate most_stages (pos 0)) 0

-- row 15: "settings that its opening refuses; `sample_counter` not below r"
unfoldable pub valid_at : ℕ → ℕ → ℕ → Bool
valid_at N r counter = stages_ok N && (factor_ok r && nat_lt counter r)

abbrev pub valid : CicDecimator → Bool
valid d = valid_at d.stages d.r d.sample_counter

-- whether the next sample completes no sum
abbrev pub waits : CicDecimator → Bool
waits d = nat_lt (d.sample_counter + 1) d.r

-- integrators at every sample, combs at every r-th
unfoldable pub decimator : Section CicDecimator ℤ ℤ
decimator =
    record {
      next = λ d x.
          cond (waits d)
          (decimator_of d.stages d.r (integrated d.stages d.integrator_state x).state d.comb_state (d.sample_counter + 1))
          (decimator_of d.stages d.r (integrated d.stages d.integrator_state x).state
          (combed d.stages d.comb_state (integrated d.stages d.integrator_state x).val).state 0);
      out = λ d x.
          cond (waits d) None
          (Some (combed d.stages d.comb_state (integrated d.stages d.integrator_state x).val).val);
    }

-- a sample that is refused: no sum, and "state stays"
abbrev pub refused_step : ℕ → CicDecimator → Outcome (Option ℤ) CicDecimator
refused_step n d = record { number = n; value = None; state = d }

-- `process_sample`
unfoldable pub step : CicDecimator → ℤ → Outcome (Option ℤ) CicDecimator
step d x =
    cond (valid d)
    (record { number = 0; value = decimator.out d x; state = decimator.next d x })
    (refused_step 15 d)

-- "floor(sum / 2^g)"
abbrev pub scaled_by : ℕ → Option ℤ → Option ℤ
scaled_by g None = None
scaled_by g (Some y) = Some (floor_div y (2 ^ g))

unfoldable pub scaled_decimator : Section CicDecimator ℤ ℤ
scaled_decimator =
    record { next = decimator.next; out = λ d x. scaled_by (gain_bits d.stages d.r) (decimator.out d x) }

-- `process_sample_scaled`; row 3, "gain bits over 31"
unfoldable pub scaled_step : CicDecimator → ℤ → Outcome (Option ℤ) CicDecimator
scaled_step d x =
    cond (valid d)
    (cond (nat_le (gain_bits d.stages d.r) most_bits)
    (record { number = 0; value = scaled_decimator.out d x; state = scaled_decimator.next d x })
    (refused_step 3 d))
    (refused_step 15 d)

-- the decimator as a machine with nothing ever due, and a feed of it: a full span stops it, else the next sample is taken (section 6's step)
abbrev pub machine : Machine CicDecimator ℤ ℤ
machine = alone (pos 0) decimator

unfoldable pub fed_block : CicDecimator → List ℤ → ℕ → Fed CicDecimator ℤ
fed_block d w places = feed machine d w places

-- `process_block`, and the span that it leaves
unfoldable pub block : CicDecimator → List ℤ → ℕ → Outcome Moved CicDecimator
block d w places =
    cond (valid d)
    (record {
      number = 0;
      value = record { taken = (fed_block d w places).taken; written = length (fed_block d w places).written };
      state = (fed_block d w places).line;
    })
    (record { number = 15; value = record { taken = 0; written = 0 }; state = d })

unfoldable pub block_span : CicDecimator → List ℤ → List ℤ → List ℤ
block_span d w span =
    cond (valid d)
    (in_front (fed_block d w (length span)).written span)
    span

-- What a decimator d of N stages and factor r keeps over every list of samples. Since each clause speaks of every list, output k is made at sample
-- (k+1)r−1: a list one shorter has one output fewer
pub record Streams (N r : ℕ) (d : CicDecimator) : Type 0 where
  -- no sample is refused: the state stays valid, and the settings stay N and r
  pub unrefused : (w : List ℤ) → valid (state decimator d w) ≡ true
  pub settings : (w : List ℤ) → ((state decimator d w).stages ≡ N) × ((state decimator d w).r ≡ r)
  -- the outputs are the moving sums, scaled or not
  pub sums_made : (w : List ℤ) → outs decimator d w ≡ sums N r w
  pub scaled_made : (w : List ℤ) → outs scaled_decimator d w ≡ scaled_sums N r w
  -- and so they are for every way of cutting the list into blocks
  pub blocks : (h : Feedings ℤ) (w : List ℤ) (places : ℕ) → Promised machine d (λ s. valid s ≡ true) (sums N r) h w places
