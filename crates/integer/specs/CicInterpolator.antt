-- 01, section 7, `CicInterpolator`: "one sample gives r outputs, the N-fold length-r moving sum, modulo 2^32, of inputs each followed by r−1 zeros".
use Rattle.std.specs.Prelude.{◌≡◌, ℕ, zero, suc, ◌*◌, ◌/◌, min, Bool, true, cond, ◌&&◌, List, [], ◌∷◌, ◌++◌, length, take, drop, replicate, ℤ, pos, FitsSigned, nat_le, slice_index_or}
use Rattle.std.specs.Int.{w32}
use Rattle.theory.specs.Feeds.{Feedings, opened, fed}
use Rattle.refusal.specs.Outcome.{Outcome}
use Rattle.refusal.specs.declared.Moved.{Moved}
use Rattle.integer.specs.Limits.{most_stages, stages_ok, factor_ok}
use Rattle.integer.specs.Stages.{integrated, combed}
use Rattle.integer.specs.MovingSums.{stuffed_sums}
use Rattle.integer.specs.declared.cic_interpolator.CicInterpolator.{CicInterpolator}

-- an interpolator from its parts
abbrev pub interpolator_of : ℕ → ℕ → List ℤ → List ℤ → CicInterpolator
interpolator_of N r combs integrators = record { stages = N; r = r; comb_state = combs; integrator_state = integrators }

-- zero in every sum
abbrev pub fresh : ℕ → ℕ → CicInterpolator
fresh N r = interpolator_of N r (replicate most_stages (pos 0)) (replicate most_stages (pos 0))

-- row 15: "settings that its opening refuses"
unfoldable pub valid_at : ℕ → ℕ → Bool
valid_at N r = stages_ok N && factor_ok r

abbrev pub valid : CicInterpolator → Bool
valid d = valid_at d.stages d.r

-- the integrators as a run leaves them, and the values that came out
pub record Filled : Type 0 where
  pub state : List ℤ
  pub outs : List ℤ

abbrev pub ahead : ℤ → Filled → Filled
ahead y f = record { state = f.state; outs = y ∷ f.outs }

-- k values out of N integrators: v goes in, and then zeros
unfoldable pub filled : ℕ → List ℤ → ℤ → ℕ → Filled
filled N s v zero = record { state = s; outs = [] }
filled N s v (suc k) = ahead (integrated N s v).val (filled N (integrated N s v).state (pos 0) k)

-- combs at the sample, integrators at its r outputs
abbrev pub raised : CicInterpolator → ℤ → Filled
raised d x = filled d.stages d.integrator_state (combed d.stages d.comb_state x).val d.r

abbrev pub next : CicInterpolator → ℤ → CicInterpolator
next d x = interpolator_of d.stages d.r (combed d.stages d.comb_state x).state (raised d x).state

-- `process_sample`, and the span that it leaves; row 4, "span shorter than r"
unfoldable pub sample : CicInterpolator → ℤ → List ℤ → Outcome ℕ CicInterpolator
sample d x span =
    cond (valid d)
    (cond (nat_le d.r (length span)) (record { number = 0; value = d.r; state = next d x }) (record { number = 4; value = 0; state = d }))
    (record { number = 15; value = 0; state = d })

unfoldable pub sample_span : CicInterpolator → ℤ → List ℤ → List ℤ
sample_span d x span = cond (valid d) (cond (nat_le d.r (length span)) ((raised d x).outs ++ drop d.r span) span) span

-- a list of samples: the outputs joined, whatever spans they were written to, and the state after them
abbrev pub outs : CicInterpolator → List ℤ → List ℤ
outs d [] = []
outs d (x ∷ w) = (raised d x).outs ++ outs (next d x) w

abbrev pub state : CicInterpolator → List ℤ → CicInterpolator
state d [] = d
state d (x ∷ w) = state (next d x) w

-- `process_block`, which 01 does not name (docs/DECISIONS.md): `process_sample` for as many samples from the front as the span has r places for
abbrev pub block_taken : CicInterpolator → List ℤ → ℕ → ℕ
block_taken d w places = min (length w) (places / d.r)

unfoldable pub block : CicInterpolator → List ℤ → ℕ → Outcome Moved CicInterpolator
block d w places =
    cond (valid d)
    (cond (nat_le d.r places)
    (record {
      number = 0;
      value = record { taken = block_taken d w places; written = block_taken d w places * d.r };
      state = state d (take (block_taken d w places) w);
    })
    (record { number = 4; value = record { taken = 0; written = 0 }; state = d }))
    (record { number = 15; value = record { taken = 0; written = 0 }; state = d })

-- the outputs that it writes, and the span that it leaves
unfoldable pub block_outs : CicInterpolator → List ℤ → ℕ → List ℤ
block_outs d w places = cond (valid d) (cond (nat_le d.r places) (outs d (take (block_taken d w places) w)) []) []

abbrev pub block_span : CicInterpolator → List ℤ → List ℤ → List ℤ
block_span d w span = block_outs d w (length span) ++ drop (block d w (length span)).value.written span

-- blocks one after the other: the state that the last one left, the samples taken and the outputs written, each joined in order
module _ (d : CicInterpolator) where
  abbrev pub state_of : Feedings ℤ → CicInterpolator
  state_of opened = d
  state_of (fed h w places) = (block (state_of h) w places).state

  abbrev pub taken_by_blocks : Feedings ℤ → List ℤ
  taken_by_blocks opened = []
  taken_by_blocks (fed h w places) = taken_by_blocks h ++ take (block (state_of h) w places).value.taken w

  abbrev pub written_by_blocks : Feedings ℤ → List ℤ
  written_by_blocks opened = []
  written_by_blocks (fed h w places) = written_by_blocks h ++ block_outs (state_of h) w places

-- What an interpolator d of N stages and factor r keeps over every list of i32 samples
pub record Streams (N r : ℕ) (d : CicInterpolator) : Type 0 where
  -- no sample is refused for its state
  pub unrefused : (w : List ℤ) → valid (state d w) ≡ true
  -- the outputs are the moving sums of the samples with their zeros
  pub sums_made : (w : List ℤ) → ((k : ℕ) → FitsSigned w32 (slice_index_or w k (pos 0))) → outs d w ≡ stuffed_sums N r w
  -- and so they are for every way of cutting the list into blocks and spans: no block is refused for its state, the state is what the samples taken leave
  -- one by one, and the outputs joined are those of the samples joined
  pub blocks_unrefused : (h : Feedings ℤ) → valid (state_of d h) ≡ true
  pub blocks_state : (h : Feedings ℤ) → state_of d h ≡ state d (taken_by_blocks d h)
  pub blocks_made : (h : Feedings ℤ) → ((k : ℕ) → FitsSigned w32 (slice_index_or (taken_by_blocks d h) k (pos 0))) → written_by_blocks d h ≡ stuffed_sums N r (taken_by_blocks d h)
