-- 01, section 7, `HbfIntCascade`: it is given whole blocks, and runs each stage on the whole list of the stage before. The shape, over the taps of its
-- stages, and what its calls answer, with the table of section 7.
use Rattle.std.specs.Prelude.{◌≡◌, Bool, false, cond, List, [], ◌∷◌, ◌++◌, ℕ, zero, suc, ◌*◌, ◌/◌, ◌^◌, min, length, take, drop, replicate, Float}
use Rattle.theory.specs.Sections.{state, outs}
use Rattle.refusal.specs.Outcome.{Opened, Outcome}
use Rattle.half_band.specs.Limits.{most_depth}
use Rattle.refusal.specs.Rows.{outside, samples_refused}
use Rattle.half_band.specs.HalfBand.{flat, interpolated_by}
use Rattle.float.specs.F32.{zero32}
use Rattle.half_band.specs.HbfTaps.{stage_taps, interpolation}
use Rattle.half_band.specs.Windows.{interpolator, spliced}
use Rattle.half_band.specs.declared.hbf_int_cascade.HbfIntCascade.{HbfIntCascade}

-- the outputs of a list, and the delays after it
pub record Upsampled : Type 0 where
  pub outs : List Float
  pub delays : List Float

module _ (taps : ℕ → List Float) where
  -- the window of stage k is in front of the 48 delays from 48k on
  abbrev pub int_stage : ℕ → List Float → List Float
  int_stage k delays = take (2 * length (taps k)) (drop (48 * k) delays)

  -- the list v through n stages from stage k on
  unfoldable pub upsampled : ℕ → ℕ → List Float → List Float → Upsampled
  upsampled zero k delays v = record { outs = v; delays = delays }
  upsampled (suc n) k delays v =
      upsampled n (suc k) (spliced (48 * k) (2 * length (taps k)) (state (interpolator (taps k)) (int_stage k delays) v) delays)
      (flat (outs (interpolator (taps k)) (int_stage k delays) v))

-- the first `depth` stages of section 7's table
unfoldable pub int_cascade_run : HbfIntCascade → List Float → Upsampled
int_cascade_run s v = upsampled (stage_taps interpolation) (min s.depth most_depth) 0 s.delays v

abbrev pub int_cascade_after : HbfIntCascade → List Float → HbfIntCascade
int_cascade_after s v = record { depth = s.depth; delays = (int_cascade_run s v).delays }

abbrev pub int_cascade_of : ℕ → List Float → HbfIntCascade
int_cascade_of depth delays = record { depth = depth; delays = delays }

abbrev pub int_cascade_fresh : ℕ → HbfIntCascade
int_cascade_fresh depth = record { depth = depth; delays = replicate 240 zero32 }

-- 11: "depth over 5, or a cascade of 0"
abbrev pub int_cascade_opening : ℕ → Opened HbfIntCascade
int_cascade_opening depth = cond (outside depth 1 most_depth) (record { number = 11; state = int_cascade_fresh 0 }) (record { number = 0; state = int_cascade_fresh depth })

-- 15: "settings that its opening refuses"
abbrev pub int_cascade_refused : HbfIntCascade → Bool
int_cascade_refused s = outside s.depth 1 most_depth

abbrev pub int_cascade_reset : HbfIntCascade → Opened HbfIntCascade
int_cascade_reset s = cond (int_cascade_refused s) (record { number = 15; state = s }) (int_cascade_opening s.depth)

-- the samples that a block takes: 2^d places for each
abbrev pub int_cascade_count : ℕ → ℕ → ℕ → ℕ
int_cascade_count depth n span = min n (span / 2 ^ depth)

abbrev pub int_cascade_block : HbfIntCascade → List Float → ℕ → Outcome ℕ HbfIntCascade
int_cascade_block s v span =
    cond (int_cascade_refused s) (record { number = 15; value = 0; state = s })
    (cond (samples_refused (length v) span) (record { number = 7; value = 0; state = s })
    (record { number = 0; value = int_cascade_count s.depth (length v) span * 2 ^ s.depth; state = int_cascade_after s (take (int_cascade_count s.depth (length v) span) v) }))

-- and the span after it: the outputs in front, the rest as it was
abbrev pub int_cascade_span : HbfIntCascade → List Float → List Float → List Float
int_cascade_span s v span =
    cond (int_cascade_refused s) span
    (cond (samples_refused (length v) (length span)) span
    ((int_cascade_run s (take (int_cascade_count s.depth (length v) (length span)) v)).outs ++ drop (int_cascade_count s.depth (length v) (length span) * 2 ^ s.depth) span))

-- lists one after the other
abbrev pub joined : List (List Float) → List Float
joined [] = []
joined (v ∷ vs) = v ++ joined vs

-- the cascade after blocks one after the other
unfoldable pub int_cascade_left : HbfIntCascade → List (List Float) → HbfIntCascade
int_cascade_left s [] = s
int_cascade_left s (v ∷ vs) = int_cascade_left (int_cascade_after s v) vs

-- and their outputs
unfoldable pub int_cascade_blocks : HbfIntCascade → List (List Float) → List Float
int_cascade_blocks s [] = []
int_cascade_blocks s (v ∷ vs) = (int_cascade_run s v).outs ++ int_cascade_blocks (int_cascade_after s v) vs

-- what an opening of `depth` stages that was not refused gives
pub record IntCascadeMeets (depth : ℕ) (s : HbfIntCascade) : Type 0 where
  -- no block is refused for its state, whatever blocks came before it
  pub never_refused : (vs : List (List Float)) → int_cascade_refused (int_cascade_left s vs) ≡ false
  -- the outputs of any blocks are those of each stage run on the whole list of the stage before, from the samples of all blocks joined
  pub whole : (vs : List (List Float)) → int_cascade_blocks s vs ≡ interpolated_by (stage_taps interpolation) 0 depth (joined vs)
