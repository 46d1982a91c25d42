-- 01, section 4, `HbfDecCascade`, "Depth 1 to 5": it is given whole blocks, and runs as the line's cascade that holds nothing.
use Rattle.std.specs.Prelude.{◌≡◌, Bool, false, cond, List, ◌++◌, ℕ, ◌*◌, ◌/◌, ◌^◌, min, length, take, drop, replicate, Float, Result, Ok, Err}
use Rattle.theory.specs.Sections.{state, outs}
use Rattle.refusal.specs.Table.{number_of}
use Rattle.refusal.specs.declared.Refusal.{Refusal}
use Rattle.refusal.specs.Outcome.{Opened, Outcome}
use Rattle.half_band.specs.Limits.{most_depth}
use Rattle.refusal.specs.Rows.{outside, samples_refused}
use Rattle.half_band.specs.HalfBand.{decimated_by}
use Rattle.float.specs.F32.{zero32}
use Rattle.half_band.specs.HbfTaps.{stage_taps, decimation}
use Rattle.half_band.specs.HbfTaps98.{decimation98}
use Rattle.half_band.specs.Reach.{reach_of, Reaches}
use Rattle.half_band.specs.HbfStream.{stream, stream_of}
use Rattle.half_band.specs.declared.hbf_stream.HbfStream.{HbfStream}
use Rattle.half_band.specs.declared.hbf_dec_cascade.DecCascade.{DecCascade}

-- a cascade over whichever table
pub record Cascade : Type 0 where
  pub depth : ℕ
  pub delays : List Float

-- the stages with nothing held
abbrev pub unheld : Cascade → HbfStream
unheld s = stream_of s.depth s.delays (replicate most_depth zero32) (replicate most_depth 0)

abbrev pub cascade_of : ℕ → List Float → Cascade
cascade_of depth delays = record { depth = depth; delays = delays }

abbrev pub dec_cascade_fresh : ℕ → Cascade
dec_cascade_fresh depth = record { depth = depth; delays = replicate 480 zero32 }

-- 11: "depth over 5, or a cascade of 0"
abbrev pub dec_cascade_opening : ℕ → Opened Cascade
dec_cascade_opening depth = cond (outside depth 1 most_depth) (record { number = 11; state = dec_cascade_fresh 0 }) (record { number = 0; state = dec_cascade_fresh depth })

-- the code's answer to an opening, over whichever table
abbrev pub told_cascade : {T : Type 0} → Result (DecCascade T) Refusal → Opened Cascade
told_cascade (Ok s) = record { number = 0; state = cascade_of s.depth s.delays }
told_cascade (Err q) = record { number = number_of q; state = dec_cascade_fresh 0 }

-- 15: "settings that its opening refuses"
abbrev pub dec_cascade_refused : Cascade → Bool
dec_cascade_refused s = outside s.depth 1 most_depth

abbrev pub dec_cascade_reset : Cascade → Opened Cascade
dec_cascade_reset s = cond (dec_cascade_refused s) (record { number = 15; state = s }) (dec_cascade_opening s.depth)

-- the outputs of a block of n samples: one for each 2^d of them, as many as the span has places. The rest of the samples is left unread
abbrev pub dec_cascade_count : ℕ → ℕ → ℕ → ℕ
dec_cascade_count depth n span = min span (n / 2 ^ depth)

abbrev pub dec_cascade_taken : ℕ → List Float → ℕ → List Float
dec_cascade_taken depth v span = take (dec_cascade_count depth (length v) span * 2 ^ depth) v

-- the shape, over the taps of each stage
module _ (taps : ℕ → List Float) where
  -- the cascade after the samples v
  abbrev pub after_by : Cascade → List Float → Cascade
  after_by s v = record { depth = s.depth; delays = (state (stream taps) (unheld s) v).delays }

  abbrev pub block_by : Cascade → List Float → ℕ → Outcome ℕ Cascade
  block_by s v span =
      cond (dec_cascade_refused s) (record { number = 15; value = 0; state = s })
      (cond (samples_refused (length v) span) (record { number = 7; value = 0; state = s })
      (record { number = 0; value = dec_cascade_count s.depth (length v) span; state = after_by s (dec_cascade_taken s.depth v span) }))

  abbrev pub span_by : Cascade → List Float → List Float → List Float
  span_by s v span =
      cond (dec_cascade_refused s) span
      (cond (samples_refused (length v) (length span)) span
      (outs (stream taps) (unheld s) (dec_cascade_taken s.depth v (length span)) ++ drop (dec_cascade_count s.depth (length v) (length span)) span))

  -- what an opening of `depth` stages that was not refused gives
  pub record MeetsBy (depth : ℕ) (s : Cascade) : Type 0 where
    -- no block after it is refused for its state
    pub never_refused : (v : List Float) → dec_cascade_refused (after_by s v) ≡ false
    -- after the samples that blocks take, whole frames of 2^d, nothing is held: so a next block goes on as one list would
    pub nothing_held : (v : List Float) (q : ℕ) → length v ≡ q * 2 ^ depth → state (stream taps) (unheld s) v ≡ unheld (after_by s v)
    -- the outputs of any list are those of each stage run on the whole list of the stage before
    pub whole : (v : List Float) → outs (stream taps) (unheld s) v ≡ decimated_by taps 0 depth v
    -- 02, §11, "From fresh states": output j follows from the reach samples that end at sample j × 2^d
    pub reach : Reaches (reach_of taps depth) depth (outs (stream taps) (unheld s))

-- with the table of section 4
abbrev pub dec_cascade_block : Cascade → List Float → ℕ → Outcome ℕ Cascade
dec_cascade_block = block_by (stage_taps decimation)

abbrev pub dec_cascade_span : Cascade → List Float → List Float → List Float
dec_cascade_span = span_by (stage_taps decimation)

abbrev pub DecCascadeMeets : ℕ → Cascade → Type 0
DecCascadeMeets = MeetsBy (stage_taps decimation)

-- 02, §11: with the 98 dB table
abbrev pub dec_cascade98_block : Cascade → List Float → ℕ → Outcome ℕ Cascade
dec_cascade98_block = block_by (stage_taps decimation98)

abbrev pub dec_cascade98_span : Cascade → List Float → List Float → List Float
dec_cascade98_span = span_by (stage_taps decimation98)

abbrev pub DecCascade98Meets : ℕ → Cascade → Type 0
DecCascade98Meets = MeetsBy (stage_taps decimation98)
