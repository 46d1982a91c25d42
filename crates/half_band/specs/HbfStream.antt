-- 01, section 4, the cascade in the line: "The line holds an odd sample until its partner comes". The cascade's shape, over the taps of its stages, and
-- `HbfStream`, which has the table of section 4.
use Rattle.std.specs.Prelude.{◌≡◌, Bool, true, false, cond, ◌&&◌, List, [], ◌∷◌, ℕ, zero, suc, ◌*◌, min, eqb, leb, length, get_or, set, take, drop, replicate, Float, Option, None, Some}
use Rattle.std.specs.Float.{nan}
use Rattle.theory.specs.Sections.{Section, state, outs}
use Rattle.refusal.specs.Outcome.{Opened, Outcome}
use Rattle.refusal.specs.Rows.{outside}
use Rattle.half_band.specs.Limits.{most_depth}
use Rattle.half_band.specs.HalfBand.{decimated_by}
use Rattle.float.specs.F32.{zero32}
use Rattle.half_band.specs.HbfTaps.{stage_taps, decimation}
use Rattle.half_band.specs.Reach.{reach_of, Reaches}
use Rattle.half_band.specs.Windows.{slid, dec_value, spliced}
use Rattle.half_band.specs.declared.hbf_stream.HbfStream.{HbfStream}

-- a stage: its window, the sample that it holds, and how many it holds
pub record Half : Type 0 where
  pub window : List Float
  pub held : Float
  pub count : ℕ

-- a sample is held; its partner makes the pair that goes into the decimator with taps c, and then nothing is held
unfoldable pub half : List Float → Section Half Float Float
half c =
    record {
      next = λ h x.
          cond (eqb h.count 0) (record { window = h.window; held = x; count = 1 })
          (record { window = slid h.window (h.held ∷ x ∷ []); held = zero32; count = 0 });
      out = λ h x. cond (eqb h.count 0) None (Some (dec_value c (slid h.window (h.held ∷ x ∷ []))));
    }

-- what a sample makes of a cascade
pub record Passed : Type 0 where
  pub out : Option Float
  pub state : HbfStream

-- the shape, over the taps of each stage
module _ (taps : ℕ → List Float) where
  -- stage k of a state: its window is in front of the 96 delays from 96k on
  unfoldable pub stage_in : ℕ → HbfStream → Half
  stage_in k s =
      record { window = take (4 * length (taps k)) (drop (96 * k) s.delays); held = get_or s.held k nan; count = get_or s.counts k 0 }

  unfoldable pub with_stage : ℕ → Half → HbfStream → HbfStream
  with_stage k h s =
      record {
        depth = s.depth;
        delays = spliced (96 * k) (4 * length (taps k)) h.window s.delays;
        held = set s.held k h.held;
        counts = set s.counts k h.count;
      }

  -- a value, if there is one, goes into n stages from stage k on
  unfoldable pub through : ℕ → ℕ → Option Float → HbfStream → Passed
  through zero k o s = record { out = o; state = s }
  through (suc n) k None s = record { out = None; state = s }
  through (suc n) k (Some x) s = through n (suc k) ((half (taps k)).out (stage_in k s) x) (with_stage k ((half (taps k)).next (stage_in k s) x) s)

  -- through the first `depth` stages; where there are none the value is handed on
  unfoldable pub stream : Section HbfStream Float Float
  stream =
      record { next = λ s x. (through (min s.depth most_depth) 0 (Some x) s).state; out = λ s x. (through (min s.depth most_depth) 0 (Some x) s).out }

-- the table of section 4
unfoldable pub hbf_stream : Section HbfStream Float Float
hbf_stream = stream (stage_taps decimation)

-- a state of its parts
abbrev pub stream_of : ℕ → List Float → List Float → List ℕ → HbfStream
stream_of depth delays held counts = record { depth = depth; delays = delays; held = held; counts = counts }

abbrev pub stream_fresh : ℕ → HbfStream
stream_fresh depth = stream_of depth (replicate 480 zero32) (replicate most_depth zero32) (replicate most_depth 0)

-- 11: "depth over 5, or a cascade of 0 (not the line)"
abbrev pub stream_opening : ℕ → Opened HbfStream
stream_opening depth = cond (outside depth 1 most_depth) (record { number = 11; state = stream_fresh 0 }) (record { number = 0; state = stream_fresh depth })

-- 15: "more than one held sample at one half-band stage", of the first n
unfoldable pub held_fine : ℕ → List ℕ → Bool
held_fine zero counts = true
held_fine (suc n) counts = held_fine n counts && leb (get_or counts n 0) 1

-- 15 beside the line: these, and "settings that its opening refuses"; so the zeros of a refused opening are refused too
unfoldable pub stream_refused : ℕ → List ℕ → Bool
stream_refused depth counts = cond (outside depth 1 most_depth) true (cond (held_fine depth counts) false true)

-- 15 in the line, where 0 means off and "a part that is off is not checked"
unfoldable pub stream_refused_in_line : ℕ → List ℕ → Bool
stream_refused_in_line depth counts = cond (eqb depth 0) false (stream_refused depth counts)

abbrev pub stream_reset : HbfStream → Opened HbfStream
stream_reset s = cond (stream_refused s.depth s.counts) (record { number = 15; state = s }) (stream_opening s.depth)

-- one sample
abbrev pub stream_step : HbfStream → Float → Outcome (Option Float) HbfStream
stream_step s x =
    cond (stream_refused s.depth s.counts) (record { number = 15; value = None; state = s })
    (record { number = 0; value = hbf_stream.out s x; state = hbf_stream.next s x })

-- what an opening of `depth` stages that was not refused gives
pub record StreamMeets (depth : ℕ) (s : HbfStream) : Type 0 where
  -- no sample after it is refused
  pub never_refused : (v : List Float) → stream_refused (state hbf_stream s v).depth (state hbf_stream s v).counts ≡ false
  -- the outputs of any list are those of each stage run on the whole list of the stage before
  pub whole : (v : List Float) → outs hbf_stream s v ≡ decimated_by (stage_taps decimation) 0 depth v
  -- 02, §11, "From fresh states": output j follows from the reach samples that end at sample j × 2^d
  pub reach : Reaches (reach_of (stage_taps decimation) depth) depth (outs hbf_stream s)
