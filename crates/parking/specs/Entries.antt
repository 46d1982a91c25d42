-- 02, request 6: the seven entries of a line, "settings with the cut count, CIC, FIR taps, FIR delay, half-band delays, prototype, resampler"; request 13: the eight of one
-- that sums neighbours; and the line that entries stand for. Both ways go by the same places (docs/parking.md has them as a table).
use Rattle.std.specs.Prelude.{Bool, true, cond, ◌&&◌, List, [], ◌∷◌, ◌++◌, ℕ, zero, suc, ◌+◌, ◌*◌, min, leb, eqb, ℤ, pos, Float, length, get_or, set, take, drop, replicate}
use Rattle.std.specs.Float.{binary32}
use Rattle.std.specs.Float.Ieee.{to_bits, of_bits}
use Rattle.integer.specs.CicDecimator.{decimator_of}
use Rattle.integer.specs.declared.cic_decimator.CicDecimator.{CicDecimator}
use Rattle.nonrecursive.specs.NonrecursiveDecimator.{most_neighbours}
use Rattle.nonrecursive.specs.declared.thinning.Thinning.{Thinning}
use Rattle.nonrecursive.specs.declared.thinning.Thinning.TheVariants as thinning
use Rattle.q15.specs.FirDecimator.{most_taps, fir_zeros}
use Rattle.q15.specs.declared.fir_decimator.FirDecimator.{FirDecimator}
use Rattle.half_band.specs.declared.hbf_stream.HbfStream.{HbfStream}
use Rattle.float.specs.F32.{zero32}
use Rattle.float.specs.PolyphaseOpening as R
use Rattle.float.specs.declared.polyphase_resamp.PolyphaseResampF32.{PolyphaseResampF32}
use Rattle.line.specs.Openings as L
use Rattle.line.specs.declared.gauge_line.Line.{Line}
use Rattle.sheet.specs.Sheet.{le16, le32, bytes16}
use Rattle.sheet.specs.Laid.{laid}
use Rattle.words.specs.Fields.{i16_bytes, i32_bytes, f32_bytes, joined, i16_at, i32_at, f32_at, values_at, is_float, floats_at}
use Rattle.parking.specs.Parked.{Settings, settings_bytes, settings_of, half_band_bytes, neighbour_count}

-- "A part that is off is parked as zeros, settings too"
unfoldable pub fir_on : FirDecimator → FirDecimator
fir_on s = cond (eqb s.tap_count 0) fir_zeros s

unfoldable pub resampler_on : PolyphaseResampF32 → PolyphaseResampF32
resampler_on s = cond (eqb s.phases 0) R.zeros s

-- ---- writing

unfoldable pub settings_in : CicDecimator → FirDecimator → ℕ → PolyphaseResampF32 → ℕ → Settings
settings_in d f depth p cuts =
    record {
      stages = d.stages;
      r = d.r;
      taps = f.tap_count;
      factor = f.factor;
      depth = depth;
      phases = p.phases;
      phase_taps = p.taps;
      straight = cond p.straight 1 0;
      step = to_bits binary32 p.step;
      cuts = cuts;
    }

unfoldable pub cic_bytes : CicDecimator → List ℕ
cic_bytes d =
    bytes16 d.sample_counter ++ (joined i32_bytes (take d.stages d.integrator_state) ++ joined i32_bytes (take d.stages d.comb_state))

unfoldable pub tap_bytes : FirDecimator → List ℕ
tap_bytes s = joined i16_bytes (take s.tap_count s.taps)

unfoldable pub delay_bytes : FirDecimator → List ℕ
delay_bytes s = bytes16 s.wait ++ joined i16_bytes (take s.tap_count s.delay)

-- how many delays stage k has: 4M
abbrev pub window_of : ℕ → ℕ
window_of k = get_or (12 ∷ 16 ∷ 20 ∷ 40 ∷ 92 ∷ []) k 0

unfoldable pub stage_bytes : HbfStream → ℕ → List ℕ
stage_bytes s k =
    bytes16 (get_or s.counts k 0) ++ (f32_bytes (get_or s.held k zero32) ++ joined f32_bytes (take (window_of k) (drop (96 * k) s.delays)))

-- the first n stages
unfoldable pub stages_bytes : HbfStream → ℕ → List ℕ
stages_bytes s zero = []
stages_bytes s (suc n) = stages_bytes s n ++ stage_bytes s n

unfoldable pub prototype_bytes : PolyphaseResampF32 → List ℕ
prototype_bytes p = joined f32_bytes (take (p.phases * p.taps) p.prototype)

unfoldable pub resampler_bytes : PolyphaseResampF32 → List ℕ
resampler_bytes p = f32_bytes p.mu ++ joined f32_bytes (take p.taps p.delay)

unfoldable pub entries_of : CicDecimator → FirDecimator → HbfStream → PolyphaseResampF32 → ℕ → List (List ℕ)
entries_of d f s p cuts =
    settings_bytes (settings_in d f s.depth p cuts)
    ∷ cic_bytes d ∷ tap_bytes f ∷ delay_bytes f ∷ stages_bytes s (min s.depth 5) ∷ prototype_bytes p ∷ resampler_bytes p ∷ []

-- "its place and then N neighbours for each halving"
unfoldable pub neighbours_bytes : CicDecimator → List ℤ → List ℕ
neighbours_bytes d neighbours = bytes16 d.sample_counter ++ joined i32_bytes (take (neighbour_count d.stages d.r) neighbours)

-- "parked in eight entries, the CIC one empty"
unfoldable pub thin_entries : CicDecimator → List ℤ → FirDecimator → HbfStream → PolyphaseResampF32 → ℕ → List (List ℕ)
thin_entries d neighbours f s p cuts =
    settings_bytes (settings_in d f s.depth p cuts)
    ∷ [] ∷ tap_bytes f ∷ delay_bytes f ∷ stages_bytes s (min s.depth 5) ∷ prototype_bytes p ∷ resampler_bytes p ∷ neighbours_bytes d neighbours ∷ []

unfoldable pub entries_by : Thinning → CicDecimator → List ℤ → FirDecimator → HbfStream → PolyphaseResampF32 → ℕ → List (List ℕ)
entries_by thinning.Integrators d neighbours f s p cuts = entries_of d f s p cuts
entries_by thinning.Neighbours d neighbours f s p cuts = thin_entries d neighbours f s p cuts

unfoldable pub line_entries : Line → List (List ℕ)
line_entries l = entries_by l.thinning l.cic l.neighbours (fir_on l.fir) l.half_band (resampler_on l.resampler) l.cuts

-- ---- reading: each field at the place where it was written, and zeros behind those that the settings use

unfoldable pub cic_from : Settings → List ℕ → CicDecimator
cic_from q e =
    record {
      stages = q.stages;
      r = q.r;
      integrator_state = laid 0 (values_at i32_at 4 e 2 q.stages) (replicate 8 (pos 0));
      comb_state = laid 0 (values_at i32_at 4 e (2 + 4 * q.stages) q.stages) (replicate 8 (pos 0));
      sample_counter = le16 e 0;
    }

-- of a line that sums neighbours: the place, and integrators and combs, which are off, as zeros
unfoldable pub place_from : Settings → List ℕ → CicDecimator
place_from q e = decimator_of q.stages q.r (replicate 8 (pos 0)) (replicate 8 (pos 0)) (le16 e 0)

unfoldable pub neighbours_from : Settings → List ℕ → List ℤ
neighbours_from q e = laid 0 (values_at i32_at 4 e 2 (neighbour_count q.stages q.r)) (replicate most_neighbours (pos 0))

unfoldable pub fir_from : Settings → List ℕ → List ℕ → FirDecimator
fir_from q taps delay =
    record {
      taps = laid 0 (values_at i16_at 2 taps 0 q.taps) (replicate most_taps (pos 0));
      tap_count = q.taps;
      factor = q.factor;
      delay = laid 0 (values_at i16_at 2 delay 2 q.taps) (replicate most_taps (pos 0));
      wait = le16 delay 0;
    }

-- of the first n stages; stage k stands at `half_band_bytes k`
unfoldable pub counts_from : List ℕ → ℕ → List ℕ
counts_from e zero = replicate 5 0
counts_from e (suc n) = set (counts_from e n) n (le16 e (half_band_bytes n))

unfoldable pub held_from : List ℕ → ℕ → List Float
held_from e zero = replicate 5 zero32
held_from e (suc n) = set (held_from e n) n (f32_at e (half_band_bytes n + 2))

unfoldable pub delays_from : List ℕ → ℕ → List Float
delays_from e zero = replicate 480 zero32
delays_from e (suc n) = laid (96 * n) (values_at f32_at 4 e (half_band_bytes n + 6) (window_of n)) (delays_from e n)

unfoldable pub half_band_from : Settings → List ℕ → HbfStream
half_band_from q e =
    record { depth = q.depth; delays = delays_from e (min q.depth 5); held = held_from e (min q.depth 5); counts = counts_from e (min q.depth 5) }

unfoldable pub resampler_from : Settings → List ℕ → List ℕ → PolyphaseResampF32
resampler_from q cells e =
    record {
      phases = q.phases;
      taps = q.phase_taps;
      straight = leb 1 q.straight;
      mu = f32_at e 0;
      step = of_bits binary32 q.step;
      delay = laid 0 (values_at f32_at 4 e 4 q.phase_taps) (replicate 16 zero32);
      prototype = laid 0 (values_at f32_at 4 cells 0 (q.phases * q.phase_taps)) (replicate 1024 zero32);
    }

-- entry k
abbrev pub entry_of : List (List ℕ) → ℕ → List ℕ
entry_of es k = get_or es k []

-- section 1 as given, and the other parts from their entries
unfoldable pub line_with : Thinning → CicDecimator → List ℤ → List (List ℕ) → Line
line_with k d neighbours es =
    let q = settings_of (entry_of es 0) in
    record {
      thinning = k;
      cic = d;
      neighbours = neighbours;
      fir = fir_from q (entry_of es 2) (entry_of es 3);
      half_band = half_band_from q (entry_of es 4);
      resampler = resampler_from q (entry_of es 5) (entry_of es 6);
      cuts = q.cuts;
    }

-- the count of entries alone says which kind thins
unfoldable pub line_from : List (List ℕ) → Line
line_from es =
    let q = settings_of (entry_of es 0) in
    cond (eqb (length es) 8) (line_with thinning.Neighbours (place_from q (entry_of es 7)) (neighbours_from q (entry_of es 7)) es)
    (line_with thinning.Integrators (cic_from q (entry_of es 1)) (replicate most_neighbours (pos 0)) es)

-- ---- "then 15 as for any state, or for fields that no parking writes"

-- of the first n half-band stages: each held value and its delays are floats as parking writes them
unfoldable pub stages_written : List ℕ → ℕ → Bool
stages_written e zero = true
stages_written e (suc n) = stages_written e n && floats_at e (half_band_bytes n + 2) (1 + window_of n)

-- a part that is off is zeros
unfoldable pub fir_written : Settings → List ℕ → Bool
fir_written q e = cond (eqb q.taps 0) (eqb q.factor 0 && eqb (le16 e 0) 0) true

unfoldable pub resampler_written : Settings → List ℕ → Bool
resampler_written q e = cond (eqb q.phases 0) (eqb q.phase_taps 0 && (eqb q.straight 0 && (eqb q.step 0 && eqb (le32 e 0) 0))) true

unfoldable pub written : List (List ℕ) → Bool
written es =
    let q = settings_of (entry_of es 0) in
    leb q.straight 1 && (is_float q.step && (fir_written q (entry_of es 3) && (resampler_written q (entry_of es 6)
    && (stages_written (entry_of es 4) (min q.depth 5) && (floats_at (entry_of es 5) 0 (q.phases * q.phase_taps) && floats_at (entry_of es 6) 0 (1 + q.phase_taps))))))

-- at a limit of the line's FIR
unfoldable pub fine : ℕ → List (List ℕ) → Bool
fine most es = leb (settings_of (entry_of es 0)).taps most && (L.valid (line_from es) && written es)
