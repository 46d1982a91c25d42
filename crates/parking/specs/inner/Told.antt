-- What the code's settings tell, and a line's entries by the kind of thinning: those of neighbours have an empty first one and one more.
use Rattle.std.specs.Prelude.{◌≡◌, ◌<◌, ◌+◌, ◌*◌, length, List, [], ◌∷◌, ℕ}
use Rattle.nonrecursive.specs.declared.thinning.Thinning.{Thinning}
use Rattle.nonrecursive.specs.declared.thinning.Thinning.TheVariants as thinning
use Rattle.line.specs.declared.gauge_line.Line.{Line}
use Rattle.parking.specs.Parked.{Settings, sizes, thin_sizes, half_band_bytes, neighbour_count}
use Rattle.parking.specs.Entries.{fir_on, resampler_on, cic_bytes, neighbours_bytes, settings_in, entries_by}
use Rattle.words.specs.Fields.{IsFloat}
use Rattle.parking.specs.inner.Limits.{InLimits}
use Rattle.parking.specs.Lengths.{ArrayLengths}
use Rattle.parking.specs.declared.settings.ParkedSettings.{ParkedSettings}

abbrev pub numbers_of : ParkedSettings → Settings
numbers_of q =
    record {
      stages = q.stages;
      r = q.r;
      taps = q.taps;
      factor = q.factor;
      depth = q.depth;
      phases = q.phases;
      phase_taps = q.phase_taps;
      straight = q.straight;
      step = q.step;
      cuts = q.cuts;
    }

abbrev pub count_by : Thinning → ℕ
count_by thinning.Integrators = 7
count_by thinning.Neighbours = 8

abbrev pub sizes_by : Thinning → Settings → List ℕ
sizes_by thinning.Integrators q = sizes q
sizes_by thinning.Neighbours q = thin_sizes q

-- how long the CIC entry is, and the entry of the neighbours
abbrev pub first_size : Thinning → ℕ → ℕ
first_size thinning.Integrators stages = 2 + 8 * stages
first_size thinning.Neighbours stages = 0

abbrev pub last_size : Thinning → ℕ → ℕ → ℕ
last_size thinning.Integrators stages r = 0
last_size thinning.Neighbours stages r = 2 + 4 * neighbour_count stages r

-- the sizes of eight entries, of which the last is empty where the kind has seven
abbrev pub all_sizes : Thinning → Settings → List ℕ
all_sizes k q =
    24 ∷ first_size k q.stages ∷ (2 * q.taps) ∷ (2 + 2 * q.taps) ∷ half_band_bytes q.depth ∷ (4 * (q.phases * q.phase_taps)) ∷ (4 + 4 * q.phase_taps) ∷ last_size k q.stages q.r ∷ []

-- the line with its parts that are off as zeros, and its entries
abbrev pub on : Line → Line
on l =
    record {
      thinning = l.thinning;
      cic = l.cic;
      neighbours = l.neighbours;
      fir = fir_on l.fir;
      half_band = l.half_band;
      resampler = resampler_on l.resampler;
      cuts = l.cuts;
    }

abbrev pub parts : Line → List (List ℕ)
parts l = entries_by l.thinning l.cic l.neighbours l.fir l.half_band l.resampler l.cuts

-- what stands in the CIC entry
abbrev pub first_by : Thinning → Line → List ℕ
first_by thinning.Integrators l = cic_bytes l.cic
first_by thinning.Neighbours l = []

abbrev pub first_bytes : Line → List ℕ
first_bytes l = first_by l.thinning l

-- what stands behind the resampler's entry
abbrev pub last_by : Thinning → Line → List ℕ
last_by thinning.Integrators l = []
last_by thinning.Neighbours l = neighbours_bytes l.cic l.neighbours

abbrev pub last_bytes : Line → List ℕ
last_bytes l = last_by l.thinning l

abbrev pub settings_by : Line → Settings
settings_by l = settings_in l.cic l.fir l.half_band.depth l.resampler l.cuts

-- what the types say of a line: its arrays' lengths, that the step is an f32 and the cut count has 32 bits
pub record Lengths (l : Line) : Type 0 where
  pub arrays : ArrayLengths l.cic l.fir l.half_band l.resampler
  pub neighbours : length l.neighbours ≡ 96
  pub step : IsFloat l.resampler.step
  pub cuts : l.cuts < 4294967296

-- such a line whose numbers are in their limits
pub record Fine (l : Line) : Type 0 where
  pub lengths : Lengths l
  pub limits : InLimits (settings_by l)
