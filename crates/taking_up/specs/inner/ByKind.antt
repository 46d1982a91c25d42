-- Taking up by the kind of thinning, which the count of entries says: the seven entries and the eight as one record, and each definition of `Taking` at either.
use Rattle.std.specs.Prelude.{◌≡◌, Bool, ◌&&◌, List, [], ℕ, ◌+◌, ◌*◌, eqb, length, Option, None, Some, Result, Ok, Err, unwrap_or, option_copied}
use Rattle.refusal.specs.Outcome.{Opened}
use Rattle.refusal.specs.Table.{number_of}
use Rattle.refusal.specs.declared.Refusal.{Refusal}
use Rattle.nonrecursive.specs.declared.thinning.Thinning.{Thinning}
use Rattle.nonrecursive.specs.declared.thinning.Thinning.TheVariants as thinning
use Rattle.line.specs.Openings as L
use Rattle.line.specs.Placed.{line_on}
use Rattle.line.specs.declared.gauge_line.Line.{Line}
use Rattle.line.specs.declared.lent.LineNumbers.{LineNumbers}
use Rattle.line.specs.declared.places.Places.{Places}
use Rattle.sheet.specs.Sheet.{present, entry}
use Rattle.parking.specs.Parked.{Settings, half_band_bytes, neighbour_count}
use Rattle.taking_up.specs.inner.Taking.{line_of_seven, line_of_eight, long_as, thin_long_as, opened_in, opened_from, thin_opened_from}
use Rattle.taking_up.specs.declared.entries.Entries.{Entries}

pub record Parts : Type 0 where
  pub settings : List ℕ
  pub cic : List ℕ
  pub taps : List ℕ
  pub delay : List ℕ
  pub half_band : List ℕ
  pub cells : List ℕ
  pub resampler : List ℕ
  pub last : List ℕ

-- the kind: of neighbours there is a last entry
abbrev pub kind_by : {A : Type 0} → Option A → Thinning
kind_by None = thinning.Integrators
kind_by (Some last) = thinning.Neighbours

abbrev pub kind_in : Entries → Thinning
kind_in e = kind_by e.last

abbrev pub told : Entries → Parts
told e =
    record {
      settings = e.settings.now;
      cic = e.cic.now;
      taps = e.taps.now;
      delay = e.delay.now;
      half_band = e.half_band.now;
      cells = e.cells.now;
      resampler = e.resampler.now;
      last = unwrap_or (option_copied e.last) [];
    }

-- those of the bytes b, for a reader that keeps a count
abbrev pub last_in : Thinning → List ℕ → ℕ → List ℕ
last_in thinning.Integrators b n = []
last_in thinning.Neighbours b n = entry present b n 7

abbrev pub parts_in : Thinning → List ℕ → ℕ → Parts
parts_in k b n =
    record {
      settings = entry present b n 0;
      cic = entry present b n 1;
      taps = entry present b n 2;
      delay = entry present b n 3;
      half_band = entry present b n 4;
      cells = entry present b n 5;
      resampler = entry present b n 6;
      last = last_in k b n;
    }

-- entries as long as the settings make them: what only one kind has, and what both have
abbrev pub first_by : Thinning → Settings → ℕ → ℕ → Bool
first_by thinning.Integrators q cic last = eqb cic (2 + 8 * q.stages)
first_by thinning.Neighbours q cic last = eqb cic 0 && eqb last (2 + 4 * neighbour_count q.stages q.r)

abbrev pub rest_by : Settings → Parts → Bool
rest_by q e = eqb (length e.taps) (2 * q.taps) && (eqb (length e.delay) (2 + 2 * q.taps) && (eqb (length e.half_band) (half_band_bytes q.depth) && (eqb (length e.cells) (4 * (q.phases * q.phase_taps)) && eqb (length e.resampler) (4 + 4 * q.phase_taps))))

abbrev pub long_by : Thinning → Settings → Parts → Bool
long_by thinning.Integrators q e = long_as q (length e.cic) (length e.taps) (length e.delay) (length e.half_band) (length e.cells) (length e.resampler)
long_by thinning.Neighbours q e = thin_long_as q (length e.cic) (length e.taps) (length e.delay) (length e.half_band) (length e.cells) (length e.resampler) (length e.last)

pub record Long (k : Thinning) (q : Settings) (e : Parts) : Type 0 where
  pub cic : k ≡ thinning.Integrators → length e.cic ≡ 2 + 8 * q.stages
  pub last : k ≡ thinning.Neighbours → length e.last ≡ 2 + 4 * neighbour_count q.stages q.r
  pub taps : length e.taps ≡ 2 * q.taps
  pub delay : length e.delay ≡ 2 + 2 * q.taps
  pub half_band : length e.half_band ≡ half_band_bytes q.depth
  pub cells : length e.cells ≡ 4 * (q.phases * q.phase_taps)
  pub resampler : length e.resampler ≡ 4 + 4 * q.phase_taps

-- the line of the entries
abbrev pub line_by : Thinning → Settings → Parts → Line
line_by thinning.Integrators q e = line_of_seven q e.cic e.taps e.delay e.half_band e.cells e.resampler
line_by thinning.Neighbours q e = line_of_eight q e.taps e.delay e.half_band e.cells e.resampler e.last

-- what reading answers: the line of the numbers that were read and of the arrays that are lent, or a refusal, and zeros
abbrev pub told_read : Result LineNumbers Refusal → Places → Opened Line
told_read (Ok n) lent = record { number = 0; state = line_on n lent }
told_read (Err q) lent = record { number = number_of q; state = L.zeros }

-- what entries of the right lengths answer, and what entries answer
abbrev pub opened_in_by : Thinning → Settings → Parts → Opened Line
opened_in_by k q e = opened_in (line_by k q e) q e.delay e.half_band e.cells e.resampler

abbrev pub opened_by : Thinning → Parts → Opened Line
opened_by thinning.Integrators e = opened_from e.settings e.cic e.taps e.delay e.half_band e.cells e.resampler
opened_by thinning.Neighbours e = thin_opened_from e.settings e.cic e.taps e.delay e.half_band e.cells e.resampler e.last
