-- Taking up, over the seven or eight entries apart from their sheet: the code goes by these, and the proofs tie them to `taken_up`.
use Rattle.std.specs.Prelude.{Bool, cond, ◌&&◌, List, [], ◌∷◌, ℕ, ◌*◌, ◌+◌, min, leb, eqb, pos, length, replicate}
use Rattle.refusal.specs.Outcome.{Opened}
use Rattle.nonrecursive.specs.NonrecursiveDecimator.{most_neighbours}
use Rattle.nonrecursive.specs.declared.thinning.Thinning.TheVariants as thinning
use Rattle.q15.specs.FirDecimator.{most_taps}
use Rattle.line.specs.Openings as L
use Rattle.line.specs.declared.gauge_line.Line.{Line}
use Rattle.words.specs.Fields.{is_float, floats_at}
use Rattle.parking.specs.Parked.{Settings, settings_of, sizes, thin_sizes, same}
use Rattle.parking.specs.Entries.{cic_from, place_from, neighbours_from, fir_from, half_band_from, resampler_from, fir_written, resampler_written, stages_written}

-- 01's limits, as far as lengths go, as a test
unfoldable pub in_limits : Settings → Bool
in_limits q = leb q.stages 8 && (leb q.r 4096 && (leb q.taps most_taps && (leb q.depth 5 && (leb q.phases 64 && leb q.phase_taps 16))))

-- the line of settings and the six entries behind them
unfoldable pub line_of_seven : Settings → List ℕ → List ℕ → List ℕ → List ℕ → List ℕ → List ℕ → Line
line_of_seven q cic taps delay half_band cells resampler =
    record {
      thinning = thinning.Integrators;
      cic = cic_from q cic;
      neighbours = replicate most_neighbours (pos 0);
      fir = fir_from q taps delay;
      half_band = half_band_from q half_band;
      resampler = resampler_from q cells resampler;
      cuts = q.cuts;
    }

-- request 13: the line of settings and of the entries of eight, but for the empty one
unfoldable pub line_of_eight : Settings → List ℕ → List ℕ → List ℕ → List ℕ → List ℕ → List ℕ → Line
line_of_eight q taps delay half_band cells resampler last =
    record {
      thinning = thinning.Neighbours;
      cic = place_from q last;
      neighbours = neighbours_from q last;
      fir = fir_from q taps delay;
      half_band = half_band_from q half_band;
      resampler = resampler_from q cells resampler;
      cuts = q.cuts;
    }

-- whether the floats are words that parking writes, and whether it writes such fields
unfoldable pub floats_written : Settings → List ℕ → List ℕ → List ℕ → Bool
floats_written q half_band cells resampler = stages_written half_band (min q.depth 5) && (floats_at cells 0 (q.phases * q.phase_taps) && floats_at resampler 0 (1 + q.phase_taps))

unfoldable pub fields_written : Settings → List ℕ → List ℕ → List ℕ → List ℕ → Bool
fields_written q delay half_band cells resampler =
    leb q.straight 1 && (is_float q.step && (fir_written q delay && (resampler_written q resampler && floats_written q half_band cells resampler)))

unfoldable pub line_fine : Line → Settings → List ℕ → List ℕ → List ℕ → List ℕ → Bool
line_fine l q delay half_band cells resampler = L.valid l && fields_written q delay half_band cells resampler

-- 15 of entries of the right lengths, from which the line l was read
unfoldable pub fine_in : Line → Settings → List ℕ → List ℕ → List ℕ → List ℕ → Bool
fine_in l q delay half_band cells resampler = leb q.taps most_taps && line_fine l q delay half_band cells resampler

-- whether six lengths are those that the settings make
unfoldable pub long_as : Settings → ℕ → ℕ → ℕ → ℕ → ℕ → ℕ → Bool
long_as q cic taps delay half_band cells resampler = same (24 ∷ cic ∷ taps ∷ delay ∷ half_band ∷ cells ∷ resampler ∷ []) (sizes q)

-- and those of eight
unfoldable pub thin_long_as : Settings → ℕ → ℕ → ℕ → ℕ → ℕ → ℕ → ℕ → Bool
thin_long_as q cic taps delay half_band cells resampler last = same (24 ∷ cic ∷ taps ∷ delay ∷ half_band ∷ cells ∷ resampler ∷ last ∷ []) (thin_sizes q)

-- a refusal: its number, and zeros
unfoldable pub refused_line : ℕ → Opened Line
refused_line n = record { number = n; state = L.zeros }

-- what entries of the right lengths answer
unfoldable pub opened_in : Line → Settings → List ℕ → List ℕ → List ℕ → List ℕ → Opened Line
opened_in l q delay half_band cells resampler = cond (fine_in l q delay half_band cells resampler) (record { number = 0; state = l }) (refused_line 15)

abbrev pub opened_of : Settings → List ℕ → List ℕ → List ℕ → List ℕ → List ℕ → List ℕ → Opened Line
opened_of q cic taps delay half_band cells resampler = opened_in (line_of_seven q cic taps delay half_band cells resampler) q delay half_band cells resampler

abbrev pub thin_opened_of : Settings → List ℕ → List ℕ → List ℕ → List ℕ → List ℕ → List ℕ → Opened Line
thin_opened_of q taps delay half_band cells resampler last = opened_in (line_of_eight q taps delay half_band cells resampler last) q delay half_band cells resampler

-- what seven entries answer
unfoldable pub opened_from : List ℕ → List ℕ → List ℕ → List ℕ → List ℕ → List ℕ → List ℕ → Opened Line
opened_from settings cic taps delay half_band cells resampler =
    cond (eqb (length settings) 24)
    (cond (long_as (settings_of settings) (length cic) (length taps) (length delay) (length half_band) (length cells) (length resampler))
    (opened_of (settings_of settings) cic taps delay half_band cells resampler)
    (refused_line 21))
    (refused_line 21)

-- what eight entries answer
unfoldable pub thin_opened_from : List ℕ → List ℕ → List ℕ → List ℕ → List ℕ → List ℕ → List ℕ → List ℕ → Opened Line
thin_opened_from settings cic taps delay half_band cells resampler last =
    cond (eqb (length settings) 24)
    (cond (thin_long_as (settings_of settings) (length cic) (length taps) (length delay) (length half_band) (length cells) (length resampler) (length last))
    (thin_opened_of (settings_of settings) taps delay half_band cells resampler last)
    (refused_line 21))
    (refused_line 21)
