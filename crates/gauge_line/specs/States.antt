-- The states of the converters and of the line, put together from the places that a call lends, in the order in which it lends them.
use Rattle.std.specs.Prelude.{◌≡◌, List, ℕ, ℤ, Float}
use Rattle.std.specs.Borrow.{MutBor}
use denote.Triple.Both.{Both}
use Rattle.integer.specs.CicDecimator.{decimator_of}
use Rattle.integer.specs.CicInterpolator.{interpolator_of}
use Rattle.nonrecursive.specs.NonrecursiveDecimator.{nonrecursive_of}
use Rattle.q15.specs.FirDecimator.{fir_state}
use Rattle.half_band.specs.HbfDecCascade.{Cascade, cascade_of}
use Rattle.half_band.specs.HbfStream.{stream_of}
use Rattle.float.specs.PolyphaseResamp.{together}
use Rattle.linear_phase.specs.LinearPhaseFir.{phase_of}
use Rattle.integer.specs.declared.cic_decimator.CicDecimator.{CicDecimator}
use Rattle.integer.specs.declared.cic_interpolator.CicInterpolator.{CicInterpolator}
use Rattle.nonrecursive.specs.declared.nonrecursive_decimator.NonrecursiveDecimator.{NonrecursiveDecimator}
use Rattle.q15.specs.declared.fir_decimator.FirDecimator.{FirDecimator}
use Rattle.half_band.specs.declared.hbf_dec.HbfDec.{HbfDec}
use Rattle.half_band.specs.declared.hbf_int.HbfInt.{HbfInt}
use Rattle.half_band.specs.declared.hbf_int_cascade.HbfIntCascade.{HbfIntCascade}
use Rattle.half_band.specs.declared.hbf_stream.HbfStream.{HbfStream}
use Rattle.float.specs.declared.polyphase_resamp.PolyphaseResampF32.{PolyphaseResampF32}
use Rattle.linear_phase.specs.declared.linear_phase_fir.LinearPhaseFir.{LinearPhaseFir}
use Rattle.line.specs.declared.gauge_line.Line.{Line}
use Rattle.gauge_line.specs.Crossing.{is_set, flag_of, kind_of}

-- the two moments of a call
pub data Moment : Type 0 where
  entry : Moment
  exit : Moment

-- a place that is lent to be written, and what it holds at a moment
abbrev pub Place : Type 0 → Type 0
Place X = Both (MutBor X) (MutBor X)

abbrev pub at : {X : Type 0} → Moment → Place X → X
at entry p = p.entry.now
at exit p = p.exit.now

abbrev pub decimator_at : Moment → Place ℕ → Place ℕ → Place (List ℤ) → Place (List ℤ) → Place ℕ → CicDecimator
decimator_at m stages r integrators combs counter =
    decimator_of (at m stages) (at m r) (at m integrators) (at m combs) (at m counter)

abbrev pub nonrecursive_at : Moment → Place ℕ → Place ℕ → Place (List ℤ) → Place ℕ → NonrecursiveDecimator
nonrecursive_at m stages r neighbours place = nonrecursive_of (at m stages) (at m r) (at m neighbours) (at m place)

abbrev pub interpolator_at : Moment → Place ℕ → Place ℕ → Place (List ℤ) → Place (List ℤ) → CicInterpolator
interpolator_at m stages r combs integrators = interpolator_of (at m stages) (at m r) (at m combs) (at m integrators)

abbrev pub fir_at : Moment → Place (List ℤ) → Place ℕ → Place ℕ → Place (List ℤ) → Place ℕ → FirDecimator
fir_at m taps tap_count factor delay wait = fir_state (at m taps) (at m tap_count) (at m factor) (at m delay) (at m wait)

abbrev pub dec_at : Moment → Place ℕ → Place (List Float) → Place (List Float) → HbfDec
dec_at m M coeffs delay = record { m = at m M; coeffs = at m coeffs; delay = at m delay }

abbrev pub int_at : Moment → Place ℕ → Place (List Float) → Place (List Float) → HbfInt
int_at m M coeffs delay = record { m = at m M; coeffs = at m coeffs; delay = at m delay }

-- over whichever table
abbrev pub dec_cascade_at : Moment → Place ℕ → Place (List Float) → Cascade
dec_cascade_at m depth delays = cascade_of (at m depth) (at m delays)

abbrev pub int_cascade_at : Moment → Place ℕ → Place (List Float) → HbfIntCascade
int_cascade_at m depth delays = record { depth = at m depth; delays = at m delays }

abbrev pub stream_at : Moment → Place ℕ → Place (List Float) → Place (List Float) → Place (List ℕ) → HbfStream
stream_at m depth delays held counts = stream_of (at m depth) (at m delays) (at m held) (at m counts)

-- a number that a call has written for a yes or a no: 0 or 1
abbrev pub IsFlag : ℕ → Type 0
IsFlag n = n ≡ flag_of (is_set n)

abbrev pub resampler_at : Moment → Place ℕ → Place ℕ → Place ℕ → Place Float → Place Float → Place (List Float) → Place (List Float) → PolyphaseResampF32
resampler_at m phases taps straight mu step delay prototype =
    together (is_set (at m straight)) (at m phases) (at m taps) (at m mu) (at m step) (at m delay) (at m prototype)

abbrev pub phase_at : Moment → Place ℕ → Place ℕ → Place ℕ → Place (List Float) → Place (List Float) → LinearPhaseFir
phase_at m M odd antisymmetric taps delay =
    phase_of (at m M) (is_set (at m odd)) (is_set (at m antisymmetric)) (at m taps) (at m delay)

-- the line of its fields: its decimator, its FIR, its half-band stages, its resampler and its count of cut values; which kind thins, and the neighbours
abbrev pub line_by :
    ℕ → ℕ → List ℤ → List ℤ → ℕ
    → List ℤ → ℕ → ℕ → List ℤ → ℕ
    → ℕ → List Float → List Float → List ℕ
    → ℕ → ℕ → ℕ → Float → Float → List Float → List Float
    → ℕ
    → ℕ → List ℤ
    → Line
line_by stages r integrators combs counter taps tap_count factor fir_delay wait depth delays held counts phases phase_taps straight mu step delay prototype cuts kind neighbours =
    record {
      thinning = kind_of kind;
      cic = decimator_of stages r integrators combs counter;
      neighbours = neighbours;
      fir = fir_state taps tap_count factor fir_delay wait;
      half_band = stream_of depth delays held counts;
      resampler = together (is_set straight) phases phase_taps mu step delay prototype;
      cuts = cuts;
    }

abbrev pub line_at :
    Moment
    → Place ℕ → Place ℕ → Place (List ℤ) → Place (List ℤ) → Place ℕ
    → Place (List ℤ) → Place ℕ → Place ℕ → Place (List ℤ) → Place ℕ
    → Place ℕ → Place (List Float) → Place (List Float) → Place (List ℕ)
    → Place ℕ → Place ℕ → Place ℕ → Place Float → Place Float → Place (List Float) → Place (List Float)
    → Place ℕ
    → Place ℕ → Place (List ℤ)
    → Line
line_at m stages r integrators combs counter taps tap_count factor fir_delay wait depth delays held counts phases phase_taps straight mu step delay prototype cuts kind neighbours =
    line_by (at m stages) (at m r) (at m integrators) (at m combs) (at m counter) (at m taps) (at m tap_count) (at m factor) (at m fir_delay) (at m wait)
    (at m depth) (at m delays) (at m held) (at m counts) (at m phases) (at m phase_taps) (at m straight) (at m mu) (at m step) (at m delay) (at m prototype) (at m cuts) (at m kind) (at m neighbours)
