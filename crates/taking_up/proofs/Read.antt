-- A line that was read part by part is that of its entries, and is tested by its numbers; and what a refusal leaves.
use mathlib.Core.Path.{◌≡◌, sym, ap, ◌∙◌}
use mathlib.Core.Bool.{Bool, false, ◌&&◌}
use mathlib.Core.List.{List}
use Prim.Native.Nat.{ℕ}
use Rattle.std.specs.Prelude.{ℤ, Float, replicate, pos}
use Rattle.nonrecursive.specs.NonrecursiveDecimator.{most_neighbours}
use Rattle.nonrecursive.specs.declared.thinning.Thinning.{Thinning}
use Rattle.nonrecursive.specs.declared.thinning.Thinning.TheVariants as thinning
use Rattle.integer.specs.declared.cic_decimator.CicDecimator.{CicDecimator}
use Rattle.q15.specs.FirDecimator.{most_taps}
use Rattle.q15.specs.declared.fir_decimator.FirDecimator.{FirDecimator}
use Rattle.half_band.specs.declared.hbf_stream.HbfStream.{HbfStream}
use Rattle.float.specs.F32.{zero32}
use Rattle.float.specs.PolyphaseOpening as R
use Rattle.float.specs.declared.polyphase_resamp.PolyphaseResampF32.{PolyphaseResampF32}
use Rattle.line.specs.Openings as L
use Rattle.line.specs.Placed.{line_together}
use Rattle.line.specs.Lent.{numbers_in}
use Rattle.line.specs.inner.Together.{valid_at}
use Rattle.line.specs.declared.gauge_line.Line.{Line}
use Rattle.line.specs.declared.lent.LineNumbers.{LineNumbers}
use Rattle.line.proofs.Numbers.{valid_apart}
use Rattle.parking.specs.Parked.{Settings}
use Rattle.parking.specs.Entries.{fir_from, half_band_from, resampler_from}
use Rattle.taking_up.specs.inner.ByKind.{Parts, line_by}
use Rattle.taking_up.specs.inner.Taking.{line_of_seven, line_of_eight, line_fine, fields_written}

-- the numbers of a line of zeros
abbrev pub none : LineNumbers
none =
    record {
      settings = record { stages = 0; r = 0; factor = 0; depth = 0; phases = 0; phase_taps = 0; straight = false; step = zero32; thinning = thinning.Integrators };
      tap_count = 0;
      clock = record { sample_counter = 0; wait = 0; mu = zero32; cuts = 0 };
    }

pub line_read :
    (k : Thinning) (q : Settings) (e : Parts) {d : CicDecimator} {n : List ℤ} {f : FirDecimator} {h : HbfStream} {r : PolyphaseResampF32}
    → d ≡ (line_by k q e).cic → n ≡ (line_by k q e).neighbours
    → f ≡ fir_from q e.taps e.delay → h ≡ half_band_from q e.half_band → r ≡ resampler_from q e.cells e.resampler
    → record { thinning = k; cic = d; neighbours = n; fir = f; half_band = h; resampler = r; cuts = q.cuts } ≡ line_by k q e
unfolding line_of_seven line_of_eight
line_read thinning.Integrators q e a b c g i = rw (a, b, c, g, i)
line_read thinning.Neighbours q e a b c g i = rw (a, b, c, g, i)

pub fine_read :
    (l : Line) (q : Settings) (delay half_band cells resampler : List ℕ) {m : Line} {b v : Bool}
    → l ≡ m → b ≡ valid_at (numbers_in l) l.half_band.counts && fields_written q delay half_band cells resampler → b ≡ v
    → line_fine m q delay half_band cells resampler ≡ v
unfolding line_fine
fine_read l q delay half_band cells resampler e f g =
    ap (λ (x : Line). line_fine x q delay half_band cells resampler) (sym e)
    ∙ ap (λ (x : Bool). x && fields_written q delay half_band cells resampler) (sym (valid_apart l)) ∙ sym f ∙ g

-- zeros in each array, beside numbers that are zeros
pub line_cleared :
    {i c n t d : List ℤ} {w h : List Float} {k : List ℕ} {l p : List Float}
    → i ≡ replicate 8 (pos 0) → c ≡ replicate 8 (pos 0) → n ≡ replicate most_neighbours (pos 0) → t ≡ replicate most_taps (pos 0) → d ≡ replicate most_taps (pos 0)
    → w ≡ replicate 480 zero32 → h ≡ replicate 5 zero32 → k ≡ replicate 5 0 → l ≡ replicate 16 zero32 → p ≡ replicate 1024 zero32
    → line_together none i c n t d w h k l p ≡ L.zeros
unfolding L.zeros R.zeros
line_cleared a b e f g q r s u v = rw (a, b, e, f, g, q, r, s, u, v)
