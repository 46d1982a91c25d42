-- A part that is off has no place in an array of its entries, so a line whose numbers alone are zeros there is parked as one whose arrays are zeros too: by whether either part is off.
use Rattle.std.proofs.Common.{◌≡◌, ℕ, ◌<◌, Bool, true, false, cond, eqb, List, length, refl, eqb-true, subst}
use Rattle.std.specs.Prelude.{ℤ, Float}
use Rattle.integer.specs.declared.cic_decimator.CicDecimator.{CicDecimator}
use Rattle.nonrecursive.specs.declared.thinning.Thinning.{Thinning}
use Rattle.nonrecursive.specs.declared.thinning.Thinning.TheVariants as thinning
use Rattle.q15.specs.FirDecimator.{fir_state, fir_zeros}
use Rattle.q15.specs.declared.fir_decimator.FirDecimator.{FirDecimator}
use Rattle.half_band.specs.declared.hbf_stream.HbfStream.{HbfStream}
use Rattle.float.specs.F32.{zero32}
use Rattle.float.specs.PolyphaseResamp.{together}
use Rattle.float.specs.PolyphaseOpening as R
use Rattle.float.specs.declared.polyphase_resamp.PolyphaseResampF32.{PolyphaseResampF32}
use Rattle.words.specs.Fields.{IsFloat}
use Rattle.line.specs.Openings.{valid}
use Rattle.line.specs.declared.gauge_line.Line.{Line}
use Rattle.parking.specs.Entries.{fir_on, resampler_on, settings_in, tap_bytes, delay_bytes, prototype_bytes, resampler_bytes, entries_of, thin_entries, entries_by, line_entries}
use Rattle.parking.specs.Kept.{line_by, line_kept}
use Rattle.parking.specs.inner.Numbers.{fir_numbers, resampler_numbers, numbers_on}
use Rattle.parking.specs.inner.Told.{on, parts, settings_by, Lengths, Fine}
use Rattle.parking.specs.declared.kept.KeptLine.{KeptLine}
use Rattle.parking.proofs.ParkedLine.{limits_of}

-- two parts that have the same entries
record FirAlike (f g : FirDecimator) : Type 0 where
  count : f.tap_count ≡ g.tap_count
  factor : f.factor ≡ g.factor
  taps : tap_bytes f ≡ tap_bytes g
  delay : delay_bytes f ≡ delay_bytes g

record ResamplerAlike (p q : PolyphaseResampF32) : Type 0 where
  phases : p.phases ≡ q.phases
  cells : p.taps ≡ q.taps
  straight : p.straight ≡ q.straight
  step : p.step ≡ q.step
  prototype : prototype_bytes p ≡ prototype_bytes q
  state : resampler_bytes p ≡ resampler_bytes q

module _ (d : CicDecimator) (n : List ℤ) (s : HbfStream) (cuts : ℕ) (f g : FirDecimator) (p q : PolyphaseResampF32) (a : FirAlike f g) (b : ResamplerAlike p q) where
  settings_alike : settings_in d f s.depth p cuts ≡ settings_in d g s.depth q cuts
  unfolding settings_in
  settings_alike = rw (a.count, a.factor, b.phases, b.cells, b.straight, b.step) refl

  entries_alike : (k : Thinning) → entries_by k d n f s p cuts ≡ entries_by k d n g s q cuts
  unfolding entries_by entries_of thin_entries
  entries_alike thinning.Integrators = rw (settings_alike, a.taps, a.delay, b.prototype, b.state) refl
  entries_alike thinning.Neighbours = rw (settings_alike, a.taps, a.delay, b.prototype, b.state) refl

-- those of no taps, and of no phases
fir_off : (taps delay : List ℤ) (t : ℕ) → t ≡ 0 → FirAlike (fir_state taps t 0 delay 0) fir_zeros
unfolding tap_bytes delay_bytes
fir_off taps delay t e = record { count = e; factor = refl; taps = rw e refl; delay = rw e refl }

resampler_off : (delay cells : List Float) (P : ℕ) → P ≡ 0 → ResamplerAlike (together false P 0 zero32 zero32 delay cells) R.zeros
unfolding R.zeros prototype_bytes resampler_bytes
resampler_off delay cells P e = record { phases = e; cells = refl; straight = refl; step = refl; prototype = rw e refl; state = refl }

fir_alike :
    (taps delay : List ℤ) (t D w : ℕ)
    → FirAlike (fir_state taps t (cond (eqb t 0) 0 D) delay (cond (eqb t 0) 0 w)) (fir_on (fir_state taps t D delay w))
unfolding fir_on
fir_alike taps delay t D w = go (eqb t 0) refl
  where
    go : (b : Bool) → eqb t 0 ≡ b → FirAlike (fir_state taps t (cond b 0 D) delay (cond b 0 w)) (cond b fir_zeros (fir_state taps t D delay w))
    go true e = fir_off taps delay t (eqb-true t 0 e)
    go false e = record { count = refl; factor = refl; taps = refl; delay = refl }

resampler_alike :
    (delay cells : List Float) (P T : ℕ) (straight : Bool) (mu step : Float) → let off = eqb P 0 in
    ResamplerAlike (together (cond off false straight) P (cond off 0 T) (cond off zero32 mu) (cond off zero32 step) delay cells) (resampler_on (together straight P T mu step delay cells))
unfolding resampler_on
resampler_alike delay cells P T straight mu step = go (eqb P 0) refl
  where
    go :
        (b : Bool) → eqb P 0 ≡ b
        → ResamplerAlike (together (cond b false straight) P (cond b 0 T) (cond b zero32 mu) (cond b zero32 step) delay cells) (cond b R.zeros (together straight P T mu step delay cells))
    go true e = resampler_off delay cells P (eqb-true P 0 e)
    go false e = record { phases = refl; cells = refl; straight = refl; step = refl; prototype = refl; state = refl }

-- the parts of a line with the numbers of parts that are off as zeros
record OnAlike (l m : Line) : Type 0 where
  thinning : l.thinning ≡ m.thinning
  cic : l.cic ≡ m.cic
  neighbours : l.neighbours ≡ m.neighbours
  fir : FirAlike l.fir (fir_on m.fir)
  half_band : l.half_band ≡ m.half_band
  resampler : ResamplerAlike l.resampler (resampler_on m.resampler)
  cuts : l.cuts ≡ m.cuts

on_alike : (k : KeptLine) → OnAlike (line_by (numbers_on k.numbers) k) (line_kept k)
unfolding fir_numbers resampler_numbers
on_alike k =
    let n = k.numbers in
    let s = n.settings in
    record {
      thinning = refl;
      cic = refl;
      neighbours = refl;
      fir = fir_alike k.taps.now k.fir_delay.now n.tap_count s.factor n.clock.wait;
      half_band = refl;
      resampler = resampler_alike k.delay.now k.prototype.now s.phases s.phase_taps s.straight n.clock.mu s.step;
      cuts = refl;
    }

module _ (l m : Line) (a : OnAlike l m) where
  parts_alike : parts l ≡ line_entries m
  unfolding line_entries
  parts_alike =
      rw (a.thinning, a.cic, a.neighbours, a.half_band, a.cuts)
      (entries_alike m.cic m.neighbours m.half_band m.cuts l.fir (fir_on m.fir) l.resampler (resampler_on m.resampler) a.fir a.resampler m.thinning)

  numbers_alike : settings_by l ≡ settings_in m.cic (fir_on m.fir) m.half_band.depth (resampler_on m.resampler) m.cuts
  numbers_alike =
      rw (a.cic, a.half_band, a.cuts) (settings_alike m.cic m.neighbours m.half_band m.cuts l.fir (fir_on m.fir) l.resampler (resampler_on m.resampler) a.fir a.resampler)

pub parts_on : (k : KeptLine) (l : Line) → l ≡ line_by (numbers_on k.numbers) k → parts l ≡ line_entries (line_kept k)
parts_on k l e = rw e (parts_alike _ _ (on_alike k))

pub fine_on : (k : KeptLine) → valid (line_kept k) ≡ true → (l : Line) → l ≡ line_by (numbers_on k.numbers) k → Lengths l → Fine l
fine_on k v l e n = record { lengths = n; limits = rw (e, numbers_alike _ _ (on_alike k)) (limits_of (line_kept k) v) }

-- the arrays of zeros are as long as those that they stand for
fir_long : (f : FirDecimator) → length f.taps ≡ 128 → length f.delay ≡ 128 → (length (fir_on f).taps ≡ 128) × (length (fir_on f).delay ≡ 128)
unfolding fir_on
fir_long f t d = go (eqb f.tap_count 0)
  where
    go : (b : Bool) → (length (cond b fir_zeros f).taps ≡ 128) × (length (cond b fir_zeros f).delay ≡ 128)
    go true = (refl, refl)
    go false = (t, d)

resampler_long : (p : PolyphaseResampF32) → length p.delay ≡ 16 → length p.prototype ≡ 1024 → (length (resampler_on p).delay ≡ 16) × (length (resampler_on p).prototype ≡ 1024)
unfolding resampler_on R.zeros
resampler_long p d h = go (eqb p.phases 0)
  where
    go : (b : Bool) → (length (cond b R.zeros p).delay ≡ 16) × (length (cond b R.zeros p).prototype ≡ 1024)
    go true = (refl, refl)
    go false = (d, h)

pub lengths_on : (k : KeptLine) (l : Line) → l ≡ line_by (numbers_on k.numbers) k → Lengths l → Lengths (on (line_kept k))
lengths_on k l e h =
    let n = rw e at h in
    let a = on_alike k in
    let f = fir_long (line_kept k).fir n.arrays.taps n.arrays.fir_delay in
    let r = resampler_long (line_kept k).resampler n.arrays.delay n.arrays.prototype in
    record {
      arrays =
          record {
            integrators = n.arrays.integrators;
            combs = n.arrays.combs;
            taps = f.0;
            fir_delay = f.1;
            delays = n.arrays.delays;
            held = n.arrays.held;
            counts = n.arrays.counts;
            delay = r.0;
            prototype = r.1;
          };
      neighbours = n.neighbours;
      step = subst IsFloat a.resampler.step n.step;
      cuts = subst (λ (c : ℕ). c < 4294967296) a.cuts n.cuts;
    }
