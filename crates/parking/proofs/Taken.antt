-- A sound line is taken up from its own sheet as it was; so a line that is parked between feeds is the one never parked.
use mathlib.Core.Path.{◌≡◌, refl, sym, ap, ◌∙◌, subst}
use mathlib.Core.Bool.{Bool, true, false, cond, ◌&&◌}
use mathlib.Core.List.{List}
use Prim.Native.Nat.{ℕ, ◌+◌, ◌*◌, ◌≤◌, ◌<◌, min}
use native.Mathlib.Nat.{mul-le-mul}
use native.Mathlib.Omega.{arith}
use native.Mathlib.Decide.{dec_lt}
use borrow.Author.Tests.{eq-eqb, eqb-true, eqb-false, le-leb}
use lib.Dec.{leb, eqb}
use lib.IntN.{ℤ}
use lib.Ieee.{binary32, to_bits, of_bits}
use lib.Ieee.Bits.{of_bits-to_bits}
use lib.ListN.{length, get_or, take, drop}
use lib.Seq.{take_at}
use Rattle.refusal.specs.Outcome.{Opened}
use Rattle.integer.specs.declared.cic_decimator.CicDecimator.{CicDecimator}
use Rattle.nonrecursive.specs.declared.thinning.Thinning.{Thinning}
use Rattle.nonrecursive.specs.declared.thinning.Thinning.TheVariants as thinning
use Rattle.q15.specs.FirDecimator.{most_taps, fir_zeros}
use Rattle.q15.specs.FirDecimator as Q
use Rattle.q15.specs.declared.fir_decimator.FirDecimator.{FirDecimator}
use Rattle.q15.proofs.FirSteps.{valid_on, line_valid}
use Rattle.half_band.specs.declared.hbf_stream.HbfStream.{HbfStream}
use Rattle.half_band.proofs.HeldOnes.{refused_says, line_refused_says}
use Rattle.float.specs.PolyphaseOpening.{valid_in_line}
use Rattle.float.specs.PolyphaseOpening as R
use Rattle.float.specs.declared.polyphase_resamp.PolyphaseResampF32.{PolyphaseResampF32}
use Rattle.line.specs.Outputs.{Opening}
use Rattle.line.specs.Openings.{thinner_of, half_band_fine, opened, reset}
use Rattle.line.specs.Line.{feed_outcome, feed_span}
use Rattle.line.specs.Demand3 as D
use Rattle.line.specs.declared.gauge_line.Line.{Line}
use Rattle.std.proofs.lemmas.Bool.{and_from, not-true}
use Rattle.line.proofs.Lawful.{to_parts}
use Rattle.sheet.specs.Sheet.{le16, le32, sum}
use Rattle.parking.specs.Parked.{Panel, Settings, settings_bytes, settings_of, half_band_bytes, neighbour_count, sizes, thin_sizes, flat, lengths_of, parked, shaped, take_up_number}
use Rattle.words.specs.Fields.{is_float, floats_at, joined, i16_bytes}
use Rattle.parking.specs.Entries.{fir_on, resampler_on, settings_in, tap_bytes, delay_bytes, stages_bytes, prototype_bytes, resampler_bytes, entries_of, thin_entries, entries_by, line_entries, entry_of, line_with, line_from, half_band_from, fir_written, resampler_written, stages_written, written, fine}
use Rattle.parking.specs.Parking.{parked_line, park_number, park_answer, park_span, taken_up, taken_up_number}
use Rattle.parking.specs.inner.Limits.{InLimits}
use Rattle.parking.specs.Between.{Typed, sheet_in, PanelHistory, none_yet, fed, parked as parked_then, unparked, line_after, AsNeverParked}
use Rattle.parking.proofs.Panels.{Fits, settings_back, Small, entries_back, taken_up_lem, seven_shaped, eight_shaped, sum_of_lengths}
use Rattle.words.specs.inner.Reading.{bits_below, word_at}
use Rattle.parking.proofs.Thinned.{few_neighbours}
use Rattle.parking.proofs.Whole.{ThinWholeBy, ThinNumbers, thin_numbers, FirWhole}
use Rattle.parking.proofs.WholeFloats.{ResamplerWhole}
use Rattle.parking.proofs.WholeLine.{LineWhole, Sound, half_depth, resampler_taps, sound_at}
use Rattle.parking.proofs.ParkedLine.{sizes_most, thin_most}
use Rattle.parking.proofs.Back.{cic_back, cic_length, place_back, neighbours_back, neighbours_length, fir_back, taps_length, delay_length, stages_length, stages_written_lem, counts_back, held_back, delays_back, resampler_back, prototype_length, resampler_length, prototype_floats, resampler_floats}

-- ---- the numbers of a sound line

pub record FirNumbers (s : FirDecimator) : Type 0 where
  pub taps : s.tap_count ≤ most_taps
  pub factor : s.factor ≤ 4096
  pub wait : s.wait < 65536

-- also of one that is off, as it is parked
pub on_numbers : (s : FirDecimator) → Q.valid_in_line s ≡ true → FirNumbers (fir_on s)
unfolding fir_on
on_numbers s v = go (eqb s.tap_count 0) refl
  where
    go : (b : Bool) → eqb s.tap_count 0 ≡ b → FirNumbers (cond b fir_zeros s)
    go true e = record { taps = omega arith; factor = omega arith; wait = omega arith }
    go false e =
        let n : s.tap_count ≡ 0 → ⊥ = eqb-false s.tap_count 0 e in
        let o = valid_on s.tap_count s.factor s.wait (line_valid s.tap_count s.factor s.wait n v) in
        let f = o.within.few in let m = o.within.factor_most in let b = o.waits.1 in
        record { taps = f; factor = m; wait = omega arith }

pub record ResamplerNumbers (p : PolyphaseResampF32) : Type 0 where
  pub phases : p.phases ≤ 64
  pub taps : p.taps ≤ 16

zeros_numbers : ResamplerNumbers R.zeros
unfolding R.zeros
zeros_numbers = record { phases = omega arith; taps = omega arith }

resampler_numbers : (p : PolyphaseResampF32) → valid_in_line p ≡ true → ResamplerWhole p → ResamplerNumbers p
resampler_numbers p v w = elim (dec_lt 0 p.phases) [
  | yes h ↦ (let n : p.phases ≡ 0 → ⊥ = omega arith in let t = resampler_taps p v n in record { phases = t.0; taps = t.1 })
  | no h ↦ (let z : p.phases ≡ 0 = omega arith in subst ResamplerNumbers (sym (w.off z)) zeros_numbers)
]

-- ---- a part that is off is zeros already

pub fir_on_is : (s : FirDecimator) → FirWhole s → fir_on s ≡ s
unfolding fir_on
fir_on_is s w = go (eqb s.tap_count 0) refl
  where
    go : (b : Bool) → eqb s.tap_count 0 ≡ b → cond b fir_zeros s ≡ s
    go true e = sym (w.off (eqb-true s.tap_count 0 e))
    go false e = refl

fir_numbers : (s : FirDecimator) → Q.valid_in_line s ≡ true → FirWhole s → FirNumbers s
fir_numbers s v w = subst FirNumbers (fir_on_is s w) (on_numbers s v)

pub resampler_on_is : (p : PolyphaseResampF32) → ResamplerWhole p → resampler_on p ≡ p
unfolding resampler_on
resampler_on_is p w = go (eqb p.phases 0) refl
  where
    go : (b : Bool) → eqb p.phases 0 ≡ b → cond b R.zeros p ≡ p
    go true e = sym (w.off (eqb-true p.phases 0 e))
    go false e = refl

pub straight_most : (b : Bool) → cond {A = ℕ} b 1 0 ≤ 1
straight_most true = omega arith
straight_most false = omega arith

-- ---- its entries

module _ (l : Line) (g : Sound l) where
  abbrev d : CicDecimator
  d = l.cic

  abbrev ns : List ℤ
  ns = l.neighbours

  abbrev f : FirDecimator
  f = l.fir

  abbrev s : HbfStream
  s = l.half_band

  abbrev p : PolyphaseResampF32
  p = l.resampler

  abbrev w : LineWhole l
  w = g.1

  abbrev q : Settings
  q = settings_in d f s.depth p l.cuts

  abbrev es : List (List ℕ)
  es = entries_of d f s p l.cuts

  abbrev es₈ : List (List ℕ)
  es₈ = thin_entries d ns f s p l.cuts

  cn : ThinNumbers d
  cn = thin_numbers (thinner_of l) (to_parts l g.0).0

  fn : FirNumbers f
  fn = fir_numbers f (to_parts l g.0).1.1.0 w.fir

  depth_few : s.depth ≤ 5
  depth_few = half_depth s (to_parts l g.0).1.1.1.1.0

  rn : ResamplerNumbers p
  rn = resampler_numbers p (to_parts l g.0).1.1.1.1.1 w.resampler

  cells_few : p.phases * p.taps ≤ 1024
  cells_few = mul-le-mul rn.phases rn.taps

  counts_small : (k : ℕ) → k < s.depth → get_or s.counts k 0 < 65536
  unfolding half_band_fine
  counts_small k h = let a = (refused_says s.depth s.counts (line_refused_says s.depth s.counts (omega arith) (not-true _ (to_parts l g.0).1.1.1.1.0))).held k h in omega arith

  depth_min : min s.depth 5 ≡ s.depth
  depth_min = let h = depth_few in omega arith

  fits : Fits q
  unfolding settings_in
  fits =
      let a = cn.stages in let b = cn.r in let c = fn.taps in let e = fn.factor in let h = depth_few in let i = rn.phases in let j = rn.taps in let k = straight_most p.straight in let m = w.cuts in
      record {
        stages = omega arith;
        r = omega arith;
        taps = omega arith;
        factor = omega arith;
        depth = omega arith;
        phases = omega arith;
        phase_taps = omega arith;
        straight = omega arith;
        step = bits_below p.step w.resampler.step;
        cuts = omega arith;
      }

  settings_are : settings_of (entry_of es 0) ≡ q
  unfolding entries_of
  settings_are = settings_back q fits

  settings_are₈ : settings_of (entry_of es₈ 0) ≡ q
  unfolding thin_entries
  settings_are₈ = settings_back q fits

  half_back : half_band_from q (stages_bytes s (min s.depth 5)) ≡ s
  unfolding half_band_from settings_in
  half_back =
      rw (depth_min, delays_back s s.depth depth_few w.half_band counts_small, held_back s s.depth depth_few w.half_band counts_small, counts_back s s.depth depth_few w.half_band counts_small)

  line_back : l.thinning ≡ thinning.Integrators → ThinWholeBy thinning.Integrators d ns → line_from es ≡ l
  unfolding line_from line_with entries_of settings_in
  line_back e t =
      rw (
        settings_are,
        cic_back d t.0 cn.stages cn.counter q refl refl,
        fir_back f w.fir fn.taps fn.wait q refl refl,
        half_back,
        resampler_back p w.resampler rn.taps cells_few q refl refl refl refl,
        ← e,
        ← t.1,
      )

  few : neighbour_count d.stages d.r ≤ 96
  few = few_neighbours d.stages d.r cn.stages cn.r

  line_back₈ : l.thinning ≡ thinning.Neighbours → ThinWholeBy thinning.Neighbours d ns → line_from es₈ ≡ l
  unfolding line_from line_with thin_entries settings_in
  line_back₈ e t =
      rw (
        settings_are₈,
        place_back d ns t few cn.counter q refl refl,
        neighbours_back d ns t few cn.counter q refl refl,
        fir_back f w.fir fn.taps fn.wait q refl refl,
        half_back,
        resampler_back p w.resampler rn.taps cells_few q refl refl refl refl,
        ← e,
      )

  taps_is : length (tap_bytes f) ≡ 2 * f.tap_count
  taps_is = taps_length f w.fir fn.taps fn.wait

  delay_is : length (delay_bytes f) ≡ 2 + 2 * f.tap_count
  delay_is = delay_length f w.fir fn.taps fn.wait

  stages_is : length (stages_bytes s (min s.depth 5)) ≡ half_band_bytes s.depth
  stages_is = rw depth_min (stages_length s s.depth depth_few w.half_band counts_small s.depth depth_few)

  cells_is : length (prototype_bytes p) ≡ 4 * (p.phases * p.taps)
  cells_is = prototype_length p w.resampler rn.taps cells_few

  resampler_is : length (resampler_bytes p) ≡ 4 + 4 * p.taps
  resampler_is = resampler_length p w.resampler rn.taps cells_few

  lengths_are : ThinWholeBy thinning.Integrators d ns → lengths_of es ≡ sizes q
  unfolding lengths_of entries_of sizes settings_in
  lengths_are t = rw (cic_length d t.0 cn.stages cn.counter, taps_is, delay_is, stages_is, cells_is, resampler_is) (unfold settings_bytes in refl)

  lengths_are₈ : ThinWholeBy thinning.Neighbours d ns → lengths_of es₈ ≡ thin_sizes q
  unfolding lengths_of thin_entries thin_sizes settings_in
  lengths_are₈ t = rw (taps_is, delay_is, stages_is, cells_is, resampler_is, neighbours_length d ns t few cn.counter) (unfold settings_bytes in refl)

  limits : InLimits q
  limits = unfold settings_in in record { stages = cn.stages; r = cn.r; taps = fn.taps; depth = depth_few; phases = rn.phases; phase_taps = rn.taps }

  small_of : (e : List (List ℕ)) → 0 < length e → length e ≤ 8 → length (flat e) ≤ 6000 → Small e
  small_of e a b h = record { some = a; few = omega arith; most = omega arith }

  small : ThinWholeBy thinning.Integrators d ns → Small es
  small t =
      let m = sizes_most q limits in
      let e : length (flat es) ≡ sum (sizes q) = sym (sum_of_lengths es) ∙ ap sum (lengths_are t) in
      small_of es (unfold entries_of in omega arith) (unfold entries_of in omega arith) (omega arith)

  small₈ : ThinWholeBy thinning.Neighbours d ns → Small es₈
  small₈ t =
      let m = thin_most q limits in
      let e : length (flat es₈) ≡ sum (thin_sizes q) = sym (sum_of_lengths es₈) ∙ ap sum (lengths_are₈ t) in
      small_of es₈ (unfold thin_entries in omega arith) (unfold thin_entries in omega arith) (omega arith)

  -- ---- its fields are those that parking writes

  fir_written_lem : fir_written q (delay_bytes f) ≡ true
  unfolding fir_written settings_in
  fir_written_lem = go (eqb f.tap_count 0) refl
    where
      zero_wait : FirNumbers f → f ≡ fir_zeros → (f.factor ≡ 0) × (le16 (delay_bytes f) 0 ≡ 0)
      zero_wait n e = (ap (λ (z : FirDecimator). z.factor) e, word_at (delay_bytes f) 0 f.wait (joined i16_bytes (take f.tap_count f.delay)) (unfold delay_bytes in refl) n.wait ∙ ap (λ (z : FirDecimator). z.wait) e)

      go : (b : Bool) → eqb f.tap_count 0 ≡ b → cond b (eqb f.factor 0 && eqb (le16 (delay_bytes f) 0) 0) true ≡ true
      go true e =
          let z = zero_wait fn (w.fir.off (eqb-true f.tap_count 0 e)) in
          and_from (eqb f.factor 0) (eqb (le16 (delay_bytes f) 0) 0) (eq-eqb f.factor 0 z.0) (eq-eqb (le16 (delay_bytes f) 0) 0 z.1)
      go false e = refl

  at_zeros : (eqb (R.zeros).taps 0 && (eqb (cond (R.zeros).straight 1 0) 0 && (eqb (to_bits binary32 (R.zeros).step) 0 && eqb (le32 (resampler_bytes R.zeros) 0) 0))) ≡ true
  unfolding R.zeros resampler_bytes joined le32 le16 to_bits of_bits
  at_zeros = refl

  zero_resampler : p ≡ R.zeros → (eqb p.taps 0 && (eqb (cond p.straight 1 0) 0 && (eqb (to_bits binary32 p.step) 0 && eqb (le32 (resampler_bytes p) 0) 0))) ≡ true
  zero_resampler e = ap (λ (z : PolyphaseResampF32). eqb z.taps 0 && (eqb (cond z.straight 1 0) 0 && (eqb (to_bits binary32 z.step) 0 && eqb (le32 (resampler_bytes z) 0) 0))) e ∙ at_zeros

  resampler_written_lem : resampler_written q (resampler_bytes p) ≡ true
  unfolding resampler_written settings_in
  resampler_written_lem = go (eqb p.phases 0) refl
    where
      go : (b : Bool) → eqb p.phases 0 ≡ b → cond b (eqb p.taps 0 && (eqb (cond p.straight 1 0) 0 && (eqb (to_bits binary32 p.step) 0 && eqb (le32 (resampler_bytes p) 0) 0))) true ≡ true
      go true e = zero_resampler (w.resampler.off (eqb-true p.phases 0 e))
      go false e = refl

  step_is : is_float (to_bits binary32 p.step) ≡ true
  step_is = eq-eqb (to_bits binary32 (of_bits binary32 (to_bits binary32 p.step))) (to_bits binary32 p.step) (ap (to_bits binary32) (of_bits-to_bits binary32 p.step w.resampler.step))

  abbrev fields_of : Settings → Bool
  fields_of k =
      leb k.straight 1 && (is_float k.step && (fir_written k (delay_bytes f) && (resampler_written k (resampler_bytes p)
      && (stages_written (stages_bytes s (min s.depth 5)) (min k.depth 5) && (floats_at (prototype_bytes p) 0 (k.phases * k.phase_taps) && floats_at (resampler_bytes p) 0 (1 + k.phase_taps))))))

  half_written : stages_written (stages_bytes s (min s.depth 5)) (min s.depth 5) ≡ true
  half_written = rw depth_min (stages_written_lem s s.depth depth_few w.half_band counts_small)

  fields_are : fields_of q ≡ true
  fields_are =
      let a : leb q.straight 1 ≡ true = unfold settings_in in le-leb (cond p.straight 1 0) 1 (straight_most p.straight) in
      let b : is_float q.step ≡ true = unfold settings_in in step_is in
      let c : stages_written (stages_bytes s (min s.depth 5)) (min q.depth 5) ≡ true = unfold settings_in in half_written in
      let e : floats_at (prototype_bytes p) 0 (q.phases * q.phase_taps) ≡ true = unfold settings_in in prototype_floats p w.resampler rn.taps cells_few in
      let h : floats_at (resampler_bytes p) 0 (1 + q.phase_taps) ≡ true = unfold settings_in in resampler_floats p w.resampler rn.taps cells_few in
      rw (a, b, fir_written_lem, resampler_written_lem, c, e, h)

  written_is : written es ≡ true
  unfolding written entries_of
  written_is = rw settings_are fields_are

  written_is₈ : written es₈ ≡ true
  unfolding written thin_entries
  written_is₈ = rw settings_are₈ fields_are

  -- ---- so it is taken up

  -- what is asked of entries that are taken up as the line
  record Stand (v : Panel) (e : List (List ℕ)) : Type 0 where
    small_enough : Small e
    in_shape : shaped v e ≡ true
    settings : settings_of (entry_of e 0) ≡ q
    back : line_from e ≡ l
    fields : written e ≡ true

  stand_by : (v : Panel) → v.thinning ≡ true → (k : Thinning) → l.thinning ≡ k → ThinWholeBy k d ns → Stand v (entries_by k d ns f s p l.cuts)
  unfolding entries_by
  stand_by v h thinning.Integrators e t =
      record {
        small_enough = small t;
        in_shape = seven_shaped v q fits es (unfold entries_of in refl) (unfold entries_of in refl) (lengths_are t);
        settings = settings_are;
        back = line_back e t;
        fields = written_is;
      }
  stand_by v h thinning.Neighbours e t =
      record {
        small_enough = small₈ t;
        in_shape = eight_shaped v h q fits es₈ (unfold thin_entries in refl) (unfold thin_entries in refl) (lengths_are₈ t);
        settings = settings_are₈;
        back = line_back₈ e t;
        fields = written_is₈;
      }

  entries_are : line_entries l ≡ entries_by l.thinning d ns f s p l.cuts
  unfolding line_entries
  entries_are = rw (fir_on_is f w.fir, resampler_on_is p w.resampler)

  few_taps : (most : ℕ) → most_taps ≤ most → (e : List (List ℕ)) → settings_of (entry_of e 0) ≡ q → leb (settings_of (entry_of e 0)).taps most ≡ true
  unfolding settings_in
  few_taps most h e z = let b = fn.taps in ap (λ (k : Settings). leb k.taps most) z ∙ le-leb f.tap_count most (omega arith)

  fine_is : (v : Panel) (most : ℕ) → most_taps ≤ most → (e : List (List ℕ)) → Stand v e → fine most e ≡ true
  unfolding fine
  fine_is v most h e z = rw (few_taps most h e z.settings, z.back, g.0, z.fields)

  -- as it was, by any panel that knows both kinds and whose FIR limit is the line's
  pub taken_back : (v : Panel) → most_taps ≤ v.most_taps → v.thinning ≡ true → taken_up v (parked_line v l) ≡ record { number = 0; state = l }
  unfolding taken_up taken_up_number parked_line
  taken_back v h t =
      let e = entries_by l.thinning d ns f s p l.cuts in
      let z = stand_by v t l.thinning refl w.thinner in
      let n : take_up_number fine v (parked v.rule e) ≡ 0 = taken_up_lem fine v e z.small_enough z.in_shape (fine_is v v.most_taps h e z) in
      rw (entries_are, n, entries_back v.rule e z.small_enough, z.back)

  pub parks_all : (v : Panel) (places : ℕ) → length (parked_line v l) ≤ places → park_number v l places ≡ 0
  unfolding park_number
  parks_all v places h = rw (g.0, le-leb (length (parked_line v l)) places h)

-- what parking leaves in front of a span is the sheet
pub sheet_in_lem : (v : Panel) (l : Line) (span : List ℕ) → park_number v l (length span) ≡ 0 → sheet_in v l span ≡ parked_line v l
unfolding park_answer park_span
sheet_in_lem v l span e = rw e (take_at (parked_line v l) (drop (length (parked_line v l)) span) (length (parked_line v l)) refl)

-- ---- histories

module _ (v : Panel) (limit : most_taps ≤ v.most_taps) (both : v.thinning ≡ true) (o : Opening) (zero_number : (opened o).number ≡ 0) (ty : Typed o) where
  -- one parking more
  back_from : (h : D.History) (span : List ℕ) → park_number v (D.line_of o h) (length span) ≡ 0 → taken_up v (sheet_in v (D.line_of o h) span) ≡ record { number = 0; state = D.line_of o h }
  back_from h span e = ap (taken_up v) (sheet_in_lem v (D.line_of o h) span e) ∙ taken_back (D.line_of o h) (sound_at o zero_number ty h) v limit both

  stays : (h : D.History) (span : List ℕ) (b : Bool) → eqb (park_number v (D.line_of o h) (length span)) 0 ≡ b → cond b (taken_up v (sheet_in v (D.line_of o h) span)).state (D.line_of o h) ≡ D.line_of o h
  stays h span true e = ap (λ (r : Opened Line). r.state) (back_from h span (eqb-true (park_number v (D.line_of o h) (length span)) 0 e))
  stays h span false e = refl

  same_lines : (h : PanelHistory) → line_after v o h ≡ D.line_of o (unparked h)
  same_lines none_yet = refl
  same_lines (fed h xs span) = ap (λ (k : Line). (feed_outcome k xs (length span)).state) (same_lines h)
  same_lines (parked_then h span) =
      ap (λ (k : Line). cond (eqb (park_number v k (length span)) 0) (taken_up v (sheet_in v k span)).state k) (same_lines h)
      ∙ stays (unparked h) span (eqb (park_number v (D.line_of o (unparked h)) (length span)) 0) refl

  pub taken_from : (h : PanelHistory) (span : List ℕ) → park_number v (line_after v o h) (length span) ≡ 0 → taken_up v (sheet_in v (line_after v o h) span) ≡ record { number = 0; state = D.line_of o (unparked h) }
  taken_from h span e =
      let s = same_lines h in
      ap (λ (k : Line). taken_up v (sheet_in v k span)) s ∙ back_from (unparked h) span (ap (λ (k : Line). park_number v k (length span)) (sym s) ∙ e)

  -- `AsNeverParked` of specs/Between, on which docs/parking.md and row 136 of docs/TRACE.md rest
  pub as_never_parked : (h : PanelHistory) → AsNeverParked v o h
  as_never_parked h =
      let e = same_lines h in
      let g = sound_at o zero_number ty (unparked h) in
      record {
        parks = λ span. subst (λ (k : Line). length (parked_line v k) ≤ length span → park_number v k (length span) ≡ 0) (sym e) (parks_all (D.line_of o (unparked h)) g v (length span));
        takes_up = taken_from h;
        parks_again = λ span z. ap (λ (r : Opened Line). park_span v r.state span) (taken_from h span z) ∙ ap (λ (k : Line). park_span v k span) (sym e);
        answers = λ xs places. ap (λ (k : Line). feed_outcome k xs places) e;
        outputs = λ xs span. ap (λ (k : Line). feed_span k xs span) e;
        resets = ap reset e;
        same_cuts = ap (λ (k : Line). k.cuts) e;
        same_line = e;
      }
