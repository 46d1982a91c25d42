-- A valid line's numbers are in their limits, its parts that are off being zeros; how long its sheet is; and what parking answers of it.
use mathlib.Core.Path.{◌≡◌, refl, sym, ap, ◌∙◌}
use mathlib.Core.Bool.{Bool, true, false, cond}
use mathlib.Core.List.{List, ◌++◌}
use Prim.Native.Nat.{ℕ, ◌+◌, ◌≤◌}
use native.Mathlib.Omega.{arith}
use borrow.Author.Tests.{eqb-false}
use lib.Dec.{leb, eqb}
use lib.ListN.{length, drop, length-append}
use Rattle.refusal.specs.Outcome.{Answer}
use Rattle.integer.specs.declared.cic_decimator.CicDecimator.{CicDecimator}
use Rattle.q15.specs.FirDecimator.{most_taps, fir_zeros}
use Rattle.q15.specs.FirDecimator as Q
use Rattle.q15.specs.declared.fir_decimator.FirDecimator.{FirDecimator}
use Rattle.q15.proofs.FirSteps.{valid_few}
use Rattle.half_band.specs.declared.hbf_stream.HbfStream.{HbfStream}
use Rattle.float.specs.PolyphaseOpening.{valid_in_line}
use Rattle.float.specs.PolyphaseOpening as R
use Rattle.float.specs.declared.polyphase_resamp.PolyphaseResampF32.{PolyphaseResampF32}
use lib.IntN.{ℤ}
use Rattle.line.specs.Openings.{thinner_of, valid}
use Rattle.line.specs.declared.gauge_line.Line.{Line}
use Rattle.line.proofs.Lawful.{to_parts}
use Rattle.sheet.specs.Sheet.{present, pairs_from, sum, written}
use Rattle.sheet.proofs.Laying.{pairs_length}
use Rattle.parking.specs.Parked.{Settings, panel, sizes, thin_sizes, flat, parked}
use Rattle.parking.specs.Entries.{fir_on, resampler_on, settings_in, entries_of, thin_entries}
use Rattle.parking.specs.Parking.{parked_line, park_number, park_answer, park_span, sheet_answer, sheet_span}
use Rattle.parking.specs.inner.Limits.{InLimits}
use Rattle.parking.specs.Lengths.{ArrayLengths}
use Rattle.parking.proofs.Panels.{sum_of_lengths}
use Rattle.parking.proofs.Thinned.{few_neighbours}
use Rattle.parking.proofs.Whole.{thin_numbers}
use Rattle.parking.proofs.WholeLine.{half_depth, resampler_taps}
use Rattle.parking.proofs.StageLengths.{bytes_most, cells_most}
use Rattle.parking.proofs.WholeSheet.{lengths_of_lem, thin_lengths_of}

fir_few : (s : FirDecimator) → Q.valid_in_line s ≡ true → (fir_on s).tap_count ≤ most_taps
unfolding fir_on
fir_few s v = go (eqb s.tap_count 0)
  where
    go : (b : Bool) → (cond b fir_zeros s).tap_count ≤ most_taps
    go true = omega arith
    go false = valid_few s.tap_count s.factor s.wait v

resampler_few : (p : PolyphaseResampF32) → valid_in_line p ≡ true → ((resampler_on p).phases ≤ 64) × ((resampler_on p).taps ≤ 16)
unfolding resampler_on R.zeros
resampler_few p v = go (eqb p.phases 0) refl
  where
    go : (b : Bool) → eqb p.phases 0 ≡ b → ((cond b R.zeros p).phases ≤ 64) × ((cond b R.zeros p).taps ≤ 16)
    go true e = (omega arith, omega arith)
    go false e = resampler_taps p v (eqb-false p.phases 0 e)

pub limits_of : (l : Line) → valid l ≡ true → InLimits (settings_in l.cic (fir_on l.fir) l.half_band.depth (resampler_on l.resampler) l.cuts)
unfolding settings_in
limits_of l v =
    let g = to_parts l v in
    let r = resampler_few l.resampler g.1.1.1.1.1 in
    let n = thin_numbers (thinner_of l) g.0 in
    record { stages = n.stages; r = n.r; taps = fir_few l.fir g.1.1.0; depth = half_depth l.half_band g.1.1.1.1.0; phases = r.0; phase_taps = r.1 }

-- so no sheet is long
pub sizes_most : (q : Settings) → InLimits q → sum (sizes q) ≤ 6000
unfolding sum sizes
sizes_most q m =
    let a = m.stages in let b = m.taps in let c = bytes_most q.depth m.depth in let h = cells_most q.phases q.phase_taps m.phases m.phase_taps in let i = m.phase_taps in
    omega arith

pub thin_most : (q : Settings) → InLimits q → sum (thin_sizes q) ≤ 6000
unfolding sum thin_sizes
thin_most q m =
    let a = few_neighbours q.stages q.r m.stages m.r in let b = m.taps in let c = bytes_most q.depth m.depth in let h = cells_most q.phases q.phase_taps m.phases m.phase_taps in let i = m.phase_taps in
    omega arith

module _ (d : CicDecimator) (n : List ℤ) (f : FirDecimator) (s : HbfStream) (p : PolyphaseResampF32) (cuts : ℕ) (a : ArrayLengths d f s p) (ln : length n ≡ 96) (m : InLimits (settings_in d f s.depth p cuts)) where
  pub thin_long : length (parked present (thin_entries d n f s p cuts)) ≡ 66 + sum (thin_sizes (settings_in d f s.depth p cuts))
  unfolding parked written thin_sizes
  thin_long =
      let es = thin_entries d n f s p cuts in
      let q = settings_in d f s.depth p cuts in
      let e : length (flat es) ≡ sum (thin_sizes q) = sym (sum_of_lengths es) ∙ ap sum (thin_lengths_of d n f s p cuts a ln m) in
      let l : length (pairs_from 66 (thin_sizes q)) ≡ 64 = pairs_length 66 (thin_sizes q) in
      let k = length-append (pairs_from 66 (thin_sizes q)) (flat es) in
      rw (thin_lengths_of d n f s p cuts a ln m) (let r : 2 + length (pairs_from 66 (thin_sizes q) ++ flat es) ≡ 66 + sum (thin_sizes q) = omega arith in omega arith)

module _ (d : CicDecimator) (f : FirDecimator) (s : HbfStream) (p : PolyphaseResampF32) (cuts : ℕ) (a : ArrayLengths d f s p) (m : InLimits (settings_in d f s.depth p cuts)) where
  pub sheet_long : length (parked present (entries_of d f s p cuts)) ≡ 58 + sum (sizes (settings_in d f s.depth p cuts))
  unfolding parked written sizes
  sheet_long =
      let es = entries_of d f s p cuts in
      let q = settings_in d f s.depth p cuts in
      let e : length (flat es) ≡ sum (sizes q) = sym (sum_of_lengths es) ∙ ap sum (lengths_of_lem d f s p cuts a m) in
      let l : length (pairs_from 58 (sizes q)) ≡ 56 = pairs_length 58 (sizes q) in
      let k = length-append (pairs_from 58 (sizes q)) (flat es) in
      rw (lengths_of_lem d f s p cuts a m) (let r : 2 + length (pairs_from 58 (sizes q) ++ flat es) ≡ 58 + sum (sizes q) = omega arith in omega arith)

-- what parking answers of a valid line is what its sheet makes
answer_by : (b : Bool) (n : ℕ) → cond {A = Answer ℕ} b (record { number = 0; value = n }) (record { number = 17; value = 0 }) ≡ record { number = cond b 0 17; value = cond (eqb (cond b 0 17) 0) n 0 }
answer_by true n = refl
answer_by false n = refl

span_by_lem : (b : Bool) (x y : List ℕ) → cond b x y ≡ cond (eqb (cond b 0 17) 0) x y
span_by_lem true x y = refl
span_by_lem false x y = refl

pub answer_is : (l : Line) (places : ℕ) → valid l ≡ true → sheet_answer (parked_line panel l) places ≡ park_answer panel l places
unfolding sheet_answer park_answer park_number
answer_is l places v = rw v (answer_by (leb (length (parked_line panel l)) places) (length (parked_line panel l)))

pub span_is : (l : Line) (span : List ℕ) → valid l ≡ true → sheet_span (parked_line panel l) span ≡ park_span panel l span
unfolding sheet_span park_span park_number
span_is l span v = rw v (span_by_lem (leb (length (parked_line panel l)) (length span)) (parked_line panel l ++ drop (length (parked_line panel l)) span) span)

-- a damaged line
pub answer_damaged : (l : Line) (places : ℕ) → valid l ≡ false → record { number = 15; value = 0 } ≡ park_answer panel l places
unfolding park_answer park_number
answer_damaged l places v = rw v

pub span_damaged : (l : Line) (span : List ℕ) → valid l ≡ false → span ≡ park_span panel l span
unfolding park_span park_number
span_damaged l span v = rw v
