-- A valid line with zeros in the places that no parking writes is sound, parks to the entries of the line, and is the same as far as any section looks. So it is what is
-- taken up of the line's sheet, and goes on as the line.
use mathlib.Core.Path.{◌≡◌, refl, sym, ap, ap₂, ◌∙◌, subst}
use mathlib.Core.Bool.{Bool, true, false, cond}
use mathlib.Core.List.{List, ◌∷◌, ◌++◌}
use Rattle.std.specs.Prelude.{Option, None, Some}
use Prim.Native.Nat.{ℕ, zero, suc, ◌+◌, ◌*◌, ◌-◌, ◌≤◌, ◌<◌, min}
use native.Mathlib.Nat.{mul-le-mul}
use native.Mathlib.Omega.{arith}
use native.Mathlib.Decide.{dec_lt}
use borrow.Author.Tests.{eqb-true, eqb-false}
use lib.Dec.{eqb}
use lib.IntN.{ℤ, pos}
use lib.Ieee.{Float, nan}
use lib.ListN.{length, get_or, take, drop, replicate, length-append, length-replicate}
use lib.Seq.{take_at, drop_at, length-take-le}
use mir.Syntax.{w16, w32}
use mir.Val.{SFits}
use Rattle.theory.specs.Sections.{each}
use Rattle.theory.specs.Machines.{before}
use Rattle.theory.specs.Tally.{held_sum}
use Rattle.theory.specs.Feeds as F
use Rattle.theory.proofs.FeedRules.{feed_keeps}
use Rattle.integer.specs.CicDecimator.{decimator_of}
use Rattle.integer.specs.declared.cic_decimator.CicDecimator.{CicDecimator}
use Rattle.nonrecursive.specs.NonrecursiveDecimator.{most_neighbours}
use Rattle.nonrecursive.specs.EitherKind.{Thinner, either}
use Rattle.nonrecursive.specs.EitherKind as E
use Rattle.nonrecursive.specs.declared.thinning.Thinning.{Thinning}
use Rattle.nonrecursive.specs.declared.thinning.Thinning.TheVariants as thinning
use Rattle.q15.specs.Fixed.{cut, cut_one}
use Rattle.q15.specs.FirDecimator.{most_taps, fir_zeros, fir_state, fir, fir_sum_out}
use Rattle.q15.specs.FirDecimator as Q
use Rattle.q15.specs.declared.fir_decimator.FirDecimator.{FirDecimator}
use Rattle.q15.proofs.FirSteps.{valid_on, line_valid}
use Rattle.half_band.specs.HbfTaps.{stage_taps, decimation}
use Rattle.half_band.specs.HbfStream.{Half, stage_in, with_stage, hbf_stream, stream_fresh}
use Rattle.half_band.specs.declared.hbf_stream.HbfStream.{HbfStream}
use Rattle.half_band.specs.inner.FiveStages.{decimation_five}
use Rattle.half_band.proofs.Stages.{Sized, stages_from, found, elsewhere}
use Rattle.half_band.proofs.HeldOnes.{refused_says, not_refused, line_not_refused, line_refused_says}
use Rattle.float.specs.F32.{zero32}
use Rattle.float.specs.Level.{level}
use Rattle.float.specs.PolyphaseOpening.{valid_in_line, valid_in_line_at}
use Rattle.float.specs.PolyphaseResamp.{in_line}
use Rattle.float.specs.PolyphaseOpening as R
use Rattle.float.specs.declared.polyphase_resamp.PolyphaseResampF32.{PolyphaseResampF32}
use Rattle.chain.specs.Chain.{Parts, from3, from4, chain}
use Rattle.chain.specs.Cuts.{most_cuts}
use Rattle.line.specs.Openings.{thinner_of, half_band_fine, valid}
use Rattle.line.specs.Line.{parts_of, cuts_for, sum_cut, line, fed_line, feed_outcome, feed_span}
use Rattle.line.specs.Demand3.{History, none_yet, fed}
use Rattle.line.specs.declared.gauge_line.Line.{Line}
use Rattle.std.proofs.lemmas.Bool.{not-true, not_from_false}
use Rattle.line.proofs.Lawful.{to_parts, of_parts, line_lawful}
use Rattle.line.proofs.Demanded.{outcome_is}
use Rattle.parking.specs.Alike.{LineTyped, fed_on, GoesOnAlike}
use Rattle.parking.specs.Entries.{fir_on, resampler_on, settings_in, cic_bytes, tap_bytes, delay_bytes, window_of, stage_bytes, stages_bytes, prototype_bytes, resampler_bytes, entries_of, neighbours_bytes, thin_entries, entries_by, line_entries}
use Rattle.words.specs.Fields.{All, IsFloat}
use Rattle.parking.specs.Parked.{Panel, neighbour_count, parked}
use Rattle.parking.specs.Parking.{parked_line, park_number, taken_up}
use Rattle.words.proofs.Loops.{get_d_any}
use Rattle.words.proofs.Fields.{all_take, all_append, all_replicate}
use Rattle.parking.proofs.Behind.{stage_long}
use Rattle.parking.proofs.Thinned.{few_neighbours}
use Rattle.parking.proofs.Whole.{Used, CicWhole, ThinWholeBy, ThinNumbers, thin_numbers, FirWhole}
use Rattle.parking.proofs.WholeFloats.{HalfUsed, ResamplerWhole, stage_typed, with_used, window_is}
use Rattle.parking.proofs.WholeLine.{LineWhole, half_depth, resampler_taps, half_fresh, zeros_whole, resampler_off, zero_i32, zero_i16, zero_f32}
use Rattle.parking.proofs.Taken.{fir_on_is, resampler_on_is, taken_back}
use Rattle.parking.proofs.Alike.{Alike, alike_before, AlikeSection, SameFed, feed_same}
use Rattle.parking.proofs.AlikeParts.{CicSame, ThinSameBy, ThinSame, thin_alike, FirSame, fir_both, fir_alike, HalfSame, half_alike, ResamplerSame, resampler_alike}

-- ---- an array: what is used, and zeros

abbrev front : {A : Type 0} → ℕ → ℕ → A → List A → List A
front n m z s = take n s ++ replicate (m - n) z

front_used : {A : Type 0} (P : A → Type 0) (z : A) (n m : ℕ) (s : List A) → n ≤ m → length s ≡ m → All P s → P z → Used P z n m (front n m z s)
front_used P z n m s h l a p =
    let t : length (take n s) ≡ n = length-take-le n s (omega arith) in
    record {
      long = length-append (take n s) (replicate (m - n) z) ∙ rw (t, length-replicate (m - n) z) (omega arith);
      rest = drop_at (take n s) (replicate (m - n) z) n t;
      typed = all_append P (take n s) (replicate (m - n) z) (all_take P n s a) (all_replicate P (m - n) z p);
    }

front_take : {A : Type 0} (n m : ℕ) (z : A) (s : List A) → n ≤ length s → take n (front n m z s) ≡ take n s
front_take n m z s h = take_at (take n s) (replicate (m - n) z) n (length-take-le n s h)

-- ---- section 1

trim_cic : CicDecimator → CicDecimator
trim_cic d = decimator_of d.stages d.r (front d.stages 8 (pos 0) d.integrator_state) (front d.stages 8 (pos 0) d.comb_state) d.sample_counter

module _ (d : CicDecimator) (few : d.stages ≤ 8) (li : length d.integrator_state ≡ 8) (lc : length d.comb_state ≡ 8) where
  abbrev ints : take d.stages (front d.stages 8 (pos 0) d.integrator_state) ≡ take d.stages d.integrator_state
  ints = front_take d.stages 8 (pos 0) d.integrator_state (omega arith)

  abbrev combs : take d.stages (front d.stages 8 (pos 0) d.comb_state) ≡ take d.stages d.comb_state
  combs = front_take d.stages 8 (pos 0) d.comb_state (omega arith)

  trim_cic_whole : All (SFits w32) d.integrator_state → All (SFits w32) d.comb_state → CicWhole (trim_cic d)
  unfolding trim_cic
  trim_cic_whole ai ac =
      record {
        integrators = front_used (SFits w32) (pos 0) d.stages 8 d.integrator_state few li ai zero_i32;
        combs = front_used (SFits w32) (pos 0) d.stages 8 d.comb_state few lc ac zero_i32;
      }

  trim_cic_bytes : cic_bytes (trim_cic d) ≡ cic_bytes d
  unfolding cic_bytes trim_cic
  trim_cic_bytes = rw (ints, combs)

  trim_cic_same : CicSame d (trim_cic d)
  unfolding trim_cic
  trim_cic_same = record { stages = refl; r = refl; counter = refl; integrators = sym ints; combs = sym combs }

-- of either kind: the arrays of the other as zeros
trim_thin : Thinning → CicDecimator → CicDecimator
trim_thin thinning.Integrators d = trim_cic d
trim_thin thinning.Neighbours d = decimator_of d.stages d.r (replicate 8 (pos 0)) (replicate 8 (pos 0)) d.sample_counter

trim_neighbours : Thinning → CicDecimator → List ℤ → List ℤ
trim_neighbours thinning.Integrators d n = replicate most_neighbours (pos 0)
trim_neighbours thinning.Neighbours d n = front (neighbour_count d.stages d.r) most_neighbours (pos 0) n

record ThinTrim (k : Thinning) (d : CicDecimator) (n : List ℤ) : Type 0 where
  whole : ThinWholeBy k (trim_thin k d) (trim_neighbours k d n)
  same : ThinSameBy k d n (trim_thin k d) (trim_neighbours k d n)
  fine : E.fine (record { kind = k; cic = d; neighbours = n }) ≡ true → E.fine (record { kind = k; cic = trim_thin k d; neighbours = trim_neighbours k d n }) ≡ true
  entries : (f : FirDecimator) (s : HbfStream) (p : PolyphaseResampF32) (cuts : ℕ) → entries_by k (trim_thin k d) (trim_neighbours k d n) f s p cuts ≡ entries_by k d n f s p cuts

module _
    (d : CicDecimator) (n : List ℤ) (few : d.stages ≤ 8) (small : d.r ≤ 4096) (li : length d.integrator_state ≡ 8) (lc : length d.comb_state ≡ 8) (ln : length n ≡ 96)
    (ai : All (SFits w32) d.integrator_state) (ac : All (SFits w32) d.comb_state) (an : All (SFits w32) n)
  where
    abbrev m : ℕ
    m = neighbour_count d.stages d.r

    m_few : m ≤ 96
    m_few = few_neighbours d.stages d.r few small

    m_front : take m (front m 96 (pos 0) n) ≡ take m n
    m_front = front_take m 96 (pos 0) n (let h = m_few in omega arith)

    m_used : Used (SFits w32) (pos 0) m 96 (front m 96 (pos 0) n)
    m_used = front_used (SFits w32) (pos 0) m 96 n m_few ln an zero_i32

    seven_entries : (f : FirDecimator) (s : HbfStream) (p : PolyphaseResampF32) (cuts : ℕ) → entries_of (trim_cic d) f s p cuts ≡ entries_of d f s p cuts
    unfolding entries_of
    seven_entries f s p cuts = rw (trim_cic_bytes d few li lc) (unfold settings_in trim_cic in refl)

    eight_entries : (f : FirDecimator) (s : HbfStream) (p : PolyphaseResampF32) (cuts : ℕ) → thin_entries (trim_thin thinning.Neighbours d) (front m 96 (pos 0) n) f s p cuts ≡ thin_entries d n f s p cuts
    unfolding thin_entries neighbours_bytes settings_in trim_thin
    eight_entries f s p cuts = rw m_front

    thin_trim : (k : Thinning) → ThinTrim k d n
    unfolding trim_thin trim_neighbours entries_by E.fine trim_cic
    thin_trim thinning.Integrators = record { whole = (unfold trim_cic in trim_cic_whole d few li lc ai ac, refl); same = unfold trim_cic in trim_cic_same d few li lc; fine = λ v. v; entries = unfold trim_cic in seven_entries }
    thin_trim thinning.Neighbours =
        record {
          whole = (refl, (refl, m_used));
          same = record { stages = refl; r = refl; counter = refl; front = sym m_front; room = (let h = m_few in omega arith); room_too = (let h = m_few in let l = m_used.long in omega arith) };
          fine = λ v. v;
          entries = unfold trim_thin in eight_entries;
        }

-- ---- section 3

-- g parks as `on` does, is whole, and the same as f
record FirTrim (f on g : FirDecimator) : Type 0 where
  whole : FirWhole g
  fine : Q.valid_in_line g ≡ true
  same : FirSame f g
  taps : tap_bytes g ≡ tap_bytes on
  delay : delay_bytes g ≡ delay_bytes on
  count : g.tap_count ≡ on.tap_count
  factor : g.factor ≡ on.factor

trim_fir_on : FirDecimator → FirDecimator
trim_fir_on f = fir_state (front f.tap_count most_taps (pos 0) f.taps) f.tap_count f.factor (front f.tap_count most_taps (pos 0) f.delay) f.wait

trim_fir : FirDecimator → FirDecimator
trim_fir f = cond (eqb f.tap_count 0) fir_zeros (trim_fir_on f)

module _ (f : FirDecimator) (v : Q.valid_in_line f ≡ true) (lt : length f.taps ≡ most_taps) (ld : length f.delay ≡ most_taps) (at : All (SFits w16) f.taps) (ad : All (SFits w16) f.delay) where
  fir_on_trim : (f.tap_count ≡ 0 → ⊥) → FirTrim f f (trim_fir_on f)
  unfolding trim_fir_on tap_bytes delay_bytes
  fir_on_trim n =
      let few = (valid_on f.tap_count f.factor f.wait (line_valid f.tap_count f.factor f.wait n v)).within.few in
      let ut = front_used (SFits w16) (pos 0) f.tap_count most_taps f.taps few lt at zero_i16 in
      let ud = front_used (SFits w16) (pos 0) f.tap_count most_taps f.delay few ld ad zero_i16 in
      let et = front_take f.tap_count most_taps (pos 0) f.taps (omega arith) in
      let ed = front_take f.tap_count most_taps (pos 0) f.delay (omega arith) in
      record {
        whole = record { taps = ut; delay = ud; off = λ z. absurd (n z) };
        fine = v;
        same = record { count = refl; on = λ k. record { factor = refl; wait = refl; taps = sym et; delay = sym ed; room = omega arith; room_too = (let l = ud.long in omega arith) } };
        taps = rw et;
        delay = rw ed;
        count = refl;
        factor = refl;
      }

  fir_trim : FirTrim f (fir_on f) (trim_fir f)
  unfolding fir_on trim_fir
  fir_trim = go (eqb f.tap_count 0) refl
    where
      go : (b : Bool) → eqb f.tap_count 0 ≡ b → FirTrim f (cond b fir_zeros f) (cond b fir_zeros (trim_fir_on f))
      go true e =
          let z = eqb-true f.tap_count 0 e in
          record { whole = zeros_whole; fine = unfold Q.fir_valid_in_line in refl; same = record { count = z; on = λ k. absurd (k z) }; taps = refl; delay = refl; count = refl; factor = refl }
      go false e = fir_on_trim (eqb-false f.tap_count 0 e)

-- ---- section 4: the stages of s, put into a fresh stream of its depth

abbrev c5 : ℕ → List Float
c5 = stage_taps decimation

filled : HbfStream → ℕ → HbfStream
filled s zero = stream_fresh s.depth
filled s (suc n) = with_stage c5 n (stage_in c5 n s) (filled s n)

module _ (s : HbfStream) (few : s.depth ≤ 5) (z : Sized s) (ad : All IsFloat s.delays) (ah : All IsFloat s.held) where
  filled_used : (n : ℕ) → n ≤ s.depth → HalfUsed s.depth (filled s n)
  unfolding filled
  filled_used zero h = half_fresh s.depth
  filled_used (suc n) h =
      with_used s.depth few n (stage_in c5 n s) (filled s n) h (stage_typed c5 n s (record { delays = ad; held = ah }))
      (stage_long c5 decimation_five n s (omega arith) z) (filled_used n (omega arith))

  filled_depth : (n : ℕ) → (filled s n).depth ≡ s.depth
  unfolding filled with_stage
  filled_depth zero = refl
  filled_depth (suc n) = filled_depth n

  filled_stage : (n : ℕ) → n ≤ s.depth → (k : ℕ) → k < n → stage_in c5 k (filled s n) ≡ stage_in c5 k s
  unfolding filled
  filled_stage zero h k l = absurd (omega arith)
  filled_stage (suc n) h k l =
      let in_range : n < 5 = omega arith in
      let long = stage_long c5 decimation_five n s in_range z in
      let sized = (filled_used n (omega arith)).sized in
      elim (dec_lt k n) [
        | yes b ↦ (elsewhere c5 decimation_five n (stage_in c5 n s) (filled s n) in_range sized long k (omega arith) (let q : k ≡ n → ⊥ = omega arith in q) ∙ filled_stage n (omega arith) k b)
        | no b ↦ (let e : k ≡ n = omega arith in subst (λ (j : ℕ). stage_in c5 j (with_stage c5 n (stage_in c5 n s) (filled s n)) ≡ stage_in c5 j s) (sym e) (found c5 decimation_five n (stage_in c5 n s) (filled s n) in_range sized long))
      ]

  t : HbfStream
  t = filled s s.depth

  t_used : HalfUsed s.depth t
  unfolding t
  t_used = filled_used s.depth (omega arith)

  t_stage : (k : ℕ) → k < s.depth → stage_in c5 k t ≡ stage_in c5 k s
  unfolding t
  t_stage = filled_stage s.depth (omega arith)

  t_depth : t.depth ≡ s.depth
  unfolding t
  t_depth = filled_depth s.depth

  stages_same : (n k : ℕ) → k + n ≤ s.depth → stages_from c5 decimation_five n k s ≡ stages_from c5 decimation_five n k t
  stages_same zero k h = refl
  stages_same (suc n) k h =
      ap₂ {C = List Half} (λ (a : Half) (l : List Half). a ∷ l) (sym (t_stage k (omega arith))) (stages_same n (suc k) (omega arith))

  half_same : HalfSame s t
  half_same = record { depth = sym t_depth; sized = z; sized_too = t_used.sized; stages = stages_same (min s.depth 5) 0 (omega arith) }

  count_is : (k : ℕ) → k < s.depth → get_or t.counts k 0 ≡ get_or s.counts k 0
  count_is k h = unfold stage_in in ap (λ (a : Half). a.count) (t_stage k h)

  stage_bytes_lem : (k : ℕ) → k < s.depth → stage_bytes t k ≡ stage_bytes s k
  unfolding stage_bytes stage_in
  stage_bytes_lem k h =
      let e = t_stage k h in
      let lt = t_used.sized.held in
      let ls = z.held in
      let held : get_or t.held k zero32 ≡ get_or s.held k zero32 = get_d_any t.held k zero32 nan (omega arith) ∙ ap (λ (a : Half). a.held) e ∙ get_d_any s.held k nan zero32 (omega arith) in
      let w = window_is k (let b : k < 5 = omega arith in b) in
      let delays : take (window_of k) (drop (96 * k) t.delays) ≡ take (window_of k) (drop (96 * k) s.delays) = rw (← w) (ap (λ (a : Half). a.window) e) in
      rw (count_is k h, held, delays)

  stages_bytes_lem : (n : ℕ) → n ≤ s.depth → stages_bytes t n ≡ stages_bytes s n
  unfolding stages_bytes
  stages_bytes_lem zero h = refl
  stages_bytes_lem (suc n) h = ap₂ {C = List ℕ} (λ (a b : List ℕ). a ++ b) (stages_bytes_lem n (omega arith)) (stage_bytes_lem n h)

  half_fine : half_band_fine s ≡ true → half_band_fine t ≡ true
  unfolding half_band_fine
  half_fine v =
      not_from_false _ (line_not_refused t.depth t.counts (λ p.
      let q : 1 ≤ s.depth = rw t_depth at p in
      let f = refused_says s.depth s.counts (line_refused_says s.depth s.counts q (not-true _ v)) in
      rw t_depth (not_refused s.depth t.counts (record { some = f.some; few = f.few; held = λ j l. rw (count_is j l) (f.held j l) }))))

-- ---- section 5

record ResamplerTrim (p on g : PolyphaseResampF32) : Type 0 where
  whole : ResamplerWhole g
  fine : valid_in_line g ≡ true
  same : ResamplerSame p g
  cells : prototype_bytes g ≡ prototype_bytes on
  delay : resampler_bytes g ≡ resampler_bytes on
  phases : g.phases ≡ on.phases
  taps : g.taps ≡ on.taps
  straight : g.straight ≡ on.straight
  step : g.step ≡ on.step

trim_resampler_on : PolyphaseResampF32 → PolyphaseResampF32
trim_resampler_on p =
    record {
      phases = p.phases;
      taps = p.taps;
      straight = p.straight;
      mu = p.mu;
      step = p.step;
      delay = front p.taps 16 zero32 p.delay;
      prototype = front (p.phases * p.taps) 1024 zero32 p.prototype;
    }

trim_resampler : PolyphaseResampF32 → PolyphaseResampF32
trim_resampler p = cond (eqb p.phases 0) R.zeros (trim_resampler_on p)

module _
    (p : PolyphaseResampF32) (v : valid_in_line p ≡ true) (ld : length p.delay ≡ 16) (lc : length p.prototype ≡ 1024) (ad : All IsFloat p.delay) (ac : All IsFloat p.prototype)
    (fm : IsFloat p.mu) (fs : IsFloat p.step)
  where
    resampler_on_trim : (p.phases ≡ 0 → ⊥) → ResamplerTrim p p (trim_resampler_on p)
    unfolding trim_resampler_on prototype_bytes resampler_bytes valid_in_line
    resampler_on_trim n =
        let b = resampler_taps p (unfold valid_in_line in v) n in
        let few = b.1 in
        let cells : p.phases * p.taps ≤ 1024 = mul-le-mul b.0 b.1 in
        let ud = front_used IsFloat zero32 p.taps 16 p.delay few ld ad zero_f32 in
        let uc = front_used IsFloat zero32 (p.phases * p.taps) 1024 p.prototype cells lc ac zero_f32 in
        let ed = front_take p.taps 16 zero32 p.delay (omega arith) in
        let ec = front_take (p.phases * p.taps) 1024 zero32 p.prototype (omega arith) in
        record {
          whole = record { delay = ud; prototype = uc; mu = fm; step = fs; off = λ z. absurd (n z) };
          fine = v;
          same = record {
            phases = refl;
            on = λ k. record { taps = refl; straight = refl; mu = refl; step = refl; delay = sym ed; cells = sym ec; room = omega arith; room_too = (let l = ud.long in omega arith) };
          };
          cells = rw ec;
          delay = rw ed;
          phases = refl;
          taps = refl;
          straight = refl;
          step = refl;
        }

    zeros_fine : valid_in_line R.zeros ≡ true
    unfolding valid_in_line valid_in_line_at R.zeros
    zeros_fine = refl

    zeros_phases : (R.zeros).phases ≡ 0
    unfolding R.zeros
    zeros_phases = refl

    resampler_trim : ResamplerTrim p (resampler_on p) (trim_resampler p)
    unfolding resampler_on trim_resampler
    resampler_trim = go (eqb p.phases 0) refl
      where
        go : (b : Bool) → eqb p.phases 0 ≡ b → ResamplerTrim p (cond b R.zeros p) (cond b R.zeros (trim_resampler_on p))
        go true e =
            let z = eqb-true p.phases 0 e in
            record {
              whole = resampler_off;
              fine = zeros_fine;
              same = record { phases = z ∙ sym zeros_phases; on = λ k. absurd (k z) };
              cells = refl;
              delay = refl;
              phases = refl;
              taps = refl;
              straight = refl;
              step = refl;
            }
        go false e = resampler_on_trim (eqb-false p.phases 0 e)

-- ---- the line

-- a line is the same as another as far as any section looks, and has its cut count
abbrev SameParts : Parts → Parts → Type 0
SameParts p q =
    ThinSame p.0 q.0
    × ((Unit {0}) × (FirSame p.1.1.0 q.1.1.0 × ((Unit {0}) × (HalfSame p.1.1.1.1.0 q.1.1.1.1.0 × ResamplerSame p.1.1.1.1.1 q.1.1.1.1.1))))

pub record SameLine (l k : Line) : Type 0 where
  pub parts : SameParts (parts_of l) (parts_of k)
  pub cuts : l.cuts ≡ k.cuts

module _ (l : Line) (v : valid l ≡ true) (ty : LineTyped l) where
  abbrev d : CicDecimator
  d = l.cic

  abbrev f : FirDecimator
  f = l.fir

  abbrev s : HbfStream
  s = l.half_band

  abbrev p : PolyphaseResampF32
  p = l.resampler

  numbers : ThinNumbers d
  numbers = thin_numbers (thinner_of l) (to_parts l v).0

  tr : ThinTrim l.thinning d l.neighbours
  tr = thin_trim d l.neighbours numbers.stages numbers.r ty.arrays.integrators ty.arrays.combs ty.neighbours_long ty.integrators ty.combs ty.neighbours l.thinning

  depth_few : s.depth ≤ 5
  depth_few = half_depth s (to_parts l v).1.1.1.1.0

  sized : Sized s
  sized = record { delays = ty.arrays.delays; held = ty.arrays.held; counts = ty.arrays.counts }

  ft : FirTrim f (fir_on f) (trim_fir f)
  ft = fir_trim f (to_parts l v).1.1.0 ty.arrays.taps ty.arrays.fir_delay ty.taps ty.fir_delay

  rt : ResamplerTrim p (resampler_on p) (trim_resampler p)
  rt = resampler_trim p (to_parts l v).1.1.1.1.1 ty.arrays.delay ty.arrays.prototype ty.delay ty.prototype ty.mu ty.step

  pub trimmed : Line
  trimmed =
      record {
        thinning = l.thinning;
        cic = trim_thin l.thinning d;
        neighbours = trim_neighbours l.thinning d l.neighbours;
        fir = trim_fir f;
        half_band = filled s s.depth;
        resampler = trim_resampler p;
        cuts = l.cuts;
      }

  trimmed_valid : valid trimmed ≡ true
  unfolding trimmed
  trimmed_valid =
      of_parts trimmed (tr.fine (to_parts l v).0, (tt, (ft.fine, (tt, (unfold t in half_fine s depth_few sized ty.delays ty.held (to_parts l v).1.1.1.1.0, rt.fine)))))

  trimmed_whole : LineWhole trimmed
  unfolding trimmed
  trimmed_whole =
      record {
        thinner = tr.whole;
        fir = ft.whole;
        half_band = unfold t in subst (λ (n : ℕ). HalfUsed n (filled s s.depth)) (sym (filled_depth s depth_few sized ty.delays ty.held s.depth)) (t_used s depth_few sized ty.delays ty.held);
        resampler = rt.whole;
        cuts = (let c = ty.cuts in omega arith);
      }

  same_trimmed : SameLine l trimmed
  unfolding trimmed
  same_trimmed =
      record {
        parts = (record { kind = refl; by_kind = tr.same }, (tt, (ft.same, (tt, (unfold t in half_same s depth_few sized ty.delays ty.held, rt.same)))));
        cuts = refl;
      }

  same_settings : settings_in d (trim_fir f) (filled s s.depth).depth (trim_resampler p) l.cuts ≡ settings_in d (fir_on f) s.depth (resampler_on p) l.cuts
  unfolding settings_in
  same_settings = rw (filled_depth s depth_few sized ty.delays ty.held s.depth, ft.count, ft.factor, rt.phases, rt.taps, rt.straight, rt.step)

  same_stages : stages_bytes (filled s s.depth) (min (filled s s.depth).depth 5) ≡ stages_bytes s (min s.depth 5)
  same_stages =
      ap (λ (n : ℕ). stages_bytes (filled s s.depth) (min n 5)) (filled_depth s depth_few sized ty.delays ty.held s.depth)
      ∙ (unfold t in stages_bytes_lem s depth_few sized ty.delays ty.held (min s.depth 5) (omega arith))

  same_rest : (k : Thinning) (n : List ℤ) → entries_by k d n (trim_fir f) (filled s s.depth) (trim_resampler p) l.cuts ≡ entries_by k d n (fir_on f) s (resampler_on p) l.cuts
  unfolding entries_by entries_of thin_entries
  same_rest thinning.Integrators n = rw (same_settings, ft.taps, ft.delay, same_stages, rt.cells, rt.delay)
  same_rest thinning.Neighbours n = rw (same_settings, ft.taps, ft.delay, same_stages, rt.cells, rt.delay)

  same_entries : line_entries trimmed ≡ line_entries l
  unfolding line_entries trimmed
  same_entries =
      rw (fir_on_is (trim_fir f) ft.whole, resampler_on_is (trim_resampler p) rt.whole)
      (tr.entries (trim_fir f) (filled s s.depth) (trim_resampler p) l.cuts ∙ same_rest l.thinning l.neighbours)

  -- so it is taken up, as the line with zeros there
  pub taken_lent : (v : Panel) → most_taps ≤ v.most_taps → v.thinning ≡ true → taken_up v (parked_line v l) ≡ record { number = 0; state = trimmed }
  unfolding parked_line
  taken_lent v h b =
      ap (λ (es : List (List ℕ)). taken_up v (parked v.rule es)) (sym same_entries) ∙ taken_back trimmed (trimmed_valid, trimmed_whole) v h b

-- ---- feeds

abbrev Fine3 : FirDecimator × (Unit {0} × (HbfStream × PolyphaseResampF32)) → Type 0
Fine3 q = (Q.valid_in_line q.0 ≡ true) × (Unit {0} × (Unit {0} × Unit {0}))

abbrev Same3 : FirDecimator × (Unit {0} × (HbfStream × PolyphaseResampF32)) → FirDecimator × (Unit {0} × (HbfStream × PolyphaseResampF32)) → Type 0
Same3 q u = FirSame q.0 u.0 × (Unit {0} × (HalfSame q.1.1.0 u.1.1.0 × ResamplerSame q.1.1.1 u.1.1.1))

-- a part that maps each value
each_alike : {A B : Type 0} (g : A → B) → AlikeSection {S = Unit {0}} (each g) (λ q. Unit {0}) (λ q u. Unit {0})
each_alike g = record { next = λ q u a n e. tt; out = λ q u a n e. refl }

alike4 : Alike from4 (λ q. Unit {0} × Unit {0}) (λ q u. HalfSame q.0 u.0 × ResamplerSame q.1 u.1)
alike4 = alike_before hbf_stream in_line (λ q. Unit {0}) HalfSame (λ q. Unit {0}) ResamplerSame half_alike resampler_alike

alike3 : Alike from3 Fine3 Same3
alike3 =
    alike_before fir (before (each level) from4) (λ q. Q.valid_in_line q ≡ true) FirSame (λ q. Unit {0} × (Unit {0} × Unit {0}))
    (λ q u. Unit {0} × (HalfSame q.1.0 u.1.0 × ResamplerSame q.1.1 u.1.1)) fir_alike
    (alike_before (each level) from4 (λ q. Unit {0}) (λ q u. Unit {0}) (λ q. Unit {0} × Unit {0}) (λ q u. HalfSame q.0 u.0 × ResamplerSame q.1 u.1) (each_alike level) alike4)

alike1 : Alike chain (λ q. Unit {0} × (Unit {0} × Fine3 q.1.1)) SameParts
alike1 =
    alike_before either (before (each (cut w16)) from3) (λ q. Unit {0}) ThinSame (λ q. Unit {0} × Fine3 q.1) (λ q u. Unit {0} × Same3 q.1 u.1) thin_alike
    (alike_before (each (cut w16)) from3 (λ q. Unit {0}) (λ q u. Unit {0}) Fine3 Same3 (each_alike (cut w16)) alike3)

abbrev Good : Line → Type 0
Good l = valid l ≡ true

fine_parts : (l : Line) → Good l → Unit {0} × (Unit {0} × Fine3 (parts_of l).1.1)
fine_parts l v = (tt, (tt, ((to_parts l v).1.1.0, (tt, (tt, tt)))))

cuts_for_lem : (f g : FirDecimator) (o : Option ℤ) → Q.valid_in_line f ≡ true → FirSame f g → cuts_for f o ≡ cuts_for g o
cuts_for_lem f g None v e = refl
cuts_for_lem f g (Some z) v e = ap (λ (o : Option ℤ). cut_one w16 z + sum_cut o) (fir_both f g (cut w16 z) v e).sum_out

line_alike : Alike line Good SameLine
line_alike =
    record {
      due = λ l k v e. alike1.due (parts_of l) (parts_of k) (fine_parts l v) e.parts;
      val = λ l k v e d. alike1.val (parts_of l) (parts_of k) (fine_parts l v) e.parts d;
      after = λ l k v e d. record { parts = alike1.after (parts_of l) (parts_of k) (fine_parts l v) e.parts d; cuts = e.cuts };
      next = λ l k x v e. record { parts = alike1.next (parts_of l) (parts_of k) x (fine_parts l v) e.parts; cuts = counts l k x v e };
      now = λ l k x v e. alike1.now (parts_of l) (parts_of k) x (fine_parts l v) e.parts;
    }
  where
    counts : (l k : Line) (x : ℤ) → Good l → SameLine l k → (line.next l x).cuts ≡ (line.next k x).cuts
    counts l k x v e =
        ap₂ {C = ℕ} (held_sum most_cuts) e.cuts
        (cuts_for_lem l.fir k.fir (either.out (thinner_of l) x) (to_parts l v).1.1.0 e.parts.1.1.0
        ∙ ap (cuts_for k.fir) (thin_alike.out (thinner_of l) (thinner_of k) x tt e.parts.0))

-- after any feeds both are valid and the same
record Together (l k : Line) : Type 0 where
  one : Good l
  other : Good k
  same : SameLine l k

module _ (l k : Line) (e : Together l k) where
  good_feed : (j : Line) (xs : List ℤ) (n : ℕ) → Good j → Good (feed_outcome j xs n).state
  good_feed j xs n v = rw (outcome_is j xs n v) (feed_keeps line Good line_lawful.good_after line_lawful.good_next j xs n v)

  fed_alike : (xs : List ℤ) (n : ℕ) → SameFed SameLine (F.feed line l xs n) (F.feed line k xs n)
  fed_alike xs n = feed_same line Good SameLine line_alike line_lawful.good_after line_lawful.good_next l k xs n e.one e.same

  together_feed : (xs : List ℤ) (n : ℕ) → Together (feed_outcome l xs n).state (feed_outcome k xs n).state
  together_feed xs n =
      record {
        one = good_feed l xs n e.one;
        other = good_feed k xs n e.other;
        same = rw (outcome_is l xs n e.one, outcome_is k xs n e.other) (fed_alike xs n).line;
      }

  number_alike : (xs : List ℤ) (n : ℕ) → (feed_outcome l xs n).number ≡ (feed_outcome k xs n).number
  number_alike xs n = rw (outcome_is l xs n e.one, outcome_is k xs n e.other)

  value_alike : (xs : List ℤ) (n : ℕ) → (feed_outcome l xs n).value ≡ (feed_outcome k xs n).value
  value_alike xs n =
      let s = fed_alike xs n in
      rw (outcome_is l xs n e.one, outcome_is k xs n e.other, s.taken, s.written)

  span_alike : (xs : List ℤ) (span : List Float) → feed_span l xs span ≡ feed_span k xs span
  unfolding feed_span fed_line
  span_alike xs span =
      let s = fed_alike xs (length span) in
      rw (e.one, e.other, s.written)

together_after : (l k : Line) → Together l k → (h : History) → Together (fed_on l h) (fed_on k h)
together_after l k e none_yet = e
together_after l k e (fed h xs span) = together_feed (fed_on l h) (fed_on k h) (together_after l k e h) xs (length span)

goes_on : (l k : Line) → Together l k → GoesOnAlike l k
goes_on l k e =
    record {
      numbers = λ h. number_alike (fed_on l h) (fed_on k h) (together_after l k e h);
      answers = λ h. value_alike (fed_on l h) (fed_on k h) (together_after l k e h);
      outputs = λ h. span_alike (fed_on l h) (fed_on k h) (together_after l k e h);
      cuts = λ h. (together_after l k e h).same.cuts;
    }

-- only a valid line is parked
pub parks_valid : (v : Panel) (l : Line) (places : ℕ) → park_number v l places ≡ 0 → valid l ≡ true
unfolding park_number
parks_valid v l places e = go (valid l) refl
  where
    go : (b : Bool) → valid l ≡ b → valid l ≡ true
    go true p = p
    go false p = (let q : ◌≡◌ {A = ℕ} 15 0 = rw p at e in absurd (omega (arith, q)))

-- any valid line, and what is taken up of its sheet
pub lent_goes_on : (l : Line) → valid l ≡ true → LineTyped l → (v : Panel) → most_taps ≤ v.most_taps → v.thinning ≡ true → ((taken_up v (parked_line v l)).number ≡ 0) × GoesOnAlike l (taken_up v (parked_line v l)).state
lent_goes_on l g ty v h b =
    rw (taken_lent l g ty v h b) (refl, goes_on l (trimmed l g ty) (record { one = g; other = trimmed_valid l g ty; same = same_trimmed l g ty }))
