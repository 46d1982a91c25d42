-- What is taken up is what some parking writes: the line that was read is valid, and its entries are those that it was read from.
use mathlib.Core.Path.{◌≡◌, refl, sym, ap, ap₂, ◌∙◌}
use mathlib.Core.Bool.{Bool, true, false, cond, ◌&&◌, true≢false}
use mathlib.Core.List.{List, [], ◌∷◌}
use Prim.Native.Nat.{ℕ, zero, suc, ◌+◌, ◌*◌, ◌≤◌, ◌<◌, min}
use native.Mathlib.Omega.{arith}
use borrow.Author.Tests.{eqb-true, leb-true}
use lib.Dec.{eqb, leb, eqb-suc-zero}
use lib.IntN.{pos}
use lib.Ieee.{binary32, to_bits, of_bits}
use lib.ListN.{length, get_or, drop, replicate}
use Rattle.integer.specs.declared.cic_decimator.CicDecimator.{CicDecimator}
use Rattle.q15.specs.FirDecimator.{most_taps, fir_zeros}
use Rattle.float.specs.PolyphaseOpening as R
use Rattle.float.specs.F32.{zero32}
use Rattle.line.specs.Openings as L
use Rattle.std.proofs.lemmas.Bool.{and_parts}
use Rattle.line.proofs.Lawful.{to_parts}
use Rattle.theory.specs.Lists.{listed}
use Rattle.refusal.specs.Outcome.{Opened}
use Rattle.line.specs.declared.gauge_line.Line.{Line}
use Rattle.nonrecursive.specs.declared.thinning.Thinning.{Thinning}
use Rattle.nonrecursive.specs.declared.thinning.Thinning.TheVariants as thinning
use Rattle.half_band.specs.declared.hbf_stream.HbfStream.{HbfStream}
use Rattle.parking.specs.inner.Told.{count_by, sizes_by}
use Rattle.sheet.specs.Sheet.{present, le16, le32, count_of, sheet_number, offset, size, part_at}
use Rattle.sheet.proofs.Laying.{laid_none}
use Rattle.words.specs.Fields.{is_float, floats_at, values_at, All}
use Rattle.parking.specs.Parked.{Settings, panel, settings_of, sizes, thin_sizes, neighbour_count, same, lengths_of, half_band_bytes, entries_of, shaped, take_up_number}
use Rattle.parking.specs.Entries.{fir_on, resampler_on, settings_in, stages_bytes, entries_of as entries_in, thin_entries, entries_by, line_entries, cic_from, place_from, fir_from, half_band_from, resampler_from, stages_written, fir_written, resampler_written, written, fine, line_with, line_from}
use Rattle.parking.specs.Parking.{taken_up, taken_up_number}
use Rattle.words.proofs.Fields.{all_take, all_drop, all_append}
use Rattle.parking.proofs.WholeLine.{half_depth}
use Rattle.taking_up.specs.AsParked.{AsParked}
use Rattle.taking_up.proofs.Again.{Byte, settings_again, cic_again, neighbours_again, taps_again, delay_again, stages_again, prototype_again, resampler_again}

-- ---- a part that is off was read as zeros

fir_off : (q : Settings) (t e : List ℕ) → q.taps ≡ 0 → q.factor ≡ 0 → le16 e 0 ≡ 0 → fir_zeros ≡ fir_from q t e
unfolding fir_from values_at
fir_off q t e a b c = sym (rw (a, b, c, ← laid_none 0 (replicate most_taps (pos 0))))

pub fir_as_read : (q : Settings) (t e : List ℕ) → fir_written q e ≡ true → fir_on (fir_from q t e) ≡ fir_from q t e
unfolding fir_on fir_written fir_from
fir_as_read q t e w = go (eqb q.taps 0) refl w
  where
    go : (b : Bool) → eqb q.taps 0 ≡ b → cond b (eqb q.factor 0 && eqb (le16 e 0) 0) true ≡ true → cond b fir_zeros (fir_from q t e) ≡ fir_from q t e
    go true z w = fir_off q t e (eqb-true q.taps 0 z) (eqb-true q.factor 0 (and_parts (eqb q.factor 0) (eqb (le16 e 0) 0) w).0) (eqb-true (le16 e 0) 0 (and_parts (eqb q.factor 0) (eqb (le16 e 0) 0) w).1)
    go false z w = refl

resampler_off : (q : Settings) (c e : List ℕ) → q.phases ≡ 0 → q.phase_taps ≡ 0 → q.straight ≡ 0 → q.step ≡ 0 → le32 e 0 ≡ 0 → R.zeros ≡ resampler_from q c e
unfolding R.zeros resampler_from values_at
resampler_off q c e a b d f g = sym (rw (a, b, d, f, g, ← laid_none 0 (replicate 16 zero32), ← laid_none 0 (replicate 1024 zero32)))

pub resampler_as_read : (q : Settings) (c e : List ℕ) → resampler_written q e ≡ true → resampler_on (resampler_from q c e) ≡ resampler_from q c e
unfolding resampler_on resampler_written resampler_from
resampler_as_read q c e w = go (eqb q.phases 0) refl w
  where
    go : (b : Bool) → eqb q.phases 0 ≡ b → cond b (eqb q.phase_taps 0 && (eqb q.straight 0 && (eqb q.step 0 && eqb (le32 e 0) 0))) true ≡ true → cond b R.zeros (resampler_from q c e) ≡ resampler_from q c e
    go true z w =
        let w₁ = (and_parts (eqb q.phase_taps 0) (eqb q.straight 0 && (eqb q.step 0 && eqb (le32 e 0) 0)) w).1 in
        let w₂ = (and_parts (eqb q.straight 0) (eqb q.step 0 && eqb (le32 e 0) 0) w₁).1 in
        resampler_off q c e (eqb-true q.phases 0 z)
        (eqb-true q.phase_taps 0 (and_parts (eqb q.phase_taps 0) (eqb q.straight 0 && (eqb q.step 0 && eqb (le32 e 0) 0)) w).0)
        (eqb-true q.straight 0 (and_parts (eqb q.straight 0) (eqb q.step 0 && eqb (le32 e 0) 0) w₁).0)
        (eqb-true q.step 0 (and_parts (eqb q.step 0) (eqb (le32 e 0) 0) w₂).0)
        (eqb-true (le32 e 0) 0 (and_parts (eqb q.step 0) (eqb (le32 e 0) 0) w₂).1)
    go false z w = refl

-- ---- seven entries

flag_again : (n : ℕ) → n ≤ 1 → cond {A = ℕ} (leb 1 n) 1 0 ≡ n
flag_again zero h = refl
flag_again (suc zero) h = refl
flag_again (suc (suc n)) h = absurd (omega arith)

module _ (e₀ e₁ e₂ e₃ e₄ e₅ e₆ : List ℕ) where
  abbrev es : List (List ℕ)
  es = e₀ ∷ e₁ ∷ e₂ ∷ e₃ ∷ e₄ ∷ e₅ ∷ e₆ ∷ []

  abbrev q : Settings
  q = settings_of e₀

  -- what the fields test says, field by field
  pub record Fields : Type 0 where
    pub straight : q.straight ≤ 1
    pub step : is_float q.step ≡ true
    pub fir : fir_written q e₃ ≡ true
    pub resampler : resampler_written q e₆ ≡ true
    pub stages : stages_written e₄ (min q.depth 5) ≡ true
    pub cells : floats_at e₅ 0 (q.phases * q.phase_taps) ≡ true
    pub delays : floats_at e₆ 0 (1 + q.phase_taps) ≡ true

  pub fields_told : written es ≡ true → Fields
  unfolding written
  fields_told w =
      let c₇ = floats_at e₆ 0 (1 + q.phase_taps) in
      let c₆ = floats_at e₅ 0 (q.phases * q.phase_taps) && c₇ in
      let c₅ = stages_written e₄ (min q.depth 5) && c₆ in
      let c₄ = resampler_written q e₆ && c₅ in
      let c₃ = fir_written q e₃ && c₄ in
      let c₂ = is_float q.step && c₃ in
      let w₂ = (and_parts (leb q.straight 1) c₂ w).1 in
      let w₃ = (and_parts (is_float q.step) c₃ w₂).1 in
      let w₄ = (and_parts (fir_written q e₃) c₄ w₃).1 in
      let w₅ = (and_parts (resampler_written q e₆) c₅ w₄).1 in
      let w₆ = (and_parts (stages_written e₄ (min q.depth 5)) c₆ w₅).1 in
      record {
        straight = leb-true q.straight 1 (and_parts (leb q.straight 1) c₂ w).0;
        step = (and_parts (is_float q.step) c₃ w₂).0;
        fir = (and_parts (fir_written q e₃) c₄ w₃).0;
        resampler = (and_parts (resampler_written q e₆) c₅ w₄).0;
        stages = (and_parts (stages_written e₄ (min q.depth 5)) c₆ w₅).0;
        cells = (and_parts (floats_at e₅ 0 (q.phases * q.phase_taps)) c₇ w₆).0;
        delays = (and_parts (floats_at e₅ 0 (q.phases * q.phase_taps)) c₇ w₆).1;
      }

  pub record Lengths : Type 0 where
    pub settings : length e₀ ≡ 24
    pub taps : length e₂ ≡ 2 * q.taps
    pub delay : length e₃ ≡ 2 + 2 * q.taps
    pub half_band : length e₄ ≡ half_band_bytes q.depth
    pub cells : length e₅ ≡ 4 * (q.phases * q.phase_taps)
    pub resampler : length e₆ ≡ 4 + 4 * q.phase_taps

  pub record AllBytes : Type 0 where
    pub a₀ : All Byte e₀
    pub a₂ : All Byte e₂
    pub a₃ : All Byte e₃
    pub a₄ : All Byte e₄
    pub a₅ : All Byte e₅
    pub a₆ : All Byte e₆

  module _ (a : AllBytes) (l : Lengths) (f : Fields) (few : q.depth ≤ 5) where
    settings_kept : (d : CicDecimator) → d.stages ≡ q.stages → d.r ≡ q.r → settings_in d (fir_from q e₂ e₃) (half_band_from q e₄).depth (resampler_from q e₅ e₆) q.cuts ≡ q
    unfolding settings_in fir_from half_band_from resampler_from
    settings_kept d x y = rw (x, y, flag_again q.straight f.straight, eqb-true (to_bits binary32 (of_bits binary32 q.step)) q.step f.step)

    stages_kept : stages_bytes (half_band_from q e₄) (min (half_band_from q e₄).depth 5) ≡ e₄
    unfolding half_band_from
    stages_kept =
        let d : min q.depth 5 ≡ q.depth = omega arith in
        let b : length e₄ ≡ half_band_bytes (min q.depth 5) = l.half_band ∙ ap half_band_bytes (sym d) in
        stages_again e₄ a.a₄ (min q.depth 5) (omega arith) (omega arith) f.stages (half_band_from q e₄) refl refl refl b

    pub entries_again : All Byte e₁ → length e₁ ≡ 2 + 8 * q.stages → line_entries (line_from es) ≡ es
    unfolding line_entries line_from line_with entries_by entries_in
    entries_again b n =
        rw (
          fir_as_read q e₂ e₃ f.fir,
          resampler_as_read q e₅ e₆ f.resampler,
          settings_kept (cic_from q e₁) (unfold cic_from in refl) (unfold cic_from in refl),
          settings_again e₀ a.a₀ l.settings,
          cic_again q e₁ b n,
          taps_again q e₂ e₃ a.a₂ l.taps,
          delay_again q e₂ e₃ a.a₃ l.delay,
          stages_kept,
          prototype_again q e₅ e₆ a.a₅ l.cells f.cells,
          resampler_again q e₅ e₆ a.a₆ l.resampler f.delays,
        )

    -- of eight, where the second is empty and e₇ the last
    pub thin_again : (e₇ : List ℕ) → All Byte e₇ → e₁ ≡ [] → length e₇ ≡ 2 + 4 * neighbour_count q.stages q.r
        → line_entries (line_from (e₀ ∷ e₁ ∷ e₂ ∷ e₃ ∷ e₄ ∷ e₅ ∷ e₆ ∷ e₇ ∷ [])) ≡ e₀ ∷ e₁ ∷ e₂ ∷ e₃ ∷ e₄ ∷ e₅ ∷ e₆ ∷ e₇ ∷ []
    unfolding line_entries line_from line_with entries_by thin_entries
    thin_again e₇ b z n =
        rw (
          fir_as_read q e₂ e₃ f.fir,
          resampler_as_read q e₅ e₆ f.resampler,
          settings_kept (place_from q e₇) (unfold place_from in refl) (unfold place_from in refl),
          settings_again e₀ a.a₀ l.settings,
          taps_again q e₂ e₃ a.a₂ l.taps,
          delay_again q e₂ e₃ a.a₃ l.delay,
          stages_kept,
          prototype_again q e₅ e₆ a.a₅ l.cells f.cells,
          resampler_again q e₅ e₆ a.a₆ l.resampler f.delays,
          neighbours_again q e₇ b n,
          z,
        )

-- ---- any entries that are shaped and fine

same_says : (ms ns : List ℕ) → same ms ns ≡ true → ms ≡ ns
unfolding same
same_says [] [] e = refl
same_says [] (n ∷ ns) e = absurd (true≢false (sym e))
same_says (m ∷ ms) [] e = absurd (true≢false (sym e))
same_says (m ∷ ms) (n ∷ ns) e = ap₂ {C = List ℕ} (λ (i : ℕ) (l : List ℕ). i ∷ l) (eqb-true m n (and_parts (eqb m n) (same ms ns) e).0) (same_says ms ns (and_parts (eqb m n) (same ms ns) e).1)

lengths_told : (e₀ e₁ e₂ e₃ e₄ e₅ e₆ : List ℕ) → lengths_of (e₀ ∷ e₁ ∷ e₂ ∷ e₃ ∷ e₄ ∷ e₅ ∷ e₆ ∷ []) ≡ sizes (settings_of e₀) → Lengths e₀ e₁ e₂ e₃ e₄ e₅ e₆
unfolding lengths_of sizes
lengths_told e₀ e₁ e₂ e₃ e₄ e₅ e₆ e =
    record {
      settings = ap (λ (l : List ℕ). get_or l 0 0) e;
      taps = ap (λ (l : List ℕ). get_or l 2 0) e;
      delay = ap (λ (l : List ℕ). get_or l 3 0) e;
      half_band = ap (λ (l : List ℕ). get_or l 4 0) e;
      cells = ap (λ (l : List ℕ). get_or l 5 0) e;
      resampler = ap (λ (l : List ℕ). get_or l 6 0) e;
    }

cic_told : (e₀ e₁ e₂ e₃ e₄ e₅ e₆ : List ℕ) → lengths_of (e₀ ∷ e₁ ∷ e₂ ∷ e₃ ∷ e₄ ∷ e₅ ∷ e₆ ∷ []) ≡ sizes (settings_of e₀) → length e₁ ≡ 2 + 8 * (settings_of e₀).stages
unfolding lengths_of sizes
cic_told e₀ e₁ e₂ e₃ e₄ e₅ e₆ e = ap (λ (l : List ℕ). get_or l 1 0) e

-- the same of eight
thin_told : (e₀ e₁ e₂ e₃ e₄ e₅ e₆ e₇ : List ℕ) → lengths_of (e₀ ∷ e₁ ∷ e₂ ∷ e₃ ∷ e₄ ∷ e₅ ∷ e₆ ∷ e₇ ∷ []) ≡ thin_sizes (settings_of e₀)
    → Lengths e₀ e₁ e₂ e₃ e₄ e₅ e₆ × ((length e₁ ≡ 0) × (length e₇ ≡ 2 + 4 * neighbour_count (settings_of e₀).stages (settings_of e₀).r))
unfolding lengths_of thin_sizes
thin_told e₀ e₁ e₂ e₃ e₄ e₅ e₆ e₇ e = (
  record {
    settings = ap (λ (l : List ℕ). get_or l 0 0) e;
    taps = ap (λ (l : List ℕ). get_or l 2 0) e;
    delay = ap (λ (l : List ℕ). get_or l 3 0) e;
    half_band = ap (λ (l : List ℕ). get_or l 4 0) e;
    cells = ap (λ (l : List ℕ). get_or l 5 0) e;
    resampler = ap (λ (l : List ℕ). get_or l 6 0) e;
  },
  (ap (λ (l : List ℕ). get_or l 1 0) e, ap (λ (l : List ℕ). get_or l 7 0) e),
)

none_there : (e : List ℕ) → length e ≡ 0 → e ≡ []
none_there [] h = refl
none_there (x ∷ e) h = absurd (omega (arith, h))

half_of : (b : Bool) (x y : Line) (h : HbfStream) → x.half_band ≡ h → y.half_band ≡ h → (cond b x y).half_band ≡ h
half_of true x y h e f = e
half_of false x y h e f = f

half_read : (es : List (List ℕ)) → (line_from es).half_band ≡ half_band_from (settings_of (get_or es 0 [])) (get_or es 4 [])
unfolding line_from line_with
half_read es = half_of (eqb (length es) 8) _ _ _ refl refl

few_stages : (es : List (List ℕ)) → L.valid (line_from es) ≡ true → (settings_of (get_or es 0 [])).depth ≤ 5
unfolding half_band_from
few_stages es v = rw (half_read es) at (half_depth (line_from es).half_band (to_parts (line_from es) v).1.1.1.1.0)

eight_fields : (e₀ e₁ e₂ e₃ e₄ e₅ e₆ e₇ : List ℕ) → written (e₀ ∷ e₁ ∷ e₂ ∷ e₃ ∷ e₄ ∷ e₅ ∷ e₆ ∷ e₇ ∷ []) ≡ true → written (e₀ ∷ e₁ ∷ e₂ ∷ e₃ ∷ e₄ ∷ e₅ ∷ e₆ ∷ []) ≡ true
unfolding written
eight_fields e₀ e₁ e₂ e₃ e₄ e₅ e₆ e₇ w = w

seven_or_more : (k : Thinning) → 7 ≤ count_by k
seven_or_more thinning.Integrators = omega arith
seven_or_more thinning.Neighbours = omega arith

short : (k : Thinning) (n : ℕ) → n ≡ count_by k → n < 7 → ⊥
short k n e h = let m = seven_or_more k in omega arith

-- as many as the kind has
again_by : (k : Thinning) (es : List (List ℕ)) → All (All Byte) es → length es ≡ count_by k → lengths_of es ≡ sizes_by k (settings_of (get_or es 0 [])) → L.valid (line_from es) ≡ true → written es ≡ true → line_entries (line_from es) ≡ es
again_by thinning.Integrators (e₀ ∷ e₁ ∷ e₂ ∷ e₃ ∷ e₄ ∷ e₅ ∷ e₆ ∷ []) a n s v w =
    entries_again e₀ e₁ e₂ e₃ e₄ e₅ e₆
    (record { a₀ = a.0; a₂ = a.1.1.0; a₃ = a.1.1.1.0; a₄ = a.1.1.1.1.0; a₅ = a.1.1.1.1.1.0; a₆ = a.1.1.1.1.1.1.0 })
    (lengths_told e₀ e₁ e₂ e₃ e₄ e₅ e₆ s)
    (fields_told e₀ e₁ e₂ e₃ e₄ e₅ e₆ w)
    (few_stages (e₀ ∷ e₁ ∷ e₂ ∷ e₃ ∷ e₄ ∷ e₅ ∷ e₆ ∷ []) v)
    a.1.0 (cic_told e₀ e₁ e₂ e₃ e₄ e₅ e₆ s)
again_by thinning.Neighbours (e₀ ∷ e₁ ∷ e₂ ∷ e₃ ∷ e₄ ∷ e₅ ∷ e₆ ∷ []) a n s v w = absurd (omega (arith, n))
again_by thinning.Neighbours (e₀ ∷ e₁ ∷ e₂ ∷ e₃ ∷ e₄ ∷ e₅ ∷ e₆ ∷ e₇ ∷ []) a n s v w =
    let t = thin_told e₀ e₁ e₂ e₃ e₄ e₅ e₆ e₇ s in
    thin_again e₀ e₁ e₂ e₃ e₄ e₅ e₆
    (record { a₀ = a.0; a₂ = a.1.1.0; a₃ = a.1.1.1.0; a₄ = a.1.1.1.1.0; a₅ = a.1.1.1.1.1.0; a₆ = a.1.1.1.1.1.1.0 })
    t.0
    (fields_told e₀ e₁ e₂ e₃ e₄ e₅ e₆ (eight_fields e₀ e₁ e₂ e₃ e₄ e₅ e₆ e₇ w))
    (few_stages (e₀ ∷ e₁ ∷ e₂ ∷ e₃ ∷ e₄ ∷ e₅ ∷ e₆ ∷ e₇ ∷ []) v)
    e₇ a.1.1.1.1.1.1.1.0 (none_there e₁ t.1.0) t.1.1
again_by thinning.Integrators (e₀ ∷ e₁ ∷ e₂ ∷ e₃ ∷ e₄ ∷ e₅ ∷ e₆ ∷ e₇ ∷ es) a n s v w = absurd (omega (arith, n))
again_by thinning.Neighbours (e₀ ∷ e₁ ∷ e₂ ∷ e₃ ∷ e₄ ∷ e₅ ∷ e₆ ∷ e₇ ∷ e₈ ∷ es) a n s v w = absurd (omega (arith, n))
again_by k [] a n s v w = absurd (short k 0 n (omega arith))
again_by k (e₀ ∷ []) a n s v w = absurd (short k 1 n (omega arith))
again_by k (e₀ ∷ e₁ ∷ []) a n s v w = absurd (short k 2 n (omega arith))
again_by k (e₀ ∷ e₁ ∷ e₂ ∷ []) a n s v w = absurd (short k 3 n (omega arith))
again_by k (e₀ ∷ e₁ ∷ e₂ ∷ e₃ ∷ []) a n s v w = absurd (short k 4 n (omega arith))
again_by k (e₀ ∷ e₁ ∷ e₂ ∷ e₃ ∷ e₄ ∷ []) a n s v w = absurd (short k 5 n (omega arith))
again_by k (e₀ ∷ e₁ ∷ e₂ ∷ e₃ ∷ e₄ ∷ e₅ ∷ []) a n s v w = absurd (short k 6 n (omega arith))

-- of either count
any_again : (es : List (List ℕ)) → All (All Byte) es → shaped panel es ≡ true → L.valid (line_from es) ≡ true → written es ≡ true → line_entries (line_from es) ≡ es
unfolding shaped
any_again es a s v w = go (eqb (length es) 7) refl (eqb (length es) 8) refl
  where
    go : (b : Bool) → eqb (length es) 7 ≡ b → (c : Bool) → eqb (length es) 8 ≡ c → line_entries (line_from es) ≡ es
    go true p c t = again_by thinning.Integrators es a (eqb-true (length es) 7 p) (same_says _ _ (rw p at s)) v w
    go false p true t = again_by thinning.Neighbours es a (eqb-true (length es) 8 t) (same_says _ _ (rw (p, t) at s)) v w
    go false p false t = (let z : false ≡ true = rw (p, t) at s in absurd (true≢false (sym z)))

-- ---- the sheet

all_listed : (P : List ℕ → Type 0) (n : ℕ) (g : ℕ → List ℕ) → ((k : ℕ) → P (g k)) → All P (listed n g)
all_listed P zero g h = tt
all_listed P (suc n) g h = all_append P (listed n g) (g n ∷ []) (all_listed P n g h) (h n, tt)

entries_bytes : (b : List ℕ) → All Byte b → All (All Byte) (entries_of present b)
unfolding entries_of part_at
entries_bytes b a = all_listed (All Byte) (count_of present b) (part_at b) (λ k. all_take Byte (size b k) (drop (offset b k) b) (all_drop Byte (offset b k) b a))

-- a sheet that is not refused is shaped and fine
pub record Fine (b : List ℕ) : Type 0 where
  pub in_shape : shaped panel (entries_of present b) ≡ true
  pub valid : L.valid (line_from (entries_of present b)) ≡ true
  pub fields : written (entries_of present b) ≡ true

fine_says : (b : List ℕ) → taken_up_number panel b ≡ 0 → Fine b
unfolding taken_up_number take_up_number fine
fine_says b e = go (sheet_number present b) (shaped panel (entries_of present b)) refl (leb (settings_of (get_or (entries_of present b) 0 [])).taps panel.most_taps) (L.valid (line_from (entries_of present b))) refl (written (entries_of present b)) refl e
  where
    go : (n : ℕ) (s : Bool) → shaped panel (entries_of present b) ≡ s → (t v : Bool) → L.valid (line_from (entries_of present b)) ≡ v → (w : Bool) → written (entries_of present b) ≡ w
        → ◌≡◌ {A = ℕ} (cond (eqb n 0) (cond s (cond (t && (v && w)) 0 15) 21) n) 0 → Fine b
    go (suc n) s q t v r w u e = absurd (omega (arith, ap (λ (x : Bool). cond x (cond s (cond (t && (v && w)) 0 15) 21) (suc n)) (sym (eqb-suc-zero n)) ∙ e))
    go zero true q true true r true u e = record { in_shape = q; valid = r; fields = u }
    go zero true q true true r false u e = absurd (omega (arith, e))
    go zero true q true false r w u e = absurd (omega (arith, e))
    go zero true q false v r w u e = absurd (omega (arith, e))
    go zero false q t v r w u e = absurd (omega (arith, e))

pub as_parked : (b : List ℕ) (r : Opened Line) → r ≡ taken_up panel b → AsParked b r
unfolding taken_up
as_parked b r e =
    record {
      valid = λ z. ap L.valid (line z) ∙ (fine_says b (number z)).valid;
      entries = λ a z.
          let f = fine_says b (number z) in
          ap line_entries (line z) ∙ any_again (entries_of present b) (entries_bytes b a) f.in_shape f.valid f.fields;
    }
  where
    number : r.number ≡ 0 → taken_up_number panel b ≡ 0
    number z = ap (λ (o : Opened Line). o.number) (sym e) ∙ z

    line : r.number ≡ 0 → r.state ≡ line_from (entries_of present b)
    line z = ap (λ (o : Opened Line). o.state) e ∙ ap (λ (n : ℕ). cond (eqb n 0) (line_from (entries_of present b)) L.zeros) (number z)
