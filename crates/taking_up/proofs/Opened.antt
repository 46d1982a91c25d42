-- Taking up over seven or eight entries is taking up their sheet; and entries that are fine are in 01's limits.
use mathlib.Core.Path.{◌≡◌, refl, sym, ap, ◌∙◌}
use mathlib.Core.Bool.{Bool, true, false, cond, ◌&&◌, and-true, true≢false}
use mathlib.Core.List.{List, [], ◌∷◌}
use Prim.Native.Nat.{ℕ, ◌+◌, ◌*◌, ◌≤◌, ◌<◌}
use native.Mathlib.Omega.{arith}
use native.Mathlib.Decide.{dec_lt}
use borrow.Author.Tests.{eq-eqb, ne_eqb, eqb-true, le-leb, leb-true}
use lib.Dec.{leb, eqb}
use lib.ListN.{length}
use Rattle.theory.specs.Lists.{listed}
use Rattle.theory.proofs.Listed.{length_listed}
use Rattle.refusal.specs.Outcome.{Opened}
use Rattle.q15.specs.FirDecimator.{most_taps}
use Rattle.q15.proofs.Filling.{listed_ext}
use Rattle.line.specs.Openings as L
use Rattle.line.specs.declared.gauge_line.Line.{Line}
use Rattle.std.proofs.lemmas.Bool.{and_parts}
use Rattle.line.proofs.Lawful.{to_parts}
use Rattle.sheet.specs.Sheet.{present, entry, le32, count_of, sheet_number, reader_number, part_at, kept_bytes, kept_count}
use Rattle.refusal.specs.Table.{number_of}
use Rattle.refusal.specs.declared.Refusal.{Refusal}
use Rattle.sheet.proofs.Answering.{entry_part, entry_handed, refused_number}
use Rattle.words.specs.Fields.{is_float}
use Rattle.parking.specs.Parked.{Settings, half_band_bytes, neighbour_count, panel, settings_of, sizes, thin_sizes, same, lengths_of, entries_of, shaped, take_up_number}
use Rattle.parking.specs.Entries.{cic_from, place_from, half_band_from, resampler_from, fir_written, resampler_written, written, fine, line_with, line_from}
use Rattle.parking.specs.Parking.{taken_up, taken_up_number}
use Rattle.parking.specs.inner.Told.{count_by}
use Rattle.parking.specs.inner.Limits.{InLimits}
use Rattle.nonrecursive.specs.declared.thinning.Thinning.{Thinning}
use Rattle.nonrecursive.specs.declared.thinning.Thinning.TheVariants as thinning
use Rattle.taking_up.specs.inner.ByKind.{Parts, Long, first_by, rest_by, long_by, line_by, opened_in_by, opened_by, parts_in}
use Rattle.taking_up.specs.inner.Taking.{in_limits, line_of_seven, line_of_eight, fields_written, floats_written, line_fine, fine_in, long_as, thin_long_as, refused_line, opened_in, opened_from, thin_opened_from}
use Rattle.parking.proofs.Whole.{thin_numbers}
use Rattle.parking.proofs.WholeLine.{half_depth, resampler_taps}

-- entry k of a sheet of seven, and of eight
abbrev pub entry_in : List ℕ → ℕ → List ℕ
entry_in b k = entry present b 7 k

abbrev pub thin_entry_in : List ℕ → ℕ → List ℕ
thin_entry_in b k = entry present b 8 k

-- ---- limits

pub limits_told : (q : Settings) → in_limits q ≡ true → InLimits q
unfolding in_limits
limits_told q h =
    let a = leb q.stages 8 in
    let r = leb q.r 4096 in
    let b = leb q.taps most_taps in
    let c = leb q.depth 5 in
    let d = leb q.phases 64 in
    let e = leb q.phase_taps 16 in
    let h₀ = (and_parts a (r && (b && (c && (d && e)))) h).1 in
    let h₁ = (and_parts r (b && (c && (d && e))) h₀).1 in
    let h₂ = (and_parts b (c && (d && e)) h₁).1 in
    let h₃ = (and_parts c (d && e) h₂).1 in
    record {
      stages = leb-true q.stages 8 (and_parts a (r && (b && (c && (d && e)))) h).0;
      r = leb-true q.r 4096 (and_parts r (b && (c && (d && e))) h₀).0;
      taps = leb-true q.taps most_taps (and_parts b (c && (d && e)) h₁).0;
      depth = leb-true q.depth 5 (and_parts c (d && e) h₂).0;
      phases = leb-true q.phases 64 (and_parts d e h₃).0;
      phase_taps = leb-true q.phase_taps 16 (and_parts d e h₃).1;
    }

pub told_limits : (q : Settings) → InLimits q → in_limits q ≡ true
unfolding in_limits
told_limits q m =
    rw (le-leb q.stages 8 m.stages, le-leb q.r 4096 m.r, le-leb q.taps most_taps m.taps, le-leb q.depth 5 m.depth, le-leb q.phases 64 m.phases, le-leb q.phase_taps 16 m.phase_taps)

-- an off resampler's cells are none
off_cells : (q : Settings) (e : List ℕ) → resampler_written q e ≡ true → q.phases ≡ 0 → q.phase_taps ≡ 0
unfolding resampler_written
off_cells q e h z = eqb-true q.phase_taps 0 (and_parts (eqb q.phase_taps 0) (eqb q.straight 0 && (eqb q.step 0 && eqb (le32 e 0) 0)) (rw (eq-eqb q.phases 0 z) at h)).0

-- a line that was read with these settings has their numbers
pub record With (q : Settings) (l : Line) : Type 0 where
  pub stages : l.cic.stages ≡ q.stages
  pub r : l.cic.r ≡ q.r
  pub depth : l.half_band.depth ≡ q.depth
  pub phases : l.resampler.phases ≡ q.phases
  pub phase_taps : l.resampler.taps ≡ q.phase_taps

module _ (l : Line) (q : Settings) (delay half_band cells resampler : List ℕ) (w : With q l) where
  fine_written : fine_in l q delay half_band cells resampler ≡ true → resampler_written q resampler ≡ true
  unfolding fine_in line_fine fields_written
  fine_written h =
      let a : Bool = leb q.taps most_taps in
      let v : Bool = L.valid l in
      let s : Bool = leb q.straight 1 in
      let i : Bool = is_float q.step in
      let f : Bool = fir_written q delay in
      let r : Bool = resampler_written q resampler in
      let x : Bool = floats_written q half_band cells resampler in
      let h₁ : v && (s && (i && (f && (r && x)))) ≡ true = (and_parts a (v && (s && (i && (f && (r && x))))) h).1 in
      let h₂ = (and_parts v (s && (i && (f && (r && x)))) h₁).1 in
      let h₃ = (and_parts s (i && (f && (r && x))) h₂).1 in
      let h₄ = (and_parts i (f && (r && x)) h₃).1 in
      (and_parts r x (and_parts f (r && x) h₄).1).0

  fine_valid : fine_in l q delay half_band cells resampler ≡ true → L.valid l ≡ true
  unfolding fine_in line_fine
  fine_valid h =
      let v : Bool = L.valid l in
      let x : Bool = fields_written q delay half_band cells resampler in
      (and_parts v x (and_parts (leb q.taps most_taps) (v && x) h).1).0

  fine_taps : fine_in l q delay half_band cells resampler ≡ true → q.taps ≤ most_taps
  unfolding fine_in
  fine_taps h = leb-true q.taps most_taps (and_parts (leb q.taps most_taps) (line_fine l q delay half_band cells resampler) h).0

  fine_limits : fine_in l q delay half_band cells resampler ≡ true → InLimits q
  fine_limits h =
      let g = to_parts l (fine_valid h) in
      let n = thin_numbers (L.thinner_of l) g.0 in
      let d = half_depth l.half_band g.1.1.1.1.0 in
      let r : (q.phases ≤ 64) × (q.phase_taps ≤ 16) = elim (dec_lt 0 q.phases) [
        | yes p ↦ (let t = resampler_taps l.resampler g.1.1.1.1.1 (let z : l.resampler.phases ≡ 0 → ⊥ = (let e = w.phases in omega arith) in z) in let e = w.phases in let f = w.phase_taps in (omega arith, omega arith))
        | no p ↦ (let z : q.phases ≡ 0 = omega arith in let c = off_cells q resampler (fine_written h) z in (omega arith, omega arith))
      ] in
      let e₁ = w.stages in let e₂ = w.r in let e₃ = w.depth in let m₁ = n.stages in let m₂ = n.r in
      record { stages = omega arith; r = omega arith; taps = fine_taps h; depth = omega arith; phases = r.0; phase_taps = r.1 }

  -- out of the limits, 15
  in_outside : in_limits q ≡ false → refused_line 15 ≡ opened_in l q delay half_band cells resampler
  unfolding opened_in
  in_outside n = rw (not (fine_in l q delay half_band cells resampler) refl)
    where
      not : (b : Bool) → fine_in l q delay half_band cells resampler ≡ b → b ≡ false
      not true e = absurd (true≢false (sym (told_limits q (fine_limits e)) ∙ n))
      not false e = refl

  -- in them, by the line and the fields
  fine_in_lem : InLimits q → fine_in l q delay half_band cells resampler ≡ line_fine l q delay half_band cells resampler
  unfolding fine_in
  fine_in_lem m = rw (le-leb q.taps most_taps m.taps)

  in_unfit : InLimits q → line_fine l q delay half_band cells resampler ≡ false → refused_line 15 ≡ opened_in l q delay half_band cells resampler
  unfolding opened_in
  in_unfit m e = rw (fine_in_lem m, e)

  in_fine : InLimits q → line_fine l q delay half_band cells resampler ≡ true → record { number = 0; state = l } ≡ opened_in l q delay half_band cells resampler
  unfolding opened_in
  in_fine m e = rw (fine_in_lem m, e)

-- ---- lengths

last_out : (a b c d e f g : Bool) → (a && g) && (b && (c && (d && (e && f)))) ≡ a && (b && (c && (d && (e && (f && (g && true))))))
last_out true b c d e f true = ap (λ (x : Bool). b && (c && (d && (e && x)))) (sym (and-true f))
last_out true b c d e f false = sym (none b c d e f)
  where
    none : (b c d e f : Bool) → b && (c && (d && (e && (f && false)))) ≡ false
    none true true true true true = refl
    none true true true true false = refl
    none true true true false f = refl
    none true true false e f = refl
    none true false d e f = refl
    none false c d e f = refl
last_out false b c d e f g = refl

-- what only one kind has, and then what both have
pub long_is : (k : Thinning) (q : Settings) (e : Parts) → first_by k q (length e.cic) (length e.last) && rest_by q e ≡ long_by k q e
unfolding long_as thin_long_as same sizes thin_sizes
long_is thinning.Integrators q e = ap (λ (x : Bool). eqb (length e.cic) (2 + 8 * q.stages) && (eqb (length e.taps) (2 * q.taps) && (eqb (length e.delay) (2 + 2 * q.taps) && (eqb (length e.half_band) (half_band_bytes q.depth) && (eqb (length e.cells) (4 * (q.phases * q.phase_taps)) && x))))) (sym (and-true (eqb (length e.resampler) (4 + 4 * q.phase_taps))))
long_is thinning.Neighbours q e = last_out (eqb (length e.cic) 0) (eqb (length e.taps) (2 * q.taps)) (eqb (length e.delay) (2 + 2 * q.taps)) (eqb (length e.half_band) (half_band_bytes q.depth)) (eqb (length e.cells) (4 * (q.phases * q.phase_taps))) (eqb (length e.resampler) (4 + 4 * q.phase_taps)) (eqb (length e.last) (2 + 4 * neighbour_count q.stages q.r))

first_cic : (k : Thinning) (q : Settings) (c l : ℕ) → first_by k q c l ≡ true → k ≡ thinning.Integrators → c ≡ 2 + 8 * q.stages
first_cic thinning.Integrators q c l h z = eqb-true c (2 + 8 * q.stages) h
first_cic thinning.Neighbours q c l h z = absurd (cc)

first_last : (k : Thinning) (q : Settings) (c l : ℕ) → first_by k q c l ≡ true → k ≡ thinning.Neighbours → l ≡ 2 + 4 * neighbour_count q.stages q.r
first_last thinning.Integrators q c l h z = absurd (cc)
first_last thinning.Neighbours q c l h z = eqb-true l (2 + 4 * neighbour_count q.stages q.r) (and_parts (eqb c 0) (eqb l (2 + 4 * neighbour_count q.stages q.r)) h).1

pub long_fits : (k : Thinning) (q : Settings) (e : Parts) → long_by k q e ≡ true → Long k q e
long_fits k q e h =
    let a : Bool = first_by k q (length e.cic) (length e.last) in
    let m₂ : Bool = eqb (length e.taps) (2 * q.taps) in
    let m₃ : Bool = eqb (length e.delay) (2 + 2 * q.taps) in
    let m₄ : Bool = eqb (length e.half_band) (half_band_bytes q.depth) in
    let m₅ : Bool = eqb (length e.cells) (4 * (q.phases * q.phase_taps)) in
    let m₆ : Bool = eqb (length e.resampler) (4 + 4 * q.phase_taps) in
    let g : a && (m₂ && (m₃ && (m₄ && (m₅ && m₆)))) ≡ true = long_is k q e ∙ h in
    let f = (and_parts a (m₂ && (m₃ && (m₄ && (m₅ && m₆)))) g).0 in
    let e₂ = (and_parts a (m₂ && (m₃ && (m₄ && (m₅ && m₆)))) g).1 in
    let e₃ = (and_parts m₂ (m₃ && (m₄ && (m₅ && m₆))) e₂).1 in
    let e₄ = (and_parts m₃ (m₄ && (m₅ && m₆)) e₃).1 in
    let e₅ = (and_parts m₄ (m₅ && m₆) e₄).1 in
    record {
      cic = first_cic k q (length e.cic) (length e.last) f;
      last = first_last k q (length e.cic) (length e.last) f;
      taps = eqb-true (length e.taps) (2 * q.taps) (and_parts m₂ (m₃ && (m₄ && (m₅ && m₆))) e₂).0;
      delay = eqb-true (length e.delay) (2 + 2 * q.taps) (and_parts m₃ (m₄ && (m₅ && m₆)) e₃).0;
      half_band = eqb-true (length e.half_band) (half_band_bytes q.depth) (and_parts m₄ (m₅ && m₆) e₄).0;
      cells = eqb-true (length e.cells) (4 * (q.phases * q.phase_taps)) (and_parts m₅ m₆ e₅).0;
      resampler = eqb-true (length e.resampler) (4 + 4 * q.phase_taps) (and_parts m₅ m₆ e₅).1;
    }

-- ---- of either kind

line_with_by : (k : Thinning) (q : Settings) (e : Parts) → With q (line_by k q e)
unfolding line_of_seven line_of_eight cic_from place_from half_band_from resampler_from
line_with_by thinning.Integrators q e = record { stages = refl; r = refl; depth = refl; phases = refl; phase_taps = refl }
line_with_by thinning.Neighbours q e = record { stages = refl; r = refl; depth = refl; phases = refl; phase_taps = refl }

module _ (k : Thinning) (q : Settings) (e : Parts) where
  pub outside_by : in_limits q ≡ false → refused_line 15 ≡ opened_in_by k q e
  outside_by n = in_outside (line_by k q e) q e.delay e.half_band e.cells e.resampler (line_with_by k q e) n

  pub unfit_by : InLimits q → line_fine (line_by k q e) q e.delay e.half_band e.cells e.resampler ≡ false → refused_line 15 ≡ opened_in_by k q e
  unfit_by m h = in_unfit (line_by k q e) q e.delay e.half_band e.cells e.resampler (line_with_by k q e) m h

  pub fine_by : InLimits q → line_fine (line_by k q e) q e.delay e.half_band e.cells e.resampler ≡ true → record { number = 0; state = line_by k q e } ≡ opened_in_by k q e
  fine_by m h = in_fine (line_by k q e) q e.delay e.half_band e.cells e.resampler (line_with_by k q e) m h

module _ (e : Parts) where
  pub short_by : (k : Thinning) → (length e.settings ≡ 24 → ⊥) → refused_line 21 ≡ opened_by k e
  unfolding opened_from thin_opened_from
  short_by thinning.Integrators h = rw (ne_eqb (length e.settings) 24 h)
  short_by thinning.Neighbours h = rw (ne_eqb (length e.settings) 24 h)

  pub other_by : (k : Thinning) → length e.settings ≡ 24 → long_by k (settings_of e.settings) e ≡ false → refused_line 21 ≡ opened_by k e
  unfolding opened_from thin_opened_from
  other_by thinning.Integrators h f = rw (eq-eqb (length e.settings) 24 h, f)
  other_by thinning.Neighbours h f = rw (eq-eqb (length e.settings) 24 h, f)

  pub long_opened : (k : Thinning) → length e.settings ≡ 24 → long_by k (settings_of e.settings) e ≡ true → opened_in_by k (settings_of e.settings) e ≡ opened_by k e
  unfolding opened_from thin_opened_from
  long_opened thinning.Integrators h f = rw (eq-eqb (length e.settings) 24 h, f)
  long_opened thinning.Neighbours h f = rw (eq-eqb (length e.settings) 24 h, f)

-- ---- the sheet

-- the settings entry, then the others, not of their lengths, 21; not fine, 15; and zeros beside them
by_tests : (a l f : Bool) (x z : Line) →
    cond {A = Opened Line} a (cond l (cond f (record { number = 0; state = x }) (record { number = 15; state = z })) (record { number = 21; state = z })) (record { number = 21; state = z })
    ≡ record { number = cond (a && l) (cond f 0 15) 21; state = cond (eqb (cond (a && l) (cond f 0 15) 21) 0) x z }
by_tests true true true x z = refl
by_tests true true false x z = refl
by_tests true false f x z = refl
by_tests false l f x z = refl

module _ (e₀ e₁ e₂ e₃ e₄ e₅ e₆ : List ℕ) where
  abbrev seven : List (List ℕ)
  seven = e₀ ∷ e₁ ∷ e₂ ∷ e₃ ∷ e₄ ∷ e₅ ∷ e₆ ∷ []

  seven_shaped : shaped panel seven ≡ eqb (length e₀) 24 && long_as (settings_of e₀) (length e₁) (length e₂) (length e₃) (length e₄) (length e₅) (length e₆)
  unfolding shaped lengths_of same sizes long_as
  seven_shaped = refl

  seven_line : line_from seven ≡ line_of_seven (settings_of e₀) e₁ e₂ e₃ e₄ e₅ e₆
  unfolding line_from line_with line_of_seven
  seven_line = refl

  seven_fine : fine panel.most_taps seven ≡ fine_in (line_of_seven (settings_of e₀) e₁ e₂ e₃ e₄ e₅ e₆) (settings_of e₀) e₃ e₄ e₅ e₆
  unfolding fine fine_in line_fine written fields_written floats_written line_from line_with line_of_seven
  seven_fine = refl

  seven_taken : (b : List ℕ) → sheet_number present b ≡ 0 → entries_of present b ≡ seven → opened_from e₀ e₁ e₂ e₃ e₄ e₅ e₆ ≡ taken_up panel b
  unfolding opened_from opened_in refused_line taken_up taken_up_number take_up_number
  seven_taken b z e =
      rw (z, e, seven_shaped, seven_line, seven_fine)
      (by_tests (eqb (length e₀) 24) (long_as (settings_of e₀) (length e₁) (length e₂) (length e₃) (length e₄) (length e₅) (length e₆)) (fine_in (line_of_seven (settings_of e₀) e₁ e₂ e₃ e₄ e₅ e₆) (settings_of e₀) e₃ e₄ e₅ e₆) (line_of_seven (settings_of e₀) e₁ e₂ e₃ e₄ e₅ e₆) L.zeros)

module _ (e₀ e₁ e₂ e₃ e₄ e₅ e₆ e₇ : List ℕ) where
  abbrev eight : List (List ℕ)
  eight = e₀ ∷ e₁ ∷ e₂ ∷ e₃ ∷ e₄ ∷ e₅ ∷ e₆ ∷ e₇ ∷ []

  eight_shaped : shaped panel eight ≡ eqb (length e₀) 24 && thin_long_as (settings_of e₀) (length e₁) (length e₂) (length e₃) (length e₄) (length e₅) (length e₆) (length e₇)
  unfolding shaped lengths_of same thin_sizes thin_long_as
  eight_shaped = refl

  eight_line : line_from eight ≡ line_of_eight (settings_of e₀) e₂ e₃ e₄ e₅ e₆ e₇
  unfolding line_from line_with line_of_eight
  eight_line = refl

  eight_fine : fine panel.most_taps eight ≡ fine_in (line_of_eight (settings_of e₀) e₂ e₃ e₄ e₅ e₆ e₇) (settings_of e₀) e₃ e₄ e₅ e₆
  unfolding fine fine_in line_fine written fields_written floats_written line_from line_with line_of_eight
  eight_fine = refl

  eight_taken : (b : List ℕ) → sheet_number present b ≡ 0 → entries_of present b ≡ eight → thin_opened_from e₀ e₁ e₂ e₃ e₄ e₅ e₆ e₇ ≡ taken_up panel b
  unfolding thin_opened_from opened_in refused_line taken_up taken_up_number take_up_number
  eight_taken b z e =
      rw (z, e, eight_shaped, eight_line, eight_fine)
      (by_tests (eqb (length e₀) 24) (thin_long_as (settings_of e₀) (length e₁) (length e₂) (length e₃) (length e₄) (length e₅) (length e₆) (length e₇)) (fine_in (line_of_eight (settings_of e₀) e₂ e₃ e₄ e₅ e₆ e₇) (settings_of e₀) e₃ e₄ e₅ e₆) (line_of_eight (settings_of e₀) e₂ e₃ e₄ e₅ e₆ e₇) L.zeros)

module _ (b : List ℕ) where
  -- a sheet's entries are those that a reader of its count is handed
  part_of : (n : ℕ) → sheet_number present b ≡ 0 → count_of present b ≡ n → (k : ℕ) → k < n → part_at b k ≡ entry present b n k
  unfolding sheet_number part_at
  part_of n z e k h =
      let r : reader_number present b n ≡ 0 = ap (reader_number present b) (sym e) ∙ z in
      sym (entry_part present b n k (sym (entry_handed present b n k r h)))

  entries_are : (n : ℕ) → sheet_number present b ≡ 0 → count_of present b ≡ n → entries_of present b ≡ listed n (entry present b n)
  unfolding entries_of
  entries_are n z e = ap (λ (k : ℕ). listed k (part_at b)) e ∙ listed_ext n (part_at b) (entry present b n) (part_of n z e)

  pub taken_eight : sheet_number present b ≡ 0 → count_of present b ≡ 8 → thin_opened_from (thin_entry_in b 0) (thin_entry_in b 1) (thin_entry_in b 2) (thin_entry_in b 3) (thin_entry_in b 4) (thin_entry_in b 5) (thin_entry_in b 6) (thin_entry_in b 7) ≡ taken_up panel b
  taken_eight z n = eight_taken (thin_entry_in b 0) (thin_entry_in b 1) (thin_entry_in b 2) (thin_entry_in b 3) (thin_entry_in b 4) (thin_entry_in b 5) (thin_entry_in b 6) (thin_entry_in b 7) b z (entries_are 8 z n)

  pub taken_seven : sheet_number present b ≡ 0 → count_of present b ≡ 7 → opened_from (entry_in b 0) (entry_in b 1) (entry_in b 2) (entry_in b 3) (entry_in b 4) (entry_in b 5) (entry_in b 6) ≡ taken_up panel b
  taken_seven z n = seven_taken (entry_in b 0) (entry_in b 1) (entry_in b 2) (entry_in b 3) (entry_in b 4) (entry_in b 5) (entry_in b 6) b z (entries_are 7 z n)

  -- what a reader keeps of a sheet that is not refused
  pub all_kept : 0 ≡ sheet_number present b → (kept_bytes present b ≡ b) × (kept_count present b ≡ count_of present b)
  unfolding kept_bytes kept_count
  all_kept z = (rw (← z), rw (← z))

  -- as the code has them: the sheet's own count says which
  pub taken_by : (k : Thinning) (bytes : List ℕ) (n : ℕ) → 0 ≡ sheet_number present b → bytes ≡ kept_bytes present b → n ≡ kept_count present b → n ≡ count_by k → opened_by k (parts_in k bytes n) ≡ taken_up panel b
  taken_by thinning.Integrators bytes n z e f h = let a = all_kept z in rw (e, a.0, h) (taken_seven (sym z) (sym a.1 ∙ sym f ∙ h))
  taken_by thinning.Neighbours bytes n z e f h = let a = all_kept z in rw (e, a.0, h) (taken_eight (sym z) (sym a.1 ∙ sym f ∙ h))

  taken_other : sheet_number present b ≡ 0 → (count_of present b ≡ 7 → ⊥) → (count_of present b ≡ 8 → ⊥) → refused_line 21 ≡ taken_up panel b
  unfolding refused_line taken_up taken_up_number take_up_number shaped entries_of
  taken_other z n m =
      let l : length (listed (count_of present b) (part_at b)) ≡ count_of present b = length_listed (count_of present b) (part_at b) in
      let f : eqb (length (listed (count_of present b) (part_at b))) 7 ≡ false = ne_eqb _ 7 (λ e. n (sym l ∙ e)) in
      let g : eqb (length (listed (count_of present b) (part_at b))) 8 ≡ false = ne_eqb _ 8 (λ e. m (sym l ∙ e)) in
      rw (z, f, g)

  pub taken_by_none : (n : ℕ) → 0 ≡ sheet_number present b → n ≡ kept_count present b → (n ≡ 7 → ⊥) → (n ≡ 8 → ⊥) → refused_line 21 ≡ taken_up panel b
  taken_by_none n z f g h = let a = all_kept z in taken_other (sym z) (λ e. g (f ∙ a.1 ∙ e)) (λ e. h (f ∙ a.1 ∙ e))

  taken_refused : (n : ℕ) → n ≡ sheet_number present b → eqb (sheet_number present b) 0 ≡ false → refused_line n ≡ taken_up panel b
  unfolding refused_line taken_up taken_up_number take_up_number
  taken_refused n e z = rw (e, z, z)

  pub taken_err : (q : Refusal) → number_of q ≡ sheet_number present b → refused_line (number_of q) ≡ taken_up panel b
  taken_err q e = taken_refused (number_of q) e (rw e at (refused_number q))
