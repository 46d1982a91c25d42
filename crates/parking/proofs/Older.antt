-- What an older panel makes of a sheet, and of an older sheet: no byte depends on the limit, so lengths agree at every number of taps, and only the limit's own test is
-- left, which takes more at 128 than at 64. The mark is one bit of the count, over which an older panel refuses, and without it the former rule is in force.
use mathlib.Core.Path.{◌≡◌, refl, sym, ap, ◌∙◌, subst}
use mathlib.Core.Bool.{Bool, true, false, cond, ◌&&◌, true≢false}
use mathlib.Core.List.{List}
use Prim.Native.Nat.{ℕ, ◌≤◌, ◌<◌}
use native.Mathlib.Omega.{arith}
use native.Mathlib.Decide.{dec_lt}
use borrow.Author.Tests.{ne_eqb, le-leb, lt-leb, leb-true}
use lib.Dec.{leb, eqb}
use lib.IntN.{ℤ}
use lib.ListN.{length, take}
use lib.Seq.{take-take}
use Rattle.refusal.specs.Outcome.{Answer, Opened}
use Rattle.integer.specs.declared.cic_decimator.CicDecimator.{CicDecimator}
use Rattle.nonrecursive.specs.declared.thinning.Thinning.{Thinning}
use Rattle.nonrecursive.specs.declared.thinning.Thinning.TheVariants as thinning
use Rattle.q15.specs.FirDecimator.{fir_state, fir_zeros}
use Rattle.q15.specs.declared.fir_decimator.FirDecimator.{FirDecimator}
use Rattle.half_band.specs.declared.hbf_stream.HbfStream.{HbfStream}
use Rattle.float.specs.declared.polyphase_resamp.PolyphaseResampF32.{PolyphaseResampF32}
use Rattle.line.specs.Openings.{valid}
use Rattle.line.specs.Openings as L
use Rattle.line.specs.declared.gauge_line.Line.{Line}
use Rattle.std.proofs.lemmas.Bool.{and_parts, and_from}
use Rattle.line.proofs.Lawful.{to_parts}
use Rattle.sheet.specs.Sheet.{Rule, former, present, le16, mark, marked, sum}
use Rattle.sheet.proofs.Rules.{count_same}
use Rattle.words.specs.Fields.{IsFloat, joined, i16_bytes}
use Rattle.parking.specs.Parked.{Panel, at6, at7, at9, panel, Settings, settings_of, sizes, thin_sizes, flat, lengths_of, parked, entries_of as entries_in, shaped}
use Rattle.parking.specs.Entries.{fir_on, resampler_on, settings_in, tap_bytes, delay_bytes, entries_of, thin_entries, entries_by, line_entries, entry_of, line_from, written, fine}
use Rattle.parking.specs.Parking.{parked_line, park_number, park_answer, park_span, taken_up, taken_up_number}
use Rattle.parking.specs.Between.{sheet_in}
use Rattle.parking.specs.inner.Told.{Lengths, on}
use Rattle.parking.specs.Lengths.{ArrayLengths}
use Rattle.parking.specs.Older.{held_by, ForOlder, formerly, StillTaken}
use Rattle.parking.proofs.Panels.{Fits, settings_back, Small, sum_of_lengths, seven_shaped, eight_misshapen, past_limit, misshapen, still_taken, wider_taken, parked_marked, older_refuses, marked_parked, unmarked_same}
use Rattle.words.specs.inner.Reading.{bits_below}
use Rattle.parking.proofs.WholeSheet.{lengths_of_lem, thin_lengths_of}
use Rattle.parking.proofs.ParkedLine.{limits_of, sizes_most, thin_most}
use Rattle.parking.proofs.Taken.{on_numbers, straight_most, sheet_in_lem}

-- ---- "A line of up to 64 taps is parked to the same bytes as before"

module _ (most : ℕ) (s : FirDecimator) (few : s.tap_count ≤ most) where
  abbrev cut_short : FirDecimator
  cut_short = fir_state (take most s.taps) s.tap_count s.factor (take most s.delay) s.wait

  taps_same : tap_bytes cut_short ≡ tap_bytes s
  unfolding tap_bytes
  taps_same = ap (joined i16_bytes) (take-take s.tap_count most s.taps few)

  delay_same : delay_bytes cut_short ≡ delay_bytes s
  unfolding delay_bytes
  delay_same = rw (take-take s.tap_count most s.delay few)

  on_same : (k : Thinning) (d : CicDecimator) (n : List ℤ) (h : HbfStream) (p : PolyphaseResampF32) (cuts : ℕ) → entries_by k d n cut_short h p cuts ≡ entries_by k d n s h p cuts
  unfolding entries_by entries_of thin_entries settings_in
  on_same thinning.Integrators d n h p cuts = rw (taps_same, delay_same)
  on_same thinning.Neighbours d n h p cuts = rw (taps_same, delay_same)

  fir_same : (k : Thinning) (d : CicDecimator) (n : List ℤ) (h : HbfStream) (p : PolyphaseResampF32) (cuts : ℕ) → entries_by k d n (fir_on cut_short) h p cuts ≡ entries_by k d n (fir_on s) h p cuts
  unfolding fir_on
  fir_same k d n h p cuts = go (eqb s.tap_count 0)
    where
      go : (b : Bool) → entries_by k d n (cond b fir_zeros cut_short) h p cuts ≡ entries_by k d n (cond b fir_zeros s) h p cuts
      go true = refl
      go false = on_same k d n h p cuts

pub held_same : (most : ℕ) (l : Line) → l.fir.tap_count ≤ most → line_entries (held_by most l) ≡ line_entries l
unfolding line_entries held_by
held_same most l few = fir_same most l.fir few l.thinning l.cic l.neighbours l.half_band (resampler_on l.resampler) l.cuts

-- ---- "an older panel given a longer one answers 15, never a shortened filter"

-- the taps of a FIR that is on
on_taps : (s : FirDecimator) → 0 < s.tap_count → (fir_on s).tap_count ≡ s.tap_count
unfolding fir_on
on_taps s h = go (eqb s.tap_count 0) refl
  where
    go : (b : Bool) → eqb s.tap_count 0 ≡ b → (cond b fir_zeros s).tap_count ≡ s.tap_count
    go true e = absurd (true≢false (sym e ∙ ne_eqb s.tap_count 0 (omega arith)))
    go false e = refl

module _ (l : Line) (v : valid l ≡ true)
    (a : ArrayLengths l.cic (fir_on l.fir) l.half_band (resampler_on l.resampler)) (ln : length l.neighbours ≡ 96)
    (step : IsFloat (resampler_on l.resampler).step) (word : l.cuts < 4294967296) where
  abbrev q : Settings
  q = settings_in l.cic (fir_on l.fir) l.half_band.depth (resampler_on l.resampler) l.cuts

  abbrev es : List (List ℕ)
  es = entries_of l.cic (fir_on l.fir) l.half_band (resampler_on l.resampler) l.cuts

  abbrev es₈ : List (List ℕ)
  es₈ = thin_entries l.cic l.neighbours (fir_on l.fir) l.half_band (resampler_on l.resampler) l.cuts

  fits : Fits q
  fits =
      let m = limits_of l v in
      let f = (on_numbers l.fir (to_parts l v).1.1.0).factor in
      let k = straight_most (resampler_on l.resampler).straight in
      unfold settings_in in
      record {
        stages = omega (arith, m.stages);
        r = omega (arith, m.r);
        taps = omega (arith, m.taps);
        factor = omega arith;
        depth = omega (arith, m.depth);
        phases = omega (arith, m.phases);
        phase_taps = omega (arith, m.phase_taps);
        straight = omega arith;
        step = bits_below (resampler_on l.resampler).step step;
        cuts = word;
      }

  lengths_are : lengths_of es ≡ sizes q
  lengths_are = lengths_of_lem l.cic (fir_on l.fir) l.half_band (resampler_on l.resampler) l.cuts a (limits_of l v)

  lengths_are₈ : lengths_of es₈ ≡ thin_sizes q
  lengths_are₈ = thin_lengths_of l.cic l.neighbours (fir_on l.fir) l.half_band (resampler_on l.resampler) l.cuts a ln (limits_of l v)

  small_of : (e : List (List ℕ)) → 0 < length e → length e ≤ 8 → length (flat e) ≤ 6000 → Small e
  small_of e x y h = record { some = x; few = omega arith; most = omega arith }

  small : Small es
  small =
      let e : length (flat es) ≡ sum (sizes q) = sym (sum_of_lengths es) ∙ ap sum lengths_are in
      let m = sizes_most q (limits_of l v) in
      small_of es (unfold entries_of in omega arith) (unfold entries_of in omega arith) (omega arith)

  small₈ : Small es₈
  small₈ =
      let e : length (flat es₈) ≡ sum (thin_sizes q) = sym (sum_of_lengths es₈) ∙ ap sum lengths_are₈ in
      let m = thin_most q (limits_of l v) in
      small_of es₈ (unfold thin_entries in omega arith) (unfold thin_entries in omega arith) (omega arith)

  seven_are : l.thinning ≡ thinning.Integrators → line_entries l ≡ es
  unfolding line_entries entries_by
  seven_are e = rw e

  eight_are : l.thinning ≡ thinning.Neighbours → line_entries l ≡ es₈
  unfolding line_entries entries_by
  eight_are e = rw e

  small_any : Small (line_entries l)
  small_any = go l.thinning refl
    where
      go : (k : Thinning) → l.thinning ≡ k → Small (line_entries l)
      go thinning.Integrators e = subst Small (sym (seven_are e)) small
      go thinning.Neighbours e = subst Small (sym (eight_are e)) small₈

  long_shaped : shaped at6 es ≡ true
  long_shaped = seven_shaped at6 q fits es (unfold entries_of in refl) (unfold entries_of in refl) lengths_are

  settings_are : settings_of (entry_of es 0) ≡ q
  unfolding entries_of
  settings_are = settings_back q fits

  past_fine : at6.most_taps < l.fir.tap_count → fine at6.most_taps es ≡ false
  unfolding fine
  past_fine h =
      let t : (settings_of (entry_of es 0)).taps ≡ l.fir.tap_count = ap (λ (k : Settings). k.taps) settings_are ∙ (unfold settings_in in on_taps l.fir (omega arith)) in
      rw (t, lt-leb l.fir.tap_count at6.most_taps h)

  longer_refused : l.thinning ≡ thinning.Integrators → at6.most_taps < l.fir.tap_count → taken_up at6 (parked_line at7 l) ≡ record { number = 15; state = L.zeros }
  unfolding taken_up taken_up_number parked_line
  longer_refused e h = rw (seven_are e, past_limit fine at6 es small long_shaped (past_fine h))

  -- ---- the mark

  mark_only : parked_line panel l ≡ marked (parked_line at7 l)
  unfolding parked_line
  mark_only = parked_marked (line_entries l) small_any

  mark_unread : (v : Panel) → v.rule ≡ former → taken_up v (parked_line panel l) ≡ record { number = 16; state = L.zeros }
  unfolding taken_up taken_up_number parked_line
  mark_unread v e = rw (older_refuses fine v e (line_entries l) small_any)

  same_before : l.fir.tap_count ≤ at6.most_taps → marked (parked_line at7 l) ≡ marked (parked_line at6 (held_by at6.most_taps l))
  unfolding parked_line
  same_before h = sym (ap (λ (e : List (List ℕ)). marked (parked former e)) (held_same at6.most_taps l h))

  -- ---- eight entries

  eight_unread : l.thinning ≡ thinning.Neighbours → taken_up at9 (parked_line panel l) ≡ record { number = 21; state = L.zeros }
  unfolding taken_up taken_up_number parked_line
  eight_unread e = rw (eight_are e, misshapen fine at9 es₈ small₈ (eight_misshapen at9 refl es₈ (unfold thin_entries in refl)))

  for_older : ForOlder l (parked_line panel l)
  for_older =
      record {
        but_for_the_mark = mark_only;
        same_bytes = λ h. mark_only ∙ same_before h;
        unread = mark_unread;
        longer = longer_refused;
        as_before = λ e. unfold parked_line in refl;
        eight = eight_unread;
      }

number_told : (l : Line) (places : ℕ) (r : Answer ℕ) → r ≡ park_answer panel l places → r.number ≡ 0 → park_number panel l places ≡ 0
unfolding park_answer
number_told l places r e z = ap (λ (x : Answer ℕ). x.number) (sym e) ∙ z

-- what is left in front of a span
pub older_parked : (l : Line) → valid l ≡ true → Lengths (on l) → (r : Answer ℕ) (s span : List ℕ) → r ≡ park_answer panel l (length span) → s ≡ park_span panel l span → r.number ≡ 0 → ForOlder l (take r.value s)
older_parked l v t r s span e₃ e₄ z =
    let n : park_number panel l (length span) ≡ 0 = number_told l (length span) r e₃ z in
    let e : take r.value s ≡ sheet_in panel l span = rw (e₃, e₄) in
    subst (ForOlder l) (sym (e ∙ sheet_in_lem panel l span n)) (for_older l v t.arrays t.neighbours t.step t.cuts)

-- ---- "Sheets parked earlier are still taken up"

fine_wider : (most more : ℕ) → most ≤ more → (es : List (List ℕ)) → fine most es ≡ true → fine more es ≡ true
unfolding fine
fine_wider most more h es e =
    let t = (settings_of (entry_of es 0)).taps in
    let w = valid (line_from es) && written es in
    let b = leb-true t most (and_parts (leb t most) w e).0 in
    and_from (leb t more) w (le-leb t more (omega arith)) (and_parts (leb t most) w e).1

-- a sheet without the mark is taken up as under the former rule
under_former : (b : List ℕ) → le16 b 0 < mark → taken_up panel b ≡ taken_up (formerly panel) b
unfolding taken_up taken_up_number entries_in
under_former b h = rw (unmarked_same fine b h, count_same b h)

-- a marked sheet is answered with 16 where the mark is not known
unmarked_by : (v : Panel) → v.rule ≡ former → (b : List ℕ) → taken_up_number v b ≡ 0 → le16 b 0 < mark
unmarked_by v e b z = elim (dec_lt (le16 b 0) mark) [
  | yes h ↦ h
  | no h ↦ (let m : taken_up_number v b ≡ 16 = unfold taken_up_number in marked_parked fine v e b (omega arith) in absurd (omega arith))
]

-- one that a panel without neighbours takes up is taken up as the same line by one with them
wider : (rule : Rule) (b : List ℕ) → taken_up_number (record { most_taps = 128; rule = rule; thinning = false }) b ≡ 0
    → taken_up (record { most_taps = 128; rule = rule; thinning = true }) b ≡ taken_up (record { most_taps = 128; rule = rule; thinning = false }) b
unfolding taken_up taken_up_number
wider rule b z = rw (z, wider_taken fine 128 rule b z)

pub still_taken_up : (b : List ℕ) (r : Opened Line) → r ≡ taken_up panel b → StillTaken b r
still_taken_up b r e = record { still = λ z. seven (number z) ∙ same z; unmarked = λ h. e ∙ under_former b h; still_seven = seven; still_nine = λ z. e ∙ wider present b z }
  where
    seven : taken_up_number at7 b ≡ 0 → r ≡ taken_up at7 b
    seven z = e ∙ under_former b (unmarked_by at7 refl b z) ∙ wider former b z

    number : taken_up_number at6 b ≡ 0 → taken_up_number at7 b ≡ 0
    number z = unfold taken_up_number in still_taken fine (fine_wider 64 128 (omega arith)) b z

    same : taken_up_number at6 b ≡ 0 → taken_up at7 b ≡ taken_up at6 b
    same z = unfold taken_up in rw (z, number z)
