-- An opening that is not refused is good for every stream: its state is valid and makes section 3 of any list; a refused one is all zeros.
use mathlib.Core.Path.{◌≡◌, refl, ap, ◌∙◌}
use mathlib.Core.Bool.{Bool, true, false, cond}
use mathlib.Core.List.{List}
use Prim.Native.Nat.{ℕ, zero, suc, ◌≤◌}
use native.Mathlib.Decide.{dec_le}
use native.Mathlib.Omega.{arith}
use borrow.Author.Tests.{eq-eqb, ne_eqb}
use lib.IntN.{ℤ}
use lib.ListN.{length, take}
use lib.Seq.{length-take-le}
use Rattle.refusal.specs.Outcome.{Opened}
use Rattle.q15.specs.FirDecimator.{most_taps, fir_zeros, settings_number, settings_number_in_line, fir_valid, fir_valid_in_line, valid, valid_in_line, fresh, fresh_in_line, opened_by, fir_opened, fir_reset, Streams}
use Rattle.q15.specs.inner.FirBlock.{settings_of}
use Rattle.q15.specs.declared.fir_decimator.FirDecimator.{FirDecimator}
use Rattle.q15.specs.declared.fir_settings.FirSettings.{FirSettings}
use Rattle.q15.proofs.Rounding.{rounded}
use Rattle.q15.proofs.FirSteps.{settings_in_lem, valid_on, line_settings, on_valid, valid_in_line_lem, outs_steps, never_refused}
use Rattle.q15.proofs.FirStream.{fresh_streamed, fresh_flagged}

module _ (c : List ℤ) (D : ℕ) where
  pub fresh_valid : settings_number (length c) D ≡ 0 → valid (fresh c D) ≡ true
  unfolding fresh
  fresh_valid e = on_valid (length c) D (length c) e (settings_in_lem (length c) D e).some (omega arith)

  -- in the line, where one that is off is not checked
  pub line_fresh_valid : settings_number_in_line (length c) D ≡ 0 → valid_in_line (fresh_in_line c D) ≡ true
  unfolding fresh_in_line fir_valid_in_line
  line_fresh_valid e = go (dec_le 1 (length c))
    where
      go : Dec (1 ≤ length c) → valid_in_line (fresh_in_line c D) ≡ true
      go (yes h) =
          let n : length c ≡ 0 → ⊥ = omega arith in
          rw (ne_eqb (length c) 0 n) (valid_in_line_lem _ _ _ (fresh_valid (line_settings (length c) D n e)))
      go (no h) = let z : length c ≡ 0 = omega arith in rw (eq-eqb (length c) 0 z) refl

  zeros_by : (n : ℕ) → (n ≡ 0 → ⊥) → opened_by n c D ≡ fir_zeros
  zeros_by zero h = absurd (h refl)
  zeros_by (suc n) h = refl

  -- an opening with settings that the line takes gives the line's part, since both are zeros where there are no taps
  pub line_opened : settings_number_in_line (length c) D ≡ 0 → (fir_opened c D).state ≡ fresh_in_line c D
  unfolding fresh_in_line
  line_opened e = go (dec_le 1 (length c))
    where
      go : Dec (1 ≤ length c) → (fir_opened c D).state ≡ fresh_in_line c D
      go (yes h) =
          let n : length c ≡ 0 → ⊥ = omega arith in
          rw (ne_eqb (length c) 0 n) (ap (λ (k : ℕ). opened_by k c D) (line_settings (length c) D n e))
      go (no h) = let z : length c ≡ 0 = omega arith in rw (eq-eqb (length c) 0 z) (zeros_by (settings_number (length c) D) (λ q. let i = (settings_in_lem (length c) D q).some in absurd (omega arith)))

  pub fresh_streams : settings_number (length c) D ≡ 0 → Streams c D (fresh c D)
  fresh_streams e =
      let v = fresh_valid e in
      record {
        outputs = λ w. outs_steps (fresh c D) w v ∙ fresh_streamed c D e w;
        cuts = fresh_flagged c D e v;
        rounding = rounded c D;
        never_refused = never_refused (fresh c D) v;
      }

  pub few_taps : settings_number (length c) D ≡ 0 → length c ≤ most_taps
  few_taps e = (settings_in_lem (length c) D e).few

-- row 15 that does not apply
row_passed : (b : Bool) → ◌≡◌ {A = ℕ} 0 (cond b 0 15) → b ≡ true
row_passed true e = refl
row_passed false e = absurd (omega (arith, e))

pub valid_taps : (T D w : ℕ) → ◌≡◌ {A = ℕ} 0 (cond (fir_valid T D w) 0 15) → T ≤ most_taps
valid_taps T D w e = (valid_on T D w (row_passed (fir_valid T D w) e)).within.few

-- a reset of a valid state is an opening that is not refused
pub reset_is :
    (s : FirDecimator) (o : FirSettings) → o ≡ settings_of s → ◌≡◌ {A = ℕ} 0 (cond (fir_valid o.tap_count o.factor s.wait) 0 15) → length s.taps ≡ most_taps
    → ◌≡◌ {A = Opened FirDecimator} (record { number = 0; state = fresh (take o.tap_count s.taps) o.factor }) (fir_reset s)
reset_is s o is e l =
    let f : ◌≡◌ {A = ℕ} 0 (cond (valid s) 0 15) = e ∙ ap (λ (p : FirSettings). cond (fir_valid p.tap_count p.factor s.wait) 0 15) is in
    let v = row_passed (valid s) f in
    let n : length (take s.tap_count s.taps) ≡ s.tap_count = length-take-le s.tap_count s.taps (omega (arith, l, valid_taps s.tap_count s.factor s.wait f)) in
    let z : settings_number (length (take s.tap_count s.taps)) s.factor ≡ 0 = ap (λ (k : ℕ). settings_number k s.factor) n ∙ (valid_on _ _ _ v).settings in
    ap (λ (p : FirSettings). record { number = 0; state = fresh (take p.tap_count s.taps) p.factor }) is ∙ rw v (rw z)
