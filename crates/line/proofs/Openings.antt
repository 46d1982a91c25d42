-- An opening that is not refused: its settings are in their limits, its line is valid, and what the line makes of any list are the outputs that 01 defines for it.
use mathlib.Core.Path.{◌≡◌, refl, sym, ap, ◌∙◌, subst, subst⁻¹}
use mathlib.Core.Bool.{Bool, true, false, cond}
use mathlib.Core.List.{List, map}
use Prim.Native.Nat.{ℕ, zero, suc, ◌*◌, ◌≤◌}
use native.Mathlib.Omega.{arith}
use borrow.Author.Tests.{ltb-false, ne_eqb, eqb-true}
use lib.Dec.{ltb, eqb}
use lib.IntN.{ℤ}
use lib.Ieee.{Float}
use lib.ListN.{length}
use mir.Syntax.{w16}
use Rattle.theory.specs.Sections.{each, outs}
use Rattle.theory.proofs.Sections.{outs_each}
use Rattle.theory.proofs.Machines.{all}
use Rattle.integer.specs.Limits.{stages_ok, factor_ok}
use Rattle.nonrecursive.specs.EitherKind.{either}
use Rattle.nonrecursive.specs.EitherKind as E
use Rattle.nonrecursive.proofs.EitherKind.{either_made, either_opens}
use Rattle.nonrecursive.proofs.EitherKind as EP
use Rattle.q15.specs.Fixed.{cut}
use Rattle.q15.specs.FirDecimator.{fir, fir_whole, settings_number_in_line}
use Rattle.q15.specs.FirDecimator as Q
use Rattle.q15.proofs.FirStream.{line_streamed}
use Rattle.q15.proofs.FirOpenings as FirOpening
use Rattle.half_band.specs.HalfBand.{decimated_by}
use Rattle.half_band.specs.HbfTaps.{stage_taps, decimation}
use Rattle.half_band.specs.HbfStream.{hbf_stream, stream_fresh}
use Rattle.float.specs.PolyphaseOpening.{in_limits, step_in_line, valid_in_line}
use Rattle.float.specs.PolyphaseResamp.{in_line}
use Rattle.float.specs.PolyphaseOpening as R
use Rattle.float.specs.declared.polyphase_resamp.PolyphaseResampF32.{PolyphaseResampF32}
use Rattle.half_band.proofs.HeldOnes.{line_fresh_not_refused, fresh_whole}
use Rattle.float.proofs.PolyphaseRange.{line_fresh, line_off}
use Rattle.float.proofs.PolyphaseWhole.{becomes_all, becomes_one, off_hands_on}
use Rattle.float.specs.Level.{level}
use Rattle.refusal.proofs.Limits.{first_none}
use Rattle.line.specs.Outputs.{Opening, levels, Resampled, Outputs}
use Rattle.line.specs.Openings.{half_band_fine, valid, depth_number, resampler_number, number_at, opening_number_of, resampler_fresh, fresh}
use Rattle.line.specs.Line.{line}
use Rattle.std.proofs.lemmas.Bool.{and_from, not_from_false}
use Rattle.line.proofs.Lawful.{line_all}

-- where no refusal applies, a test that would refuse holds
passed : (b : Bool) (x q : ℕ) → cond b x (suc q) ≡ 0 → (b ≡ true) × (x ≡ 0)
passed true x q e = (refl, e)
passed false x q e = absurd (omega arith)

-- the resampler's settings, where it is on
pub record On (o : Opening) : Type 0 where
  pub limits : in_limits o.settings.phases o.settings.phase_taps ≡ true
  pub long : length o.prototype ≡ o.settings.phases * o.settings.phase_taps
  pub step : step_in_line o.settings.step ≡ true

pub record Accepted (o : Opening) : Type 0 where
  pub stages : stages_ok o.settings.stages ≡ true
  pub factor : factor_ok o.settings.r ≡ true
  pub thinned : E.settings_number o.settings.thinning o.settings.stages o.settings.r ≡ 0
  pub filter : settings_number_in_line (length o.taps) o.settings.factor ≡ 0
  pub depth : o.settings.depth ≤ 5
  pub resampler : (o.settings.phases ≡ 0 → ⊥) → On o

pub accepted : (o : Opening) → opening_number_of o ≡ 0 → Accepted o
unfolding number_at depth_number resampler_number
accepted o e =
    let s = o.settings in
    let p = first_none (E.settings_number s.thinning s.stages s.r) _ e in
    let q = first_none (settings_number_in_line (length o.taps) s.factor) _ p.1 in
    let t = first_none (depth_number s.depth) _ q.1 in
    let a = EP.accepted s.thinning s.stages s.r p.0 in
    record {
      stages = a.stages;
      factor = a.factor;
      thinned = p.0;
      filter = q.0;
      depth = ltb-false 5 s.depth (not_deep (ltb 5 s.depth) t.0);
      resampler = λ n. on (rw (ne_eqb s.phases 0 n) at t.1);
    }
  where
    not_deep : (b : Bool) → ◌≡◌ {A = ℕ} (cond b 11 0) 0 → b ≡ false
    not_deep true r = absurd (omega arith)
    not_deep false r = refl

    on :
        ◌≡◌ {A = ℕ} (cond (in_limits o.settings.phases o.settings.phase_taps) (cond (eqb (length o.prototype) (o.settings.phases * o.settings.phase_taps)) (cond (step_in_line o.settings.step) 0 14) 13) 12) 0
        → On o
    on r =
        let u = passed (in_limits o.settings.phases o.settings.phase_taps) _ 11 r in
        let v = passed (eqb (length o.prototype) (o.settings.phases * o.settings.phase_taps)) _ 12 u.1 in
        let w = passed (step_in_line o.settings.step) 0 13 v.1 in
        record { limits = u.0; long = eqb-true _ _ v.0; step = w.0 }

-- by whether the resampler is off
module _ (o : Opening) (ok : Accepted o) where
  abbrev resampler : PolyphaseResampF32
  resampler = cond (eqb o.settings.phases 0) R.zeros (R.fresh o.settings.straight o.settings.phases o.settings.phase_taps o.prototype o.settings.step)

  some_phases : (n : ℕ) → o.settings.phases ≡ suc n → o.settings.phases ≡ 0 → ⊥
  some_phases n e z = omega arith

  resampler_valid : (n : ℕ) → o.settings.phases ≡ n → valid_in_line resampler ≡ true
  resampler_valid zero e = rw e (line_off R.zeros (unfold R.zeros in refl))
  resampler_valid (suc n) e =
      let on = ok.resampler (some_phases n e) in
      rw (ne_eqb o.settings.phases 0 (some_phases n e)) (line_fresh o.settings.straight o.settings.phases o.settings.phase_taps o.prototype o.settings.step on.limits on.step)

  pub fresh_valid : valid (fresh o) ≡ true
  unfolding valid fresh resampler_fresh half_band_fine
  fresh_valid =
      and_from _ _ (either_opens o.settings.thinning o.settings.stages o.settings.r ok.thinned)
      (and_from _ _ (FirOpening.line_fresh_valid o.taps o.settings.factor ok.filter)
      (and_from _ _ (not_from_false _ (line_fresh_not_refused o.settings.depth ok.depth)) (resampler_valid o.settings.phases refl)))

  resampled : (v : List Float) (n : ℕ) → o.settings.phases ≡ n → Resampled n o v (all in_line 64 resampler v)
  resampled v zero e = rw e (off_hands_on R.zeros v (unfold R.zeros in refl))
  resampled v (suc n) e =
      let on = ok.resampler (some_phases n e) in
      subst (λ (k : ℕ). Resampled k o v (all in_line 64 resampler v)) e (whole on)
    where
      whole : On o → Resampled o.settings.phases o v (all in_line 64 resampler v)
      whole on =
          rw (ne_eqb o.settings.phases 0 (some_phases n e))
          (subst⁻¹ (λ (k : ℕ). Resampled k o v (all in_line 64 (R.fresh o.settings.straight k o.settings.phase_taps o.prototype o.settings.step) v)) e
          (becomes_all o.settings.straight (suc n) o.settings.phase_taps o.prototype (subst (λ (k : ℕ). in_limits k o.settings.phase_taps ≡ true) e on.limits) (on.long ∙ ap (λ (k : ℕ). k * o.settings.phase_taps) e) o.settings.step on.step v))

  reaches : (w : List ℤ) →
      outs hbf_stream (stream_fresh o.settings.depth) (outs (each level) (tt {0}) (outs fir (Q.fresh_in_line o.taps o.settings.factor) (outs (each (cut w16)) (tt {0}) (outs either (E.fresh o.settings.thinning o.settings.stages o.settings.r) w))))
      ≡ levels o w
  unfolding levels
  reaches w =
      let sums = outs either (E.fresh o.settings.thinning o.settings.stages o.settings.r) w in
      let cuts = outs (each (cut w16)) (tt {0}) sums in
      let values = outs fir (Q.fresh_in_line o.taps o.settings.factor) cuts in
      fresh_whole o.settings.depth ok.depth (outs (each level) (tt {0}) values)
      ∙ ap (decimated_by (stage_taps decimation) 0 o.settings.depth)
      (outs_each level (tt {0}) values
      ∙ ap (map level)
      (line_streamed o.taps o.settings.factor ok.filter cuts
      ∙ ap (fir_whole o.taps o.settings.factor)
      (outs_each (cut w16) (tt {0}) sums ∙ ap (map (cut w16)) (either_made o.settings.thinning o.settings.stages o.settings.r ok.thinned w))))

  pub makes : (w : List ℤ) → Outputs o w (all line 64 (fresh o) w)
  unfolding Outputs fresh resampler_fresh
  makes w =
      subst⁻¹ (Resampled o.settings.phases o (levels o w)) (line_all (fresh o) fresh_valid w ∙ ap (all in_line 64 resampler) (reaches w))
      (resampled (levels o w) o.settings.phases refl)

-- 01 defines one list of outputs
pub one_list : (o : Opening) (w : List ℤ) (a b : List Float) → Outputs o w a → Outputs o w b → a ≡ b
unfolding Outputs
one_list o w a b = go o.settings.phases
  where
    go : (n : ℕ) → Resampled n o (levels o w) a → Resampled n o (levels o w) b → a ≡ b
    go zero p q = p ∙ sym q
    go (suc n) p q = becomes_one o.settings.straight (suc n) o.settings.phase_taps o.prototype o.settings.step (levels o w) a b p q
