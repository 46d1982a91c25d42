-- The outputs that are due, all at once: the line writes them one after the other, and then its span is full or nothing is due.
use mathlib.Core.Path.{◌≡◌, refl, sym, ◌∙◌}
use mathlib.Core.Bool.{Bool, true, false, not, true≢false, and-false}
use mathlib.Core.List.{List}
use Prim.Native.Nat.{ℕ, ◌+◌, ◌-◌, ◌<◌}
use native.Mathlib.Omega.{arith}
use borrow.Author.Tests.{ltb-true, lt-ltb, ne_eqb}
use lib.Dec.{eqb, ltb}
use lib.IntN.{ℤ}
use lib.Ieee.{Float, binary32, add, lt}
use lib.ListN.{length, drop, set}
use Rattle.theory.specs.Feeds.{Stepped, wrote, head_of, step}
use Rattle.theory.proofs.FeedLoop.{Midway, after_wrote}
use Rattle.theory.proofs.Steps.{step_wrote}
use Rattle.float.specs.F32.{one32}
use Rattle.float.specs.PolyphaseOutput.{output}
use Rattle.float.specs.PolyphaseOpening.{in_limits}
use Rattle.float.specs.inner.Running.{Emitted, emitted, emitted_from}
use Rattle.float.specs.PolyphaseResamp.{in_line, is_on, output_of, passed}
use Rattle.float.proofs.PolyphaseOutput.{limits_say}
use Rattle.float.proofs.DueOutputs.{emitted_keeps, emitted_all}
use Rattle.float.specs.PolyphaseResamp as R
use Rattle.float.specs.inner.Running as N
use Rattle.float.specs.declared.settings.Setting.{Setting}
use Rattle.float.specs.declared.polyphase_resamp.PolyphaseResampF32.{PolyphaseResampF32}
use Rattle.line.specs.Line.{line}
use Rattle.line.specs.declared.gauge_line.Line.{Line}
use Rattle.line.proofs.Lawful.{Good, line_lawful}
use Rattle.line.proofs.Numbers.{due_limits}

-- the line with another mu
abbrev pub with_mu : Line → Float → Line
with_mu l mu =
    let r = l.resampler in
    record {
      thinning = l.thinning;
      cic = l.cic;
      neighbours = l.neighbours;
      fir = l.fir;
      half_band = l.half_band;
      resampler = R.together r.straight r.phases r.taps mu r.step r.delay r.prototype;
      cuts = l.cuts;
    }

module _ (l₀ : Line) (xs : List ℤ) (out₀ : List Float) (l : Line) (t : ℕ) where
  abbrev r : PolyphaseResampF32
  r = l.resampler

  abbrev Mid : Float → ℕ → List Float → Type 0
  Mid mu w o = Midway line 64 Good line_lawful l₀ xs out₀ o (with_mu l mu) t w

  -- an output that is due
  one_more : in_limits r.phases r.taps ≡ true → (mu : Float) (w : ℕ) (o : List Float) → Mid mu w o → lt mu one32 ≡ true → w < length o → Mid (add binary32 mu r.step) (w + 1) (set o w (output r.straight r.phases r.taps mu r.delay r.prototype))
  unfolding in_line is_on output_of passed
  one_more within mu w o mid d h =
      let y : Float = output r.straight r.phases r.taps mu r.delay r.prototype in
      let e : Stepped Line Float = record { event = wrote y; line = with_mu l (add binary32 mu r.step) } in
      let on : eqb r.phases 0 ≡ false = ne_eqb r.phases 0 (λ z. let g = (limits_say _ _ within).some_phases in omega arith) in
      let due : line.due (with_mu l mu) ≡ true = rw (on, d) in
      let by : e ≡ step line (ltb w (length o)) (with_mu l mu) (head_of (drop t xs)) = step_wrote line (with_mu l mu) (ltb w (length o)) xs t (lt-ltb w (length o) h) _ _ due refl refl in
      (after_wrote line 64 Good line_lawful l₀ xs out₀ o (with_mu l mu) t w mid e by y refl).1

  not_due : (mu : Float) → lt mu one32 ≡ false → line.due (with_mu l mu) ≡ false
  unfolding in_line is_on
  not_due mu n = rw n (and-false (not (eqb r.phases 0)))

  -- nothing is due where a place is left
  pub record Drained (e : Emitted) : Type 0 where
    pub mid : Mid e.mu e.written e.span
    pub quiet : ltb e.written (length e.span) ≡ true → line.due (with_mu l e.mu) ≡ false

  drained : (w : ℕ) (out : List Float) → Mid r.mu w out → (e : Emitted) → e ≡ emitted_from r.straight r.phases r.taps r.step r.delay r.prototype r.mu w out → Drained e
  unfolding emitted_from
  drained w out mid e q = go (in_limits r.phases r.taps) refl
    where
      off : in_limits r.phases r.taps ≡ false → (b : Bool) → line.due l ≡ b → b ≡ false
      off z true d = absurd (true≢false (sym (due_limits l mid.good d) ∙ z))
      off z false d = refl

      go : (b : Bool) → in_limits r.phases r.taps ≡ b → Drained e
      go false z =
          let same : e ≡ record { mu = r.mu; written = w; span = out } = rw z at q in
          rw same (record { mid = mid; quiet = λ p. off z (line.due l) refl })
      go true z =
          let same : e ≡ emitted r.straight r.phases r.taps r.step r.delay r.prototype (length out - w) r.mu w out = rw z at q in
          let all : e.written < length e.span → lt e.mu one32 ≡ false = rw same (emitted_all r.straight r.phases r.taps r.step r.delay r.prototype (length out - w) r.mu w out refl) in
          record {
            mid = rw same (emitted_keeps r.straight r.phases r.taps r.step r.delay r.prototype Mid (one_more z) (length out - w) r.mu w out refl mid);
            quiet = λ p. not_due e.mu (all (ltb-true _ _ p));
          }

-- the same as the loops have it
module _ {l₀ : Line} {xs : List ℤ} {out₀ out : List Float} {l : Line} {t w : ℕ} (mid : Midway line 64 Good line_lawful l₀ xs out₀ out l t w)
    {q : Setting} (setting : q ≡ N.setting_of l.resampler) {e : Emitted} (due : e ≡ emitted_from q.straight q.phases q.phase_taps q.step l.resampler.delay l.resampler.prototype l.resampler.mu w out) where
  pub emptied : Drained l₀ xs out₀ l t e
  emptied = drained l₀ xs out₀ l t w out mid e (rw setting at due)
