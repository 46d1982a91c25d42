-- A line that begins where its arrays lie is the fresh one: the taps and the prototype stand in front of their arrays, and zeros are written behind them and in all others.
use Rattle.std.proofs.Common.{◌≡◌, ℕ, zero, suc, ◌-◌, ◌*◌, ◌≤◌, ◌<◌, List, ◌++◌, length, take, drop, replicate, sym, refl, ap, ap₂, ◌∙◌, arith, append-nil, length-take, length-take-le}
use Rattle.std.specs.Prelude.{true, ℤ, pos, Float}
use native.Mathlib.Decide.{dec_le}
use borrow.Author.Tests.{ne_eqb}
use borrow.Rule.Slice.PartMut.{mid_of, put_mid}
use lib.ListN.{length-drop, drop_of_length-le}
use Rattle.refusal.specs.Outcome.{Opened}
use Rattle.integer.specs.CicDecimator.{decimator_of}
use Rattle.nonrecursive.specs.NonrecursiveDecimator.{most_neighbours}
use Rattle.q15.specs.FirDecimator.{most_taps, fir_state, padded, fresh_in_line}
use Rattle.q15.specs.FirDecimator as Q
use Rattle.q15.specs.declared.fir_decimator.FirDecimator.{FirDecimator}
use Rattle.q15.proofs.FirSteps.{settings_in_lem, line_settings}
use Rattle.half_band.specs.HbfStream.{stream_fresh}
use Rattle.half_band.specs.declared.hbf_stream.HbfStream.{HbfStream}
use Rattle.float.specs.declared.polyphase_resamp.PolyphaseResampF32.{PolyphaseResampF32}
use Rattle.float.proofs.PolyphaseOutput.{few_cells, limits_say}
use Rattle.line.specs.Openings.{valid, opening_number_of, resampler_fresh, fresh, zeros, opened_by, opened, opening_of, reset}
use Rattle.line.specs.Outputs.{Opening}
use Rattle.line.specs.declared.gauge_line.Line.{Line}
use Rattle.line.proofs.Numbers.{few_taps, reset_opens}
use Rattle.line.proofs.Numbers as N
use Rattle.line.proofs.Openings.{accepted}

-- ---- the FIR
padded_by :
    (t : ℕ) (taps zs : List ℤ) → t ≤ most_taps → length taps ≡ most_taps → zs ≡ replicate (length (mid_of t (128 - t) taps)) (pos 0)
    → put_mid t (128 - t) taps zs ≡ padded (take t taps)
unfolding padded
padded_by t taps zs few long z =
    let count : length (take t taps) ≡ t = length-take-le t taps (omega (arith, few, long)) in
    let places : length (mid_of t (128 - t) taps) ≡ most_taps - length (take t taps) = omega (arith, length-take (128 - t) (drop t taps), length-drop t taps, long, count) in
    let behind : length (drop t taps) ≤ 128 - t = omega (arith, length-drop t taps, long) in
    ap₂ {C = List ℤ} (λ (a b : List ℤ). take t taps ++ (a ++ b)) (z ∙ ap (λ (m : ℕ). replicate m (pos 0)) places) (drop_of_length-le (drop t taps) behind)
    ∙ ap (λ (a : List ℤ). take t taps ++ a) (append-nil (replicate (most_taps - length (take t taps)) (pos 0)))

module _
    (t D : ℕ) (taps zs ds : List ℤ) (few : t ≤ most_taps) (long : length taps ≡ most_taps)
    (z : zs ≡ replicate (length (mid_of t (128 - t) taps)) (pos 0)) (d : ds ≡ replicate most_taps (pos 0))
  where
    pub fir_off : t ≡ 0 → fir_state (put_mid t (128 - t) taps zs) 0 0 ds t ≡ fresh_in_line (take t taps) D
    unfolding fresh_in_line padded
    fir_off e = rw (padded_by t taps zs few long z, d, e) refl

    pub fir_begun : (t ≡ 0 → ⊥) → fir_state (put_mid t (128 - t) taps zs) t D ds t ≡ fresh_in_line (take t taps) D
    unfolding fresh_in_line Q.fresh
    fir_begun n = rw (padded_by t taps zs few long z, d, length-take-le t taps (omega (arith, few, long)), ne_eqb t 0 n) refl

-- ---- the line
pub line_fresh :
    (o : Opening) (integrators combs neighbours : List ℤ) (f : FirDecimator) (s : HbfStream) (p : PolyphaseResampF32)
    → integrators ≡ replicate 8 (pos 0) → combs ≡ replicate 8 (pos 0) → neighbours ≡ replicate most_neighbours (pos 0)
    → f ≡ fresh_in_line o.taps o.settings.factor → s ≡ stream_fresh o.settings.depth → p ≡ resampler_fresh o.settings o.prototype
    → ◌≡◌ {A = Line} (record {
      thinning = o.settings.thinning;
      cic = decimator_of o.settings.stages o.settings.r integrators combs 0;
      neighbours = neighbours;
      fir = f;
      half_band = s;
      resampler = p;
      cuts = 0;
    }) (fresh o)
unfolding fresh
line_fresh o integrators combs neighbours f s p i c n ef es ep = rw (i, c, n, ef, es, ep) refl

-- ---- openings
pub few_opened : (o : Opening) → opening_number_of o ≡ 0 → length o.taps ≤ most_taps
few_opened o e = elim (dec_le 1 (length o.taps)) [
  | yes h ↦ (settings_in_lem _ _ (line_settings _ o.settings.factor (let n : length o.taps ≡ 0 → ⊥ = omega arith in n) (accepted o e).filter)).few
  | no h ↦ (let few : length o.taps ≤ most_taps = omega arith in few)
]

-- the prototype of an opening, from the front of an array in which it stands
own_prototype :
    (o : Opening) (h : List Float) (n : ℕ) → opening_number_of o ≡ 0 → o.settings.phases ≡ n → (length o.prototype ≤ 1024 → take (length o.prototype) h ≡ o.prototype)
    → resampler_fresh o.settings (take (o.settings.phases * o.settings.phase_taps) h) ≡ resampler_fresh o.settings o.prototype
unfolding resampler_fresh
own_prototype o h zero e p front = rw p refl
own_prototype o h (suc n) e p front =
    let on = (accepted o e).resampler (λ z. omega arith) in
    let fits : length o.prototype ≤ 1024 = omega (arith, on.long, few_cells _ _ (limits_say _ _ on.limits)) in
    ap (λ (l : List Float). resampler_fresh o.settings l) (ap (λ (k : ℕ). take k h) (sym on.long) ∙ front fits)

pub opened_own :
    (o : Opening) (taps : List ℤ) (h : List Float) → opening_number_of o ≡ 0
    → take (length o.taps) taps ≡ o.taps → (length o.prototype ≤ 1024 → take (length o.prototype) h ≡ o.prototype)
    → record {
      number = 0;
      state = fresh (record { settings = o.settings; taps = take (length o.taps) taps; prototype = take (o.settings.phases * o.settings.phase_taps) h });
    } ≡ opened o
unfolding opened fresh
opened_own o taps h e t p =
    rw (t, own_prototype o h o.settings.phases e refl p) (sym (ap {B = Opened Line} (λ (n : ℕ). record { number = n; state = opened_by n o }) e))

pub opened_zeros : (o : Opening) (n : ℕ) → 0 < n → opening_number_of o ≡ n → record { number = n; state = zeros } ≡ opened o
unfolding opened
opened_zeros o zero h e = absurd (omega arith)
opened_zeros o (suc n) h e = sym (ap {B = Opened Line} (λ (k : ℕ). record { number = k; state = opened_by k o }) e)

-- ---- resets
pub reset_own : (l : Line) → valid l ≡ true → length l.fir.taps ≡ most_taps → length l.resampler.prototype ≡ 1024 → record { number = 0; state = fresh (opening_of l) } ≡ reset l
unfolding reset opened
reset_own l v taps cells =
    let opens = rw v at (reset_opens l v (omega (arith, few_taps l v, taps)) (omega (arith, N.few_cells l v, cells))) in
    rw v (sym (ap {B = Opened Line} (λ (n : ℕ). record { number = n; state = opened_by n (opening_of l) }) opens))
