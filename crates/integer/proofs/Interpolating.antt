-- A fresh interpolator makes the moving sums of its samples with their zeros, modulo 2^32, for every number of stages, factor and list: after k samples its
-- state is known in closed form, and the dual of Hogenauer's theorem says what its integrators hand on.
use Rattle.std.proofs.Common.{◌≡◌, ℕ, zero, suc, ◌+◌, ◌-◌, ◌*◌, ◌<◌, ◌≤◌, true, List, [], ◌∷◌, ◌++◌, length, get_or, replicate, ℤ, pos, sym, refl, ap, ◌∙◌, suc-mul, zero-mul, arith, w32, SFits}
use mathlib.Core.Path.{fun_ext}
use lib.ListN.{replicate-append-replicate}
use lib.IntN.{+ℤ_idr}
use Rattle.theory.specs.Wrap.{wrap}
use Rattle.theory.proofs.Wrap.{wrap_id}
use Rattle.theory.proofs.Listed.{ascending, ascending_append, ascending_listed}
use Rattle.integer.specs.Limits.{stages_ok, factor_ok}
use Rattle.integer.specs.Stages.{Passed, integrated, combed}
use Rattle.integer.specs.MovingSums.{Signal, signal_of, delay, moving_sum, fold, stuffed, stuffed_sums}
use Rattle.integer.specs.CicInterpolator.{interpolator_of, fresh, valid_at, valid, Filled, filled, ahead, raised, next, outs, state, taken_by_blocks, Streams}
use Rattle.integer.specs.declared.cic_interpolator.CicInterpolator.{CicInterpolator}
use Rattle.integer.proofs.Hogenauer.{prefix, diff, fold_commutes, prefix_delay}
use Rattle.integer.proofs.Stuffing.{stuffing, stuffed_at, stuffed_off}
use Rattle.integer.proofs.Towers.{tower, tower_zero, wrap_zero, integrators, combs}
use Rattle.integer.proofs.Within.{stages_within, factor_within}
use Rattle.integer.proofs.Raising.{joined}

diff_delay : (f : Signal) → diff (delay f) ≡ delay (diff f)
diff_delay f = fun_ext go
  where
    go : (k : ℕ) → diff (delay f) k ≡ delay (diff f) k
    go zero = refl
    go (suc zero) = +ℤ_idr (f zero)
    go (suc (suc k)) = refl

-- a run of the integrators: f's value at the next time, and then as many zeros
fills : (n : ℕ) (f : Signal) (rest : List ℤ) (k t : ℕ) (v : ℤ) → (0 < k → v ≡ wrap w32 (f (suc t))) → ((i : ℕ) → suc i < k → f (suc (t + suc i)) ≡ pos 0) → filled n (tower prefix n (prefix f) t ++ rest) v k ≡ record { state = tower prefix n (prefix f) (t + k) ++ rest; outs = ascending t k (λ i. wrap w32 (fold n prefix f (suc i))) }
unfolding filled
fills n f rest zero t v now later =
    let e : t ≡ t + 0 = omega arith in
    ap (λ u. record { state = tower prefix n (prefix f) u ++ rest; outs = [] }) e
fills n f rest (suc k) t v now later =
    let e : suc t + k ≡ t + suc k = omega arith in
    ap (λ u. ahead (integrated n (tower prefix n (prefix f) t ++ rest) u).val (filled n (integrated n (tower prefix n (prefix f) t ++ rest) u).state (pos 0) k)) (now (omega arith))
    ∙ ap (λ p. ahead p.val (filled n p.state (pos 0) k)) (integrators n f t rest)
    ∙ ap (ahead (wrap w32 (fold n prefix f (suc t))))
    (fills n f rest k (suc t) (pos 0)
    (λ h. let q : t + 1 ≡ suc t = omega arith in sym (ap (wrap w32) (ap (λ u. f (suc u)) (sym q) ∙ later 0 (omega arith)) ∙ wrap_zero))
    (λ i h. let q : suc t + suc i ≡ t + suc (suc i) = omega arith in ap (λ u. f (suc u)) q ∙ later (suc i) (omega arith)))
    ∙ ap (λ u. record { state = tower prefix n (prefix f) u ++ rest; outs = ascending t (suc k) (λ i. wrap w32 (fold n prefix f (suc i))) }) e

module _ (N r : ℕ) (few : N ≤ 8) (pos_r : 0 < r) (x : Signal) (fits : (k : ℕ) → wrap w32 (x k) ≡ x k) where
  abbrev rest : List ℤ
  rest = replicate (8 - N) (pos 0)

  -- what the integrators are fed
  abbrev fed : Signal
  fed = delay (stuffed r (fold N diff x))

  abbrev made : ℕ → ℤ
  made i = wrap w32 (fold N prefix fed (suc i))

  -- after k samples
  abbrev state_at : ℕ → CicInterpolator
  state_at k = interpolator_of N r (tower diff N (delay x) k ++ rest) (tower prefix N (prefix fed) (k * r) ++ rest)

  combed_at : (k : ℕ) → combed N (tower diff N (delay x) k ++ rest) (x k) ≡ record { state = tower diff N (delay x) (suc k) ++ rest; val = wrap w32 (fold N diff (delay x) (suc k)) }
  combed_at k = ap (combed N (tower diff N (delay x) k ++ rest)) (sym (fits k)) ∙ combs N (delay x) k rest

  raised_at : (k : ℕ) → raised (state_at k) (x k) ≡ record { state = tower prefix N (prefix fed) (suc k * r) ++ rest; outs = ascending (k * r) r made }
  raised_at k =
      let z : k * r ≡ k * r + 0 = omega arith in
      let e : k * r + r ≡ suc k * r = sym (suc-mul k r) in
      ap (λ (p : Passed ℤ). filled N (tower prefix N (prefix fed) (k * r) ++ rest) p.val r) (combed_at k)
      ∙ fills N fed rest r (k * r) (wrap w32 (fold N diff (delay x) (suc k)))
      (λ h. ap (wrap w32) (ap (λ (g : Signal). g (suc k)) (sym (fold_commutes N diff delay (λ g. sym (diff_delay g)) x)) ∙ sym (ap (stuffed r (fold N diff x)) z ∙ stuffed_at r pos_r (fold N diff x) k)))
      (λ i h. stuffed_off r pos_r (fold N diff x) k i h)
      ∙ ap {B = Filled} (λ (t : ℕ). record { state = tower prefix N (prefix fed) t ++ rest; outs = ascending (k * r) r made }) e

  next_at : (k : ℕ) → next (state_at k) (x k) ≡ state_at (suc k)
  next_at k =
      ap (λ (p : Passed ℤ). interpolator_of N r p.state (raised (state_at k) (x k)).state) (combed_at k)
      ∙ ap (λ (f : Filled). interpolator_of N r (tower diff N (delay x) (suc k) ++ rest) f.state) (raised_at k)

  rises : (w : List ℤ) (k : ℕ) → ((i : ℕ) → x (k + i) ≡ get_or w i (pos 0)) → outs (state_at k) w ≡ ascending (k * r) (length w * r) made
  rises [] k at = ap (λ m. ascending (k * r) m made) (sym (zero-mul r))
  rises (y ∷ w) k at =
      let z : k ≡ k + 0 = omega arith in
      let e : suc k * r ≡ k * r + r = suc-mul k r in
      let f : r + length w * r ≡ suc (length w) * r = omega (arith, suc-mul (length w) r) in
      ap (λ v. (raised (state_at k) v).outs ++ outs (next (state_at k) v) w) (sym (ap x z ∙ at 0))
      ∙ ap (λ (g : Filled). g.outs ++ outs (next (state_at k) (x k)) w) (raised_at k)
      ∙ ap (λ s. ascending (k * r) r made ++ outs s w) (next_at k)
      ∙ ap (λ l. ascending (k * r) r made ++ l) (rises w (suc k) (λ i. let q : suc k + i ≡ k + suc i = omega arith in ap x q ∙ at (suc i)) ∙ ap (λ t. ascending t (length w * r) made) e)
      ∙ ascending_append r (length w * r) (k * r) made
      ∙ ap (λ m. ascending (k * r) m made) f

  starts : state_at 0 ≡ fresh N r
  starts =
      let zeros : replicate N (pos 0) ++ rest ≡ replicate 8 (pos 0) =
      (let e : N + (8 - N) ≡ 8 = omega arith in
      replicate-append-replicate N (8 - N) (pos 0) ∙ ap (λ m. replicate m (pos 0)) e) in
      ap (λ t. interpolator_of N r (tower diff N (delay x) 0 ++ rest) (tower prefix N (prefix fed) t ++ rest)) (zero-mul r)
      ∙ ap (λ l. interpolator_of N r (l ++ rest) (tower prefix N (prefix fed) 0 ++ rest)) (tower_zero diff (λ g. refl) N (delay x) refl)
      ∙ ap (λ l. interpolator_of N r (replicate N (pos 0) ++ rest) (l ++ rest)) (tower_zero prefix (λ g. refl) N (prefix fed) refl)
      ∙ ap (λ l. interpolator_of N r l l) zeros

  made_is : made ≡ (λ t. wrap w32 (fold N (moving_sum r) (stuffed r x) t))
  made_is =
      ap {B = ℕ → ℤ} (λ (g : Signal) i. wrap w32 (g (suc i))) (sym (fold_commutes N prefix delay (λ g. sym (prefix_delay g)) (stuffed r (fold N diff x))))
      ∙ ap {B = ℕ → ℤ} (λ (g : Signal) i. wrap w32 (g i)) (stuffing r pos_r N x)

interpolates : (N r : ℕ) → N ≤ 8 → 0 < r → (w : List ℤ) → ((k : ℕ) → SFits w32 (get_or w k (pos 0))) → outs (fresh N r) w ≡ stuffed_sums N r w
unfolding stuffed_sums
interpolates N r few pos_r w all =
    let x = signal_of w in
    let fits : (k : ℕ) → wrap w32 (x k) ≡ x k = λ k. wrap_id w32 (x k) (all k) in
    ap (λ d. outs d w) (sym (starts N r few pos_r x fits))
    ∙ rises N r few pos_r x fits w 0 (λ i. let q : 0 + i ≡ i = omega arith in ap x q)
    ∙ ap (λ t. ascending t (length w * r) (made N r few pos_r x fits)) (zero-mul r)
    ∙ ap (ascending 0 (length w * r)) (made_is N r few pos_r x fits)
    ∙ ascending_listed (length w * r) _

-- the settings never change, so no sample is refused
still_valid : (d : CicInterpolator) (w : List ℤ) → valid (state d w) ≡ valid d
still_valid d [] = refl
still_valid d (x ∷ w) = still_valid (next d x) w

pub streams : (N r : ℕ) → stages_ok N ≡ true → factor_ok r ≡ true → Streams N r (fresh N r)
unfolding valid_at
streams N r ok_n ok_r =
    record {
      unrefused = λ w. still_valid (fresh N r) w ∙ rw (ok_n, ok_r);
      sums_made = interpolates N r (stages_within N ok_n).1 (factor_within r ok_r).0;
      blocks_unrefused = λ h. ap valid (joined (fresh N r) h).0 ∙ still_valid (fresh N r) (taken_by_blocks (fresh N r) h) ∙ rw (ok_n, ok_r);
      blocks_state = λ h. (joined (fresh N r) h).0;
      blocks_made = λ h all. (joined (fresh N r) h).1 ∙ interpolates N r (stages_within N ok_n).1 (factor_within r ok_r).0 (taken_by_blocks (fresh N r) h) all;
    }
