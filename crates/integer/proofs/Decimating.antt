-- A fresh decimator makes the moving sums, modulo 2^32, for every number of stages, factor and list: after k outputs and j samples more its state is known
-- in closed form, and Hogenauer's theorem says what its combs then hand on.
use Rattle.std.proofs.Common.{◌≡◌, ℕ, zero, suc, ◌+◌, ◌-◌, ◌*◌, ◌/◌, ◌<◌, ◌≤◌, List, ◌++◌, length, get_or, replicate, ℤ, pos, sym, refl, ap, ◌∙◌, suc-mul, zero-mul, add-one, arith, w32, le-ltb, lt-ltb}
use mathlib.Core.Path.{fun_ext}
use Rattle.std.specs.Prelude.{None, Some}
use lib.ListN.{replicate-append-replicate}
use Rattle.theory.specs.Wrap.{wrap}
use Rattle.theory.specs.Sections.{outs}
use Rattle.theory.specs.Lists.{listed}
use Rattle.theory.proofs.EveryRth.{every_rth}
use Rattle.integer.specs.Stages.{Passed, integrated, combed}
use Rattle.integer.specs.MovingSums.{Signal, signal_of, delay, moving_sum, fold, sums}
use Rattle.integer.specs.CicDecimator.{decimator_of, fresh, decimator}
use Rattle.integer.specs.declared.cic_decimator.CicDecimator.{CicDecimator}
use Rattle.integer.proofs.Hogenauer.{prefix, diff, decimate, hogenauer, moving_delay, fold_commutes, prefix_quiet}
use Rattle.integer.proofs.Towers.{tower, tower_zero, integrators_raw, combs}

module _ (m r : ℕ) (few : suc m ≤ 8) (f : Signal) (quiet : f zero ≡ pos 0) where
  abbrev rest : List ℤ
  rest = replicate (8 - suc m) (pos 0)

  -- what the combs are fed
  abbrev low : Signal
  low = decimate r (fold (suc m) prefix f)

  -- after k outputs and j samples more
  abbrev state_at : ℕ → ℕ → CicDecimator
  state_at k j = decimator_of (suc m) r (tower prefix (suc m) (prefix f) (k * r + j) ++ rest) (tower diff (suc m) low k ++ rest) j

  -- the integrators after one sample more, at time t
  abbrev passed_at : ℕ → Passed ℤ
  passed_at t = record { state = tower prefix (suc m) (prefix f) t ++ rest; val = wrap w32 (fold (suc m) prefix f t) }

  -- output i
  abbrev gives : ℕ → ℤ
  gives i = wrap w32 (fold (suc m) (moving_sum r) f (suc i * r))

  abbrev counted : ℕ → Passed ℤ → ℕ → CicDecimator
  counted k p j = decimator_of (suc m) r p.state (tower diff (suc m) low k ++ rest) j

  abbrev passing : ℕ → ℕ → Passed ℤ
  passing k j = integrated (suc m) (tower prefix (suc m) (prefix f) (k * r + j) ++ rest) (f (suc (k * r + j)))

  counts_out : (k j : ℕ) → suc j < r → decimator.out (state_at k j) (f (suc (k * r + j))) ≡ None
  unfolding decimator
  counts_out k j h = rw (lt-ltb (j + 1) r (omega arith))

  counts_next : (k j : ℕ) → suc j < r → decimator.next (state_at k j) (f (suc (k * r + j))) ≡ state_at k (suc j)
  unfolding decimator
  counts_next k j h =
      let e : suc (k * r + j) ≡ k * r + suc j = omega arith in
      rw (lt-ltb (j + 1) r (omega arith))
      (ap (λ (p : Passed ℤ). counted k p (j + 1)) (integrators_raw m f (k * r + j) rest)
      ∙ ap (λ (t : ℕ). counted k (passed_at t) (j + 1)) e
      ∙ ap (counted k (passed_at (k * r + suc j))) (add-one j))

  -- the combs at the sample that completes sum k
  summed : (k j : ℕ) → suc j ≡ r → combed (suc m) (tower diff (suc m) low k ++ rest) (passing k j).val ≡ record { state = tower diff (suc m) low (suc k) ++ rest; val = gives k }
  summed k j h =
      let e : suc (k * r + j) ≡ suc k * r = omega (arith, suc-mul k r) in
      ap (λ (p : Passed ℤ). combed (suc m) (tower diff (suc m) low k ++ rest) p.val) (integrators_raw m f (k * r + j) rest)
      ∙ ap (λ (t : ℕ). combed (suc m) (tower diff (suc m) low k ++ rest) (wrap w32 (fold (suc m) prefix f t))) e
      ∙ combs (suc m) low k rest
      ∙ ap {B = Passed ℤ} (λ (g : Signal). record { state = tower diff (suc m) low (suc k) ++ rest; val = wrap w32 (g (suc k)) }) (hogenauer (suc m) r f quiet)

  sums_out : (k j : ℕ) → suc j ≡ r → decimator.out (state_at k j) (f (suc (k * r + j))) ≡ Some (gives k)
  unfolding decimator
  sums_out k j h = rw (le-ltb (j + 1) r (omega arith)) (ap (λ (p : Passed ℤ). Some p.val) (summed k j h))

  sums_next : (k j : ℕ) → suc j ≡ r → decimator.next (state_at k j) (f (suc (k * r + j))) ≡ state_at (suc k) 0
  unfolding decimator
  sums_next k j h =
      let e : suc (k * r + j) ≡ suc k * r + 0 = omega (arith, suc-mul k r) in
      rw (le-ltb (j + 1) r (omega arith))
      (ap (λ (p : Passed ℤ). decimator_of (suc m) r (passing k j).state p.state 0) (summed k j h)
      ∙ ap (λ (p : Passed ℤ). decimator_of (suc m) r p.state (tower diff (suc m) low (suc k) ++ rest) 0) (integrators_raw m f (k * r + j) rest)
      ∙ ap (λ (t : ℕ). decimator_of (suc m) r (passed_at t).state (tower diff (suc m) low (suc k) ++ rest) 0) e)

  -- the start is a fresh decimator
  zeros : replicate (suc m) (pos 0) ++ rest ≡ replicate 8 (pos 0)
  zeros =
      let e : suc m + (8 - suc m) ≡ 8 = omega arith in
      replicate-append-replicate (suc m) (8 - suc m) (pos 0) ∙ ap (λ n. replicate n (pos 0)) e

  starts : state_at 0 0 ≡ fresh (suc m) r
  starts =
      let e : 0 * r + 0 ≡ 0 = omega arith in
      ap (λ t. decimator_of (suc m) r (tower prefix (suc m) (prefix f) t ++ rest) (tower diff (suc m) low 0 ++ rest) 0) e
      ∙ ap (λ l. decimator_of (suc m) r (l ++ rest) (tower diff (suc m) low 0 ++ rest) 0) (tower_zero prefix (λ g. refl) (suc m) (prefix f) quiet)
      ∙ ap (λ l. decimator_of (suc m) r (replicate (suc m) (pos 0) ++ rest) (l ++ rest) 0) (tower_zero diff (λ g. refl) (suc m) low (ap (fold (suc m) prefix f) (zero-mul r) ∙ prefix_quiet (suc m) f quiet))
      ∙ ap (λ l. decimator_of (suc m) r l l 0) zeros

  made : 1 ≤ r → (w : List ℤ) → ((i : ℕ) → f (suc i) ≡ get_or w i (pos 0)) → outs decimator (fresh (suc m) r) w ≡ listed (length w / r) gives
  made least w same =
      ap (λ d. outs decimator d w) (sym starts)
      ∙ every_rth decimator r least (λ t. f (suc t)) (pos 0) state_at gives counts_out counts_next sums_out sums_next w same

pub decimates : (N r : ℕ) → 1 ≤ N → N ≤ 8 → 1 ≤ r → (w : List ℤ) → outs decimator (fresh N r) w ≡ sums N r w
unfolding sums
decimates zero r least few pos_r w = absurd (omega arith)
decimates (suc m) r least few pos_r w =
    let s = signal_of w in
    made m r few (delay s) refl pos_r w (λ i. refl)
    ∙ ap (λ (g : Signal). listed (length w / r) (λ i. wrap w32 (g (suc i * r)))) (sym (fold_commutes (suc m) (moving_sum r) delay (λ g. sym (moving_delay r g)) s))
    ∙ ap (λ (g : ℕ → ℤ). listed (length w / r) g) (fun_ext (λ i.
    let q : suc i * r ≡ suc ((i + 1) * r - 1) = omega (arith, suc-mul i r) in
    ap (λ t. wrap w32 (delay (fold (suc m) (moving_sum r) s) t)) q))
