-- The limits as orders: what the tests of stages and factor say.
use Rattle.std.proofs.Common.{◌≡◌, ℕ, ◌<◌, ◌≤◌, Bool, true, false, cond, ◌&&◌, ltb, leb, refl, arith, ltb-true, leb-true}
use Rattle.std.proofs.lemmas.Bool.{and_parts}
use Rattle.integer.specs.Limits.{one_to, stages_ok, factor_ok}
use Rattle.integer.specs.Opening.{settings_number}
use Rattle.integer.specs.CicDecimator.{valid_at}
use Rattle.integer.specs.CicInterpolator.{valid_at as interpolator_valid}

one_to_lem : (most x : ℕ) → one_to most x ≡ true → (1 ≤ x) × (x ≤ most)
one_to_lem most x e =
    let h = and_parts (leb 1 x) (leb x most) e in
    (leb-true 1 x h.0, leb-true x most h.1)

pub stages_within : (N : ℕ) → stages_ok N ≡ true → (1 ≤ N) × (N ≤ 8)
unfolding stages_ok
stages_within N e = one_to_lem 8 N e

pub factor_within : (r : ℕ) → factor_ok r ≡ true → (1 ≤ r) × (r ≤ 4096)
unfolding factor_ok
factor_within r e = one_to_lem 4096 r e

-- settings that are opened
pub opened_settings : (N r : ℕ) → settings_number N r ≡ 0 → (stages_ok N ≡ true) × (factor_ok r ≡ true)
unfolding settings_number
opened_settings N r = go (stages_ok N) (factor_ok r)
  where
    go : (s f : Bool) → ◌≡◌ {A = ℕ} (cond s (cond f 0 2) 1) 0 → (s ≡ true) × (f ≡ true)
    go true true e = (refl, refl)
    go true false e = absurd (omega arith)
    go false f e = absurd (omega arith)

-- a state that is not refused
pub accepted : (valid : Bool) → ◌≡◌ {A = ℕ} 0 (cond valid 0 15) → valid ≡ true
accepted true e = refl
accepted false e = absurd (omega arith)

-- what a valid decimator's numbers are
pub record Sound (N r counter : ℕ) : Type 0 where
  pub stages : stages_ok N ≡ true
  pub factor : factor_ok r ≡ true
  pub least : 1 ≤ r
  pub most : r ≤ 4096
  pub below : counter < r

pub sound : (N r counter : ℕ) → valid_at N r counter ≡ true → Sound N r counter
unfolding valid_at
sound N r counter e =
    let s = and_parts (stages_ok N) (factor_ok r && ltb counter r) e in
    let t = and_parts (factor_ok r) (ltb counter r) s.1 in
    let b = factor_within r t.0 in
    record { stages = s.0; factor = t.0; least = b.0; most = b.1; below = ltb-true counter r t.1 }

-- a valid interpolator has a stage at least, and so a stage fewer can be counted
pub interpolator_stages : (N r : ℕ) → interpolator_valid N r ≡ true → (1 ≤ N) × (N ≤ 8)
unfolding interpolator_valid
interpolator_stages N r e = stages_within N (and_parts (stages_ok N) (factor_ok r) e).0

-- and a factor within its limits
pub interpolator_factor : (N r : ℕ) → interpolator_valid N r ≡ true → (1 ≤ r) × (r ≤ 4096)
unfolding interpolator_valid
interpolator_factor N r e = factor_within r (and_parts (stages_ok N) (factor_ok r) e).1
