-- The halvings of a factor, one by one: none below 2, and else one more than of half the factor. So `thin`, which halves until 1 is left, goes through as many as
-- the definition counts; and a factor that is a power of two is 2 to their number.
use mathlib.Core.Path.{◌≡◌, refl, sym, ap, ◌∙◌}
use mathlib.Core.Bool.{Bool, true, false, cond}
use Prim.Native.Nat.{ℕ, zero, suc, ◌*◌, ◌/◌, ◌%◌, ◌^◌, ◌≤◌, ◌<◌}
use native.Mathlib.Nat.{pow-suc}
use native.Mathlib.Decide.{dec_le, ℕ_discrete}
use native.Mathlib.Omega.{arith}
use borrow.Author.Tests.{eqb-true, eq-eqb, ne_eqb, le-leb, lt-leb}
use lib.Dec.{eqb}
use lib.Count.{ones, ones_step}
use lib.Pow.{pow_pos, pow_mono}
use Rattle.std.specs.Prelude.{count_ones}
use Rattle.std.specs.Int.{is_power_of_two}
use Rattle.std.proofs.lemmas.Nat.{zero_from_ones}
use Rattle.nonrecursive.specs.NonrecursiveDecimator.{halvings_up_to, halvings, power_of_two}

doubled : (n : ℕ) → 2 ^ suc n ≡ 2 * 2 ^ n
doubled n = omega (arith, pow-suc 2 n)

none_up_to : (most r : ℕ) → r < 2 → halvings_up_to most r ≡ 0
unfolding halvings_up_to
none_up_to zero r h = refl
none_up_to (suc most) r h =
    let l : r < 2 ^ suc most = omega (arith, doubled most, pow_pos most) in
    ap (λ (b : Bool). cond b (suc most) (halvings_up_to most r)) (lt-leb (2 ^ suc most) r l) ∙ none_up_to most r h

half_up_to : (most r : ℕ) → 2 ≤ r → halvings_up_to (suc most) r ≡ suc (halvings_up_to most (r / 2))
unfolding halvings_up_to
half_up_to zero r h = ap (λ (b : Bool). cond {A = ℕ} b 1 0) (le-leb (2 ^ 1) r h)
half_up_to (suc n) r h = go (half_up_to n r h) (dec_le (2 ^ suc (suc n)) r)
  where
    go : halvings_up_to (suc n) r ≡ suc (halvings_up_to n (r / 2)) → Dec (2 ^ suc (suc n) ≤ r) → halvings_up_to (suc (suc n)) r ≡ suc (halvings_up_to (suc n) (r / 2))
    go ih (yes l) =
        let m : 2 ^ suc n ≤ r / 2 = omega (arith, doubled (suc n)) in
        ap (λ (b : Bool). cond b (suc (suc n)) (halvings_up_to (suc n) r)) (le-leb (2 ^ suc (suc n)) r l)
        ∙ sym (ap (λ (b : Bool). suc (cond b (suc n) (halvings_up_to n (r / 2)))) (le-leb (2 ^ suc n) (r / 2) m))
    go ih (no l) =
        let m : r / 2 < 2 ^ suc n = omega (arith, doubled (suc n)) in
        ap (λ (b : Bool). cond b (suc (suc n)) (halvings_up_to (suc n) r)) (lt-leb (2 ^ suc (suc n)) r (omega arith))
        ∙ ih
        ∙ sym (ap (λ (b : Bool). suc (cond b (suc n) (halvings_up_to n (r / 2)))) (lt-leb (2 ^ suc n) (r / 2) m))

one_fewer : (most r : ℕ) → r < 2 ^ suc most → halvings_up_to (suc most) r ≡ halvings_up_to most r
unfolding halvings_up_to
one_fewer most r h = ap (λ (b : Bool). cond b (suc most) (halvings_up_to most r)) (lt-leb (2 ^ suc most) r h)

pub halvings_none : (r : ℕ) → r < 2 → halvings r ≡ 0
unfolding halvings
halvings_none r h = none_up_to 63 r h

pub halvings_half : (r : ℕ) → 2 ≤ r → r < 2 ^ 64 → halvings r ≡ suc (halvings (r / 2))
unfolding halvings
halvings_half r h l = sym (one_fewer 63 r l) ∙ half_up_to 63 r h

pub power_is : (r : ℕ) → power_of_two r ≡ true → r ≡ 2 ^ halvings r
unfolding power_of_two
power_is r e = sym (eqb-true (2 ^ halvings r) r e)

-- 4,096 has 12
pub few_halvings : (m : ℕ) → 2 ^ m ≤ 4096 → m ≤ 12
few_halvings m h = go (dec_le m 12)
  where
    go : Dec (m ≤ 12) → m ≤ 12
    go (yes l) = l
    go (no l) = let p : 2 ^ 13 ≤ 2 ^ m = pow_mono (let q : 13 ≤ m = omega arith in q) in absurd (omega (arith, p))

-- the code's test: 1 is a power of two, an odd number above it is none, and an even one is where its half is
pub power_below : (r : ℕ) → r < 2 → eqb r 1 ≡ power_of_two r
unfolding power_of_two
power_below zero h = sym (ap (λ (m : ℕ). eqb (2 ^ m) 0) (halvings_none 0 h))
power_below (suc zero) h = sym (ap (λ (m : ℕ). eqb (2 ^ m) 1) (halvings_none 1 h))
power_below (suc (suc r)) h = absurd (omega arith)

module _ (r : ℕ) (more : 2 ≤ r) (fits : r < 2 ^ 64) where
  twice : 2 ^ halvings r ≡ 2 * 2 ^ halvings (r / 2)
  twice = ap (λ (m : ℕ). 2 ^ m) (halvings_half r more fits) ∙ doubled (halvings (r / 2))

  pub power_odd : r % 2 ≡ 1 → false ≡ power_of_two r
  unfolding power_of_two
  power_odd odd = let n : 2 ^ halvings r ≡ r → ⊥ = λ e. absurd (omega (arith, twice, e)) in sym (ne_eqb (2 ^ halvings r) r n)

  pub power_even : (r % 2 ≡ 1 → ⊥) → power_of_two (r / 2) ≡ power_of_two r
  unfolding power_of_two
  power_even n = go (ℕ_discrete (2 ^ halvings (r / 2)) (r / 2))
    where
      even : r % 2 ≡ 0
      even = omega (arith, n)

      go : Dec (2 ^ halvings (r / 2) ≡ r / 2) → eqb (2 ^ halvings (r / 2)) (r / 2) ≡ eqb (2 ^ halvings r) r
      go (yes e) = eq-eqb (2 ^ halvings (r / 2)) (r / 2) e ∙ sym (eq-eqb (2 ^ halvings r) r (omega (arith, twice, e, even)))
      go (no f) = let g : 2 ^ halvings r ≡ r → ⊥ = λ e. f (omega (arith, twice, e, even)) in ne_eqb (2 ^ halvings (r / 2)) (r / 2) f ∙ sym (ne_eqb (2 ^ halvings r) r g)

-- std's test, that one bit is set, is the definition's
one_bit : (d r : ℕ) → r ≤ d → r < 2 ^ 64 → eqb (count_ones r) 1 ≡ power_of_two r
unfolding ones
one_bit d zero h fits = power_below 0 (omega arith)
one_bit d (suc zero) h fits = power_below 1 (omega arith)
one_bit zero (suc (suc r)) h fits = absurd (omega arith)
one_bit (suc d) (suc (suc r)) h fits = go (one_bit d (n / 2) (omega arith) (omega arith)) (ℕ_discrete (n % 2) 1)
  where
    n : ℕ
    n = suc (suc r)

    go : eqb (count_ones (n / 2)) 1 ≡ power_of_two (n / 2) → Dec (n % 2 ≡ 1) → eqb (count_ones n) 1 ≡ power_of_two n
    go ih (yes odd) =
        let some : count_ones (n / 2) ≡ 0 → ⊥ = λ e. let z = zero_from_ones (n / 2) e in absurd (omega arith) in
        let more : count_ones n ≡ 1 → ⊥ = λ e. some (omega (arith, ones_step n)) in
        ne_eqb (count_ones n) 1 more ∙ power_odd n (omega arith) fits odd
    go ih (no even) =
        let same : count_ones n ≡ count_ones (n / 2) = omega (arith, ones_step n) in
        ap (λ (k : ℕ). eqb k 1) same ∙ ih ∙ power_even n (omega arith) fits even

pub power_tested : (r : ℕ) → r < 2 ^ 64 → is_power_of_two r ≡ power_of_two r
power_tested r fits = one_bit r r (omega arith) fits
