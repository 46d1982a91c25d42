-- One turn of `thin_tape`: a halving more, whose values go on with the neighbours behind its own, until none is left.
use mathlib.Core.Path.{◌≡◌, refl, sym, ap, ap₂, ◌∙◌}
use mathlib.Core.Bool.{true, false}
use mathlib.Core.List.{List, ◌++◌, append_assoc}
use Prim.Native.Nat.{ℕ, suc, ◌+◌, ◌-◌, ◌*◌, ◌/◌, ◌%◌, ◌^◌, ◌≤◌, ◌<◌, min}
use native.Mathlib.Nat.{mul_assoc, mul-one, suc-mul, min-eq_left}
use native.Mathlib.Decide.{dec_le}
use native.Mathlib.Omega.{arith}
use borrow.Author.Tests.{eqb-true}
use borrow.Rule.Slice.PartMut.{mid_of, put_mid, same_len_mid}
use lib.IntN.{ℤ}
use lib.ListN.{length, take, drop, length-drop, take-append-drop}
use lib.Seq.{length-take-le, take-append-add, drop-append-add}
use Rattle.nonrecursive.specs.NonrecursiveDecimator.{halvings, power_of_two}
use Rattle.nonrecursive.specs.inner.Tape.{Lined, pairs, lined}
use Rattle.nonrecursive.proofs.Halvings.{halvings_none, halvings_half, power_below, power_odd, power_even}
use Rattle.nonrecursive.proofs.StageByStage.{pairs_long}
use Rattle.nonrecursive.proofs.ThinSteps.{part_is, put_is}

-- a power of two that has no halving is 1
one_left : (r : ℕ) → power_of_two r ≡ true → r < 2 → r ≡ 1
one_left r p h = eqb-true r 1 (power_below r h ∙ p)

module _ (r : ℕ) (power : power_of_two r ≡ true) (more : 2 ≤ r) (fits : r < 2 ^ 64) where
  even : r % 2 ≡ 0
  even = go (dec_le 1 (r % 2))
    where
      go : Dec (1 ≤ r % 2) → r % 2 ≡ 0
      go (yes h) = absurd (mathlib.Core.Bool.false≢true (power_odd r more fits (omega arith) ∙ power))
      go (no h) = omega arith

  pub half_power : power_of_two (r / 2) ≡ true
  half_power = power_even r more fits (omega (arith, even)) ∙ power

  pub pairs_of : (count : ℕ) → count * (r / 2) * 2 ≡ count * r
  pairs_of count = mul_assoc count (r / 2) 2 ∙ ap (λ (n : ℕ). count * n) (let e : r / 2 * 2 ≡ r = omega (arith, even) in e)

-- what holds where the halvings of `left` are still to come, with the neighbours from `from` on: they give of the tape's front what all halvings give of it as it was
pub record Thinning (N r count : ℕ) (s₀ tape₀ s tape : List ℤ) (left from : ℕ) : Type 0 where
  pub fits : left < 2 ^ 64
  pub power : power_of_two left ≡ true
  pub neighbours_left : from + halvings left * N ≤ length s
  pub values_left : count * left ≤ length tape
  pub long : length s ≡ length s₀
  pub same : length tape ≡ length tape₀
  pub state_left : (lined N (halvings r) s₀ (take (count * r) tape₀)).state ≡ take from s ++ (lined N (halvings left) (drop from s) (take (count * left) tape)).state
  pub vals_left : (lined N (halvings r) s₀ (take (count * r) tape₀)).vals ≡ (lined N (halvings left) (drop from s) (take (count * left) tape)).vals

module _ (N r count : ℕ) (s₀ tape₀ : List ℤ) where
  pub thinning_starts : r < 2 ^ 64 → power_of_two r ≡ true → count * r ≤ length tape₀ → halvings r * N ≤ length s₀ → Thinning N r count s₀ tape₀ s₀ tape₀ r 0
  thinning_starts f p v n =
      record { fits = f; power = p; neighbours_left = omega (arith, n); values_left = v; long = refl; same = refl; state_left = refl; vals_left = refl }

  module _ (s tape : List ℤ) (left from : ℕ) (h : Thinning N r count s₀ tape₀ s tape left from) where
    module _ (more : 2 ≤ left) where
      -- half as many pairs as there are values
      pub pairs_left : count * (left / 2) * 2 ≡ count * left
      pairs_left = pairs_of left h.power more h.fits count

      pub neighbours_there : from + N + halvings (left / 2) * N ≤ length s
      neighbours_there =
          let e : from + suc (halvings (left / 2)) * N ≤ length s = rw (halvings_half left more h.fits) at h.neighbours_left in
          omega (arith, suc-mul (halvings (left / 2)) N)

      inside : from ≤ length s
      inside = omega (arith, neighbours_there)

      least_is : from ≡ min from (length s)
      least_is = sym (min-eq_left inside)

      abbrev part : List ℤ
      part = mid_of from (length s - from) s

      -- the part of the neighbours that the code lends has those of a halving
      pub part_enough : N ≤ length part
      part_enough = omega (arith, ap length (part_is from s from least_is), length-drop from s, neighbours_there)

      -- as the code leaves it: the part of the neighbours from `from` on became Y, and the tape `thinner`
      module _ (Y thinner : List ℤ) where
        abbrev values : List ℤ
        values = take (count * (left / 2)) thinner

        abbrev put : List ℤ
        put = put_mid from (length s - from) s Y

        abbrev goes_on : List ℤ → List ℤ → Lined
        goes_on y v = record { state = take N y ++ (lined N (halvings (left / 2)) (drop N y) v).state; vals = (lined N (halvings (left / 2)) (drop N y) v).vals }

        front_long : length (take from s) ≡ from
        front_long = length-take-le from s inside

        put_take : take (from + N) put ≡ take from s ++ take N Y
        put_take =
            ap₂ (λ (n : ℕ) (l : List ℤ). take (n + N) l) (sym front_long) (put_is from s from least_is Y)
            ∙ take-append-add (take from s) Y N

        put_drop : drop (from + N) put ≡ drop N Y
        put_drop =
            ap₂ (λ (n : ℕ) (l : List ℤ). drop (n + N) l) (sym front_long) (put_is from s from least_is Y)
            ∙ drop-append-add (take from s) Y N

        one_more : Y ≡ (pairs N part (take (count * (left / 2) * 2) tape)).state → values ≡ (pairs N part (take (count * (left / 2) * 2) tape)).vals
            → lined N (halvings left) (drop from s) (take (count * left) tape) ≡ goes_on Y values
        unfolding lined
        one_more e_y e_v =
            let p : pairs N part (take (count * (left / 2) * 2) tape) ≡ pairs N (drop from s) (take (count * left) tape) =
            ap₂ (λ (l : List ℤ) (n : ℕ). pairs N l (take n tape)) (part_is from s from least_is) pairs_left
            in
            ap (λ (m : ℕ). lined N m (drop from s) (take (count * left) tape)) (halvings_half left more h.fits)
            ∙ sym (ap₂ goes_on (e_y ∙ ap (λ (q : Lined). q.state) p) (e_v ∙ ap (λ (q : Lined). q.vals) p))

        pub thinning_more :
            Y ≡ (pairs N part (take (count * (left / 2) * 2) tape)).state → values ≡ (pairs N part (take (count * (left / 2) * 2) tape)).vals → length thinner ≡ length tape
            → Thinning N r count s₀ tape₀ put thinner (left / 2) (from + N)
        thinning_more e_y e_v e =
            let put_long : length put ≡ length s = same_len_mid from (length s - from) s Y (ap length e_y ∙ pairs_long N (take (count * (left / 2) * 2) tape) part) in
            record {
              fits = omega (arith, h.fits);
              power = half_power left h.power more h.fits;
              neighbours_left = omega (arith, neighbours_there, put_long);
              values_left = omega (arith, pairs_left, h.values_left, e);
              long = put_long ∙ h.long;
              same = e ∙ h.same;
              state_left =
                  h.state_left
                  ∙ ap (λ (q : Lined). take from s ++ q.state) (one_more e_y e_v)
                  ∙ sym (append_assoc (take from s) (take N Y) (lined N (halvings (left / 2)) (drop N Y) values).state)
                  ∙ sym (ap₂ (λ (a b : List ℤ). a ++ (lined N (halvings (left / 2)) b values).state) put_take put_drop);
              vals_left = h.vals_left ∙ ap (λ (q : Lined). q.vals) (one_more e_y e_v) ∙ sym (ap (λ (l : List ℤ). (lined N (halvings (left / 2)) l values).vals) put_drop);
            }

    pub thinning_done : left < 2 → (s ≡ (lined N (halvings r) s₀ (take (count * r) tape₀)).state) × (take count tape ≡ (lined N (halvings r) s₀ (take (count * r) tape₀)).vals)
    unfolding lined
    thinning_done few =
        let z : halvings left ≡ 0 = halvings_none left few in
        let c : count * left ≡ count = ap (λ (n : ℕ). count * n) (one_left left h.power few) ∙ mul-one count in (
          sym (h.state_left ∙ ap (λ (m : ℕ). take from s ++ (lined N m (drop from s) (take (count * left) tape)).state) z ∙ take-append-drop from s),
          sym (h.vals_left ∙ ap (λ (m : ℕ). (lined N m (drop from s) (take (count * left) tape)).vals) z ∙ ap (λ (n : ℕ). take n tape) c),
        )
