-- No sum wraps where the samples leave room for the gain: an N-fold sum of r summands grows by r^N at most, which the gain bits cover, so it fits an i32 and is
-- its own residue.
use Rattle.std.proofs.Common.{◌≡◌, ℕ, zero, suc, ◌+◌, ◌-◌, ◌*◌, ◌/◌, ◌^◌, ◌<◌, ◌≤◌, min, Bool, true, false, cond, leb, List, length, Result, Ok, Err, IfOk, ℤ, pos, negsuc, ◌+ℤ◌, neg_ℤ, sym, refl, ap, ◌∙◌, subst, mul-le-mul_right, mul_assoc, suc-mul, mul_comm, one-mul, pow-suc, mul-suc, arith, pow_pos, pow_mono, pow-add, w32, SFits, le-leb, rules}
use mathlib.Core.Path.{fun_ext, subst⁻¹}
use native.Mathlib.Nat.{pow-zero, div-eq_of_lt-le}
use native.Mathlib.Decide.{dec_le, dec_lt}
use borrow.Author.Tests.{lt-leb}
use lib.ListN.{get_or-eq_default}
use Rattle.theory.specs.Floor.{floor_div}
use Rattle.theory.specs.Lists.{listed}
use Rattle.theory.proofs.Integers.{up, dn, add_is, neg_is, le_rule, fits_of}
use Rattle.theory.proofs.Wrap.{wrap_id}
use Rattle.refusal.specs.declared.Refusal.{Refusal}
use Rattle.refusal.specs.Outcome.{Answer, told}
use Rattle.integer.specs.Gain.{gain_bits}
use Rattle.integer.specs.MovingSums.{Signal, signal_of, delay, moving_sum, fold, sum_at, scaled_sums}
use Rattle.integer.specs.MovingSums as M
use Rattle.integer.specs.ExactSums.{exact_sum, exact_sums, exact_scaled_sums, least_exact, greatest_exact, AllWithin, ExactWithin, ExactSums, refused_range, no_ends, exact_range}
use Rattle.integer.specs.declared.exact_range.Ends.{Ends}
use Rattle.integer.proofs.Bits.{gain_least}

-- −A ≤ z ≤ B
abbrev Between : ℕ → ℕ → ℤ → Type 0
Between A B z = (dn z ≤ A + up z) × (up z ≤ B + dn z)

abbrev Bounded : ℕ → ℕ → Signal → Type 0
Bounded A B f = (t : ℕ) → Between A B (f t)

between_add : (A B C D : ℕ) (a b : ℤ) → Between A B a → Between C D b → Between (A + C) (B + D) (a +ℤ b)
between_add A B C D a b h l = (omega (arith, add_is a b), omega (arith, add_is a b))

bounded_delay : (A B : ℕ) (f : Signal) → Bounded A B f → Bounded A B (delay f)
bounded_delay A B f h zero = (omega arith, omega arith)
bounded_delay A B f h (suc t) = h t

bounded_moving : (A B r : ℕ) (f : Signal) → Bounded A B f → Bounded (r * A) (r * B) (moving_sum r f)
bounded_moving A B zero f h t = (omega arith, omega arith)
bounded_moving A B (suc r) f h t =
    let s = between_add A B (r * A) (r * B) (f t) (moving_sum r (delay f) t) (h t) (bounded_moving A B r (delay f) (bounded_delay A B f h) t) in
    (omega (arith, s.0, suc-mul r A), omega (arith, s.1, suc-mul r B))

-- n moving sums of length r bring a signal within A and B to within r^n times these
bounded_fold : (n r A B : ℕ) (f : Signal) → Bounded A B f → Bounded (r ^ n * A) (r ^ n * B) (fold n (moving_sum r) f)
bounded_fold zero r A B f h t =
    let e : (x : ℕ) → r ^ 0 * x ≡ x = λ x. ap (λ (m : ℕ). m * x) (pow-zero r) ∙ one-mul x in
    (omega (arith, (h t).0, e A), omega (arith, (h t).1, e B))
bounded_fold (suc n) r A B f h t =
    let e : (x : ℕ) → r ^ n * (r * x) ≡ r ^ suc n * x = λ x. sym (ap (λ (m : ℕ). m * x) (pow-suc r n) ∙ mul_assoc (r ^ n) r x) in
    let s = bounded_fold n r (r * A) (r * B) (moving_sum r f) (bounded_moving A B r f h) t in
    (omega (arith, s.0, e A), omega (arith, s.1, e B))

-- the gain bits cover r^N
gain_covers : (N r : ℕ) → gain_bits N r ≤ 31 → r ^ N ≤ 2 ^ gain_bits N r
gain_covers N r h =
    let a : min (r ^ N) 18446744073709551615 ≤ 2 ^ gain_bits N r = (gain_least N r).reaches in
    let b : 2 ^ gain_bits N r ≤ 2 ^ 31 = pow_mono h in
    let c : 2 ^ gain_bits N r ≤ 2147483648 = b in
    omega (arith, a, c)

-- the range of g bits, 2^g times over, is that of the i32
pub room : (g : ℕ) → g ≤ 31 → 2 ^ g * 2 ^ (31 - g) ≡ 2147483648
room g few =
    let e : g + (31 - g) ≡ 31 = omega arith in
    sym (pow-add 2 g (31 - g)) ∙ ap (λ (n : ℕ). 2 ^ n) e

top : (h m : ℕ) → 0 < h → m * h ≡ m * (h - 1) + m
top zero m l = absurd (omega arith)
top (suc h) m l = let e : suc h - 1 ≡ h = omega arith in mul-suc m h ∙ ap (λ (n : ℕ). m * n + m) (sym e)

module _ (N r : ℕ) (few : gain_bits N r ≤ 31) (w : List ℤ) (range : AllWithin (least_exact (gain_bits N r)) (greatest_exact (gain_bits N r)) w) where
  abbrev g : ℕ
  g = gain_bits N r

  abbrev half : ℕ
  half = 2 ^ (31 - g)

  in_bounds : Bounded half (half - 1) (signal_of w)
  in_bounds t = go (dec_lt t (length w))
    where
      go : Dec (t < length w) → Between half (half - 1) (signal_of w t)
      go (yes h) =
          let l = le_rule (neg_ℤ (pos half)) (signal_of w t) (range t h).0 in
          let u = le_rule (signal_of w t) (pos (half - 1)) (range t h).1 in
          (omega (arith, l, neg_is (pos half)), omega (arith, u))
      go (no h) =
          subst (Between half (half - 1)) (sym (get_or-eq_default w (pos 0) (let q : length w ≤ t = omega arith in q))) (omega arith, omega arith)

  sum_fits : (t : ℕ) → SFits w32 (fold N (moving_sum r) (signal_of w) t)
  sum_fits t =
      let s = bounded_fold N r half (half - 1) (signal_of w) in_bounds t in
      let a : r ^ N * half ≤ 2 ^ g * half = mul-le-mul_right half (gain_covers N r few) in
      let b : r ^ N * (half - 1) ≤ 2 ^ g * (half - 1) = mul-le-mul_right (half - 1) (gain_covers N r few) in
      let p : 0 < half = pow_pos (31 - g) in
      let q : 0 < 2 ^ g = pow_pos g in
      let c : 2 ^ g * half ≡ 2 ^ g * (half - 1) + 2 ^ g = top half (2 ^ g) p in
      fits_of (fold N (moving_sum r) (signal_of w) t) (omega (arith, s.1, room g few, a, b, c), omega (arith, s.0, room g few, a))

  sum_exact : (k : ℕ) → sum_at N r (signal_of w) k ≡ exact_sum N r w k
  sum_exact k = wrap_id w32 (exact_sum N r w k) (sum_fits ((k + 1) * r - 1))

  sums_are : M.sums N r w ≡ exact_sums N r w
  unfolding M.sums exact_sums
  sums_are = ap (listed (length w / r)) (fun_ext sum_exact)

  scaled_are : scaled_sums N r w ≡ exact_scaled_sums N r w
  unfolding scaled_sums exact_scaled_sums
  scaled_are = ap (listed (length w / r)) (fun_ext (λ k. ap (λ (z : ℤ). floor_div z (2 ^ g)) (sum_exact k)))

-- whatever makes the moving sums modulo 2^32 makes them exactly
pub exact_as : (N r : ℕ) (made scaled : List ℤ → List ℤ) → ((w : List ℤ) → made w ≡ M.sums N r w) → ((w : List ℤ) → scaled w ≡ scaled_sums N r w) → ExactSums N r made scaled
exact_as N r made scaled m s few =
    record { sums_exact = λ w range. m w ∙ sums_are N r few w range; scaled_exact = λ w range. s w ∙ scaled_are N r few w range }

-- the ends of the range are those of the i32, scaled by g bits
greatest_part : (g : ℕ) → g ≤ 31 → 2147483647 / 2 ^ g ≡ 2 ^ (31 - g) - 1
greatest_part g few =
    let h = 2 ^ (31 - g) in
    let p : 0 < h = pow_pos (31 - g) in
    let q : 0 < 2 ^ g = pow_pos g in
    let e : h - 1 + 1 ≡ h = omega arith in
    div-eq_of_lt-le (2 ^ g) (omega (arith, room g few, top h (2 ^ g) p, mul_comm (h - 1) (2 ^ g)))
    (subst (λ (n : ℕ). 2147483647 < n * 2 ^ g) (sym e) (omega (arith, room g few, mul_comm h (2 ^ g))))

below_zero : (h : ℕ) → 0 < h → negsuc (h - 1) ≡ neg_ℤ (pos h)
below_zero zero l = absurd (omega arith)
below_zero (suc h) l = let e : suc h - 1 ≡ h = omega arith in ap negsuc e

pub least_scaled : (g : ℕ) → g ≤ 31 → floor_div (negsuc 2147483647) (2 ^ g) ≡ least_exact g
least_scaled g few = ap negsuc (greatest_part g few) ∙ below_zero (2 ^ (31 - g)) (pow_pos (31 - g))

pub greatest_scaled : (g : ℕ) → g ≤ 31 → floor_div (pos 2147483647) (2 ^ g) ≡ greatest_exact g
greatest_scaled g few = ap pos (greatest_part g few)

-- what `exact_range` answers is the range of the clause
pub range_exact :
    (valid : Bool) (N r : ℕ) (made scaled : List ℤ → List ℤ) → (valid ≡ true → ExactSums N r made scaled) → (exact_range valid N r).number ≡ 0
    → ExactWithin (exact_range valid N r).value.least (exact_range valid N r).value.greatest N r made scaled
unfolding exact_range
range_exact false N r made scaled all e = absurd (omega arith)
range_exact true N r made scaled all e = go (dec_le (gain_bits N r) 31) e
  where
    told : Bool → Answer Ends
    told b = cond b (record { number = 0; value = record { least = least_exact (gain_bits N r); greatest = greatest_exact (gain_bits N r) } }) (refused_range 3)

    go : Dec (gain_bits N r ≤ 31) → (told (leb (gain_bits N r) 31)).number ≡ 0 → ExactWithin (told (leb (gain_bits N r) 31)).value.least (told (leb (gain_bits N r) 31)).value.greatest N r made scaled
    go (yes few) e = rw (le-leb (gain_bits N r) 31 few) (all refl few)
    go (no many) e =
        let h : 31 < gain_bits N r = omega arith in
        let z : ◌≡◌ {A = ℕ} 3 0 = rw (lt-leb (gain_bits N r) 31 h) at e in absurd (omega arith)

-- the same of the range of a state that is valid, where there is one
pub range_told : (N r : ℕ) (made scaled : List ℤ → List ℤ) (answer : Result Ends Refusal) → ExactSums N r made scaled → told no_ends answer ≡ exact_range true N r
    → IfOk answer (λ ends. ExactWithin ends.least ends.greatest N r made scaled)
range_told N r made scaled (Err q) all e = search rules
range_told N r made scaled (Ok ends) all e =
    subst⁻¹ (λ (a : Answer Ends). ExactWithin a.value.least a.value.greatest N r made scaled) e
    (range_exact true N r made scaled (λ v. all) (sym (ap (λ (a : Answer Ends). a.number) e)))
