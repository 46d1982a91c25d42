-- The decimator is the halvings of its factor, over samples modulo 2^32, and makes a sum of every r samples at most.
use mathlib.Core.Path.{◌≡◌, refl, ap, ◌∙◌, subst}
use mathlib.Core.List.{List, [], ◌∷◌, map}
use Rattle.std.specs.Prelude.{Option, None, Some}
use Prim.Native.Nat.{ℕ, suc, ◌+◌, ◌*◌, ◌^◌, ◌≤◌, ◌<◌}
use native.Mathlib.Nat.{suc-mul, zero-mul}
use native.Mathlib.Decide.{dec_lt}
use native.Mathlib.Omega.{arith}
use borrow.Author.Tests.{lt-ltb, le-ltb}
use lib.IntN.{ℤ}
use lib.ListN.{length}
use mir.Syntax.{w32}
use Rattle.theory.specs.Wrap.{wrap}
use Rattle.theory.specs.Sections.{onto, state, outs}
use Rattle.nonrecursive.specs.NonrecursiveDecimator.{halvings, nonrecursive_of, next_place, thinned, nonrecursive}
use Rattle.nonrecursive.specs.NonrecursiveDecimator as D
use Rattle.nonrecursive.specs.declared.nonrecursive_decimator.NonrecursiveDecimator.{NonrecursiveDecimator}
use Rattle.nonrecursive.proofs.StageByStage.{thinner, waits_out}

module _ (N r : ℕ) (whole : r ≡ 2 ^ halvings r) where
  abbrev bits : List ℤ → List ℤ
  bits w = map (wrap w32) w

  abbrev of_pair : List ℤ × ℕ → NonrecursiveDecimator
  of_pair p = nonrecursive_of N r p.0 p.1

  pub as_thinner : (w s : List ℤ) (p : ℕ) → outs nonrecursive (nonrecursive_of N r s p) w ≡ outs (thinner N (halvings r)) (s, p) (bits w)
  unfolding nonrecursive
  as_thinner [] s p = refl
  as_thinner (x ∷ w) s p =
      let t = thinned N (halvings r) s p (wrap w32 x) in
      ap (onto t.out)
      (ap (λ (n : ℕ). outs nonrecursive (nonrecursive_of N r t.state (next_place p n)) w) whole
      ∙ as_thinner w t.state (next_place p (2 ^ halvings r)))

  pub state_thinner : (w s : List ℤ) (p : ℕ) → state nonrecursive (nonrecursive_of N r s p) w ≡ of_pair (state (thinner N (halvings r)) (s, p) (bits w))
  unfolding nonrecursive
  state_thinner [] s p = refl
  state_thinner (x ∷ w) s p =
      let t = thinned N (halvings r) s p (wrap w32 x) in
      ap (λ (n : ℕ). state nonrecursive (nonrecursive_of N r t.state (next_place p n)) w) whole
      ∙ state_thinner w t.state (next_place p (2 ^ halvings r))

  pub few : (w s : List ℤ) (p : ℕ) → p < r → length (outs nonrecursive (nonrecursive_of N r s p) w) * r ≤ p + length w
  unfolding nonrecursive
  few [] s p below = omega (arith, zero-mul r)
  few (x ∷ w) s p below = go (dec_lt (p + 1) r) (λ s' q h. few w s' q h)
    where
      t : D.Thinned
      t = thinned N (halvings r) s p (wrap w32 x)

      rest : ℕ → List ℤ
      rest q = outs nonrecursive (nonrecursive_of N r t.state q) w

      waiting : p + 1 < r → t.out ≡ None
      waiting l = waits_out N (halvings r) s p (wrap w32 x) (subst (λ (q : ℕ). p + 1 < q) whole l)

      go :
          Dec (p + 1 < r) → ((s' : List ℤ) (q : ℕ) → q < r → length (outs nonrecursive (nonrecursive_of N r s' q) w) * r ≤ q + length w)
          → length (onto t.out (rest (next_place p r))) * r ≤ p + suc (length w)
      go (yes l) ih = let more = ih t.state (p + 1) l in rw (waiting l, lt-ltb (p + 1) r l) (omega (arith, more))
      go (no l) ih = rw (le-ltb (p + 1) r (omega arith)) (of t.out (ih t.state 0 (omega arith)))
        where
          of : (o : Option ℤ) → length (rest 0) * r ≤ 0 + length w → length (onto o (rest 0)) * r ≤ p + suc (length w)
          of None h = omega (arith, h)
          of (Some y) h = omega (arith, h, suc-mul (length (rest 0)) r)
