-- A chunk of whole frames from the place 0: what the halvings make of it one after the other is what the samples make one by one. The first halving reads the samples,
-- and the others what it hands on; without a halving the samples are the sums.
use mathlib.Core.Path.{◌≡◌, sym, ap, ap₂, ◌∙◌, subst}
use mathlib.Core.Bool.{true}
use mathlib.Core.List.{List, ◌++◌, map}
use Prim.Native.Nat.{ℕ, suc, ◌+◌, ◌-◌, ◌*◌, ◌/◌, ◌%◌, ◌^◌, ◌≤◌, ◌<◌, min}
use native.Mathlib.Nat.{mod-eq_of_lt, mul-le-mul, suc-mul, min-eq_left}
use native.Mathlib.Omega.{arith}
use borrow.Rule.Slice.PartMut.{mid_of, put_mid}
use lib.Arith.{digits_mod}
use lib.IntN.{ℤ}
use lib.ListN.{length, take, drop, length-drop, length-map}
use lib.Pow.{pow_pos}
use lib.Seq.{take_at}
use mir.Syntax.{w32}
use Rattle.theory.specs.Wrap.{wrap}
use Rattle.theory.specs.Sections.{state, outs}
use Rattle.integer.proofs.Within.{stages_within, factor_within}
use Rattle.nonrecursive.specs.NonrecursiveDecimator.{halvings, power_of_two, nonrecursive_of, valid_at, nonrecursive}
use Rattle.nonrecursive.specs.inner.Tape.{Lined, pairs, lined}
use Rattle.nonrecursive.proofs.Halvings.{power_is, few_halvings, halvings_none, halvings_half}
use Rattle.nonrecursive.proofs.NonrecursiveStreaming.{Sound, sound, valid_parts}
use Rattle.nonrecursive.proofs.StageByStage.{pairs_long, pairs_count, thinner, frames, place_after}
use Rattle.nonrecursive.proofs.Framing.{as_thinner, state_thinner}
use Rattle.nonrecursive.proofs.ThinSteps.{part_is, put_is}
use Rattle.nonrecursive.proofs.TapeSteps.{half_power, pairs_of}

module _ (N r : ℕ) (ok : valid_at N r 0 ≡ true) where
  pub numbers : Sound N r
  numbers = sound N r (valid_parts N r 0 ok).0

  abbrev m : ℕ
  m = halvings r

  pub power : r ≡ 2 ^ m
  power = power_is r numbers.power

  pub positive : 0 < r
  positive = (factor_within r numbers.factor).0

  -- the neighbours that the halvings have
  pub enough : m * N ≤ 96
  enough =
      let f : m ≤ 12 = few_halvings m (subst (λ (q : ℕ). q ≤ 4096) power (factor_within r numbers.factor).1) in
      let h : m * N ≤ 12 * 8 = mul-le-mul f (stages_within N numbers.stages).1 in
      omega arith

  module _ (s v : List ℤ) (count : ℕ) (long : length s ≡ 96) (whole : length v ≡ count * r) where
    abbrev w : List ℤ
    w = map (wrap w32) v

    size : length w ≡ count * 2 ^ m
    size = length-map v (wrap w32) ∙ whole ∙ ap (λ (n : ℕ). count * n) power

    fits : m * N ≤ length s
    fits = omega (arith, enough, long)

    pub chunk_outs : outs nonrecursive (nonrecursive_of N r s 0) v ≡ (lined N m s w).vals
    chunk_outs = as_thinner N r power v s 0 ∙ (frames N m count w s size fits).0

    place : (state (thinner N m) (s, 0) w).1 ≡ 0
    place =
        let z : 0 % 2 ^ m ≡ 0 = mod-eq_of_lt (pow_pos m) in
        let e : 0 + length w ≡ count * 2 ^ m + 0 = omega (arith, size) in
        sym (ap (λ (n : ℕ). (state (thinner N m) (s, n) w).1) z) ∙ place_after N m w s 0 ∙ ap (λ (n : ℕ). n % 2 ^ m) e ∙ digits_mod count (pow_pos m)

    pub chunk_state : nonrecursive_of N r (lined N m s w).state 0 ≡ state nonrecursive (nonrecursive_of N r s 0) v
    chunk_state =
        sym (state_thinner N r power v s 0
        ∙ ap (λ (l : List ℤ). nonrecursive_of N r l (state (thinner N m) (s, 0) w).1) (frames N m count w s size fits).1
        ∙ ap (nonrecursive_of N r (lined N m s w).state) place)

    -- without a halving
    pub none_outs : r < 2 → w ≡ outs nonrecursive (nonrecursive_of N r s 0) v
    unfolding lined
    none_outs h = sym (chunk_outs ∙ ap (λ (k : ℕ). (lined N k s w).vals) (halvings_none r h))

    pub none_state : r < 2 → nonrecursive_of N r s 0 ≡ state nonrecursive (nonrecursive_of N r s 0) v
    unfolding lined
    none_state h = sym (ap (λ (k : ℕ). nonrecursive_of N r (lined N k s w).state 0) (halvings_none r h)) ∙ chunk_state

  module _ (more : 2 ≤ r) where
    small : r < 2 ^ 64
    small = omega (arith, (factor_within r numbers.factor).1)

    pub halved_power : power_of_two (r / 2) ≡ true
    halved_power = half_power r numbers.power more small

    pub halved_pairs : (count : ℕ) → count * (r / 2) * 2 ≡ count * r
    halved_pairs count = pairs_of r numbers.power more small count

    one_more : m ≡ suc (halvings (r / 2))
    one_more = halvings_half r more small

    pub halved_enough : N + halvings (r / 2) * N ≤ 96
    halved_enough =
        let e : suc (halvings (r / 2)) * N ≤ 96 = rw one_more at enough in
        omega (arith, suc-mul (halvings (r / 2)) N)

    -- as the code leaves it: the first halving made s₁ and d₁, which stand in front of the tape
    module _ (s v : List ℤ) (count : ℕ) (long : length s ≡ 96) (whole : length v ≡ count * r) (s₁ d₁ rest : List ℤ) where
      abbrev bits : List ℤ
      bits = map (wrap w32) v

      abbrev left : Lined
      left = lined N (halvings (r / 2)) (mid_of N (96 - N) s₁) (take (count * (r / 2)) (d₁ ++ rest))

      module _ (s_is : s₁ ≡ (pairs N s bits).state) (d_is : d₁ ≡ (pairs N s bits).vals) where
        halved_long : length s₁ ≡ 96
        halved_long = ap length s_is ∙ pairs_long N bits s ∙ long

        handed_long : length d₁ ≡ count * (r / 2)
        handed_long = let p = halved_pairs count in omega (arith, ap length d_is, pairs_count N bits s, length-map v (wrap w32), whole)

        least : N ≡ min N (length s₁)
        least = sym (min-eq_left (omega (arith, halved_enough, halved_long)))

        part : mid_of N (96 - N) s₁ ≡ drop N s₁
        part = ap (λ (n : ℕ). mid_of N (n - N) s₁) (sym halved_long) ∙ part_is N s₁ N least

        pub part_has : halvings (r / 2) * N ≤ length (mid_of N (96 - N) s₁)
        part_has = omega (arith, ap length part, length-drop N s₁, halved_long, halved_enough)

        put : (y : List ℤ) → put_mid N (96 - N) s₁ y ≡ take N s₁ ++ y
        put y = ap (λ (n : ℕ). put_mid N (n - N) s₁ y) (sym halved_long) ∙ put_is N s₁ N least y

        abbrev goes_on : List ℤ → List ℤ → Lined
        goes_on a d = record { state = take N a ++ (lined N (halvings (r / 2)) (drop N a) d).state; vals = (lined N (halvings (r / 2)) (drop N a) d).vals }

        left_is : left ≡ lined N (halvings (r / 2)) (drop N s₁) d₁
        left_is = ap₂ (lined N (halvings (r / 2))) part (take_at d₁ rest (count * (r / 2)) handed_long)

        all_is : lined N m s bits ≡ goes_on s₁ d₁
        unfolding lined
        all_is = ap (λ (k : ℕ). lined N k s bits) one_more ∙ sym (ap₂ goes_on s_is d_is)

        pub left_outs : left.vals ≡ outs nonrecursive (nonrecursive_of N r s 0) v
        left_outs = ap (λ (q : Lined). q.vals) left_is ∙ sym (chunk_outs s v count long whole ∙ ap (λ (q : Lined). q.vals) all_is)

        pub left_state : nonrecursive_of N r (put_mid N (96 - N) s₁ left.state) 0 ≡ state nonrecursive (nonrecursive_of N r s 0) v
        left_state =
            ap (λ (l : List ℤ). nonrecursive_of N r l 0)
            (put left.state ∙ ap (λ (q : Lined). take N s₁ ++ q.state) left_is ∙ sym (ap (λ (q : Lined). q.state) all_is))
            ∙ chunk_state s v count long whole
