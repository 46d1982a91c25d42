-- How many sums leave a place: so many levels do, by the resampler's pace; the half-band stages make no more of so many values, and the FIR no more of so many sums.
use mathlib.Core.Path.{◌≡◌, refl, sym, ap, ◌∙◌, subst}
use mathlib.Core.Bool.{Bool, true, false, cond}
use mathlib.Core.List.{List}
use Prim.Native.Nat.{ℕ, zero, suc, ◌+◌, ◌-◌, ◌*◌, ◌^◌, ◌≤◌, ◌<◌, min}
use native.Mathlib.Nat.{le_trans, mul-le-mul_left, mul-le-mul_right, mul-le-mul, mul_assoc, pow-suc, pow-le-pow_right}
use native.Mathlib.Omega.{arith}
use borrow.Author.Tests.{eqb-true}
use lib.Dec.{eqb}
use lib.IntN.{ℤ}
use lib.Ieee.{Float, binary32, of_bits, mul, to_unsigned}
use lib.ListN.{length, get_or, length-map}
use mir.Syntax.{w16}
use Rattle.theory.specs.Sections.{outs, each}
use Rattle.theory.specs.Feeds as F
use Rattle.theory.proofs.Sections.{outs_each}
use Rattle.theory.proofs.Batches.{place_before}
use Rattle.theory.proofs.Counting.{few_outs}
use Rattle.q15.specs.Fixed.{cut}
use Rattle.q15.specs.FirDecimator.{fir, fir_valid, fir_valid_in_line, valid_in_line}
use Rattle.q15.specs.declared.fir_decimator.FirDecimator.{FirDecimator}
use Rattle.q15.proofs.FirSteps.{valid_on}
use Rattle.half_band.specs.HbfStream.{hbf_stream}
use Rattle.half_band.specs.declared.hbf_stream.HbfStream.{HbfStream}
use Rattle.float.specs.Level.{level}
use Rattle.float.specs.PolyphaseOpening as R
use Rattle.float.specs.declared.polyphase_resamp.PolyphaseResampF32.{PolyphaseResampF32}
use Rattle.float.proofs.LinePace.{stride_of, leaves_place}
use Rattle.chain.specs.Chain.{from2, from3, from4, from5, from_levels}
use Rattle.chain.specs.inner.Parts.{fir_of, half_band_of, resampler_of, levels_on, fir_on, cut_on}
use Rattle.chain.specs.inner.Batched.{most_sums, Leaves}
use Rattle.chain.specs.inner.Counting.{or_one, stages_left}
use Rattle.chain.specs.declared.fixed.Fixed.{Fixed}
use Rattle.chain.proofs.Sections.{FirGood, fir_left, fir_period, fir_down, HalfGood, half_left, half_period, half_down, some_stages}

-- a FIR that row 15 takes counts down
pub fir_runs : (s : FirDecimator) → valid_in_line s ≡ true → FirGood s
unfolding fir_valid_in_line
fir_runs s v = go (eqb s.tap_count 0) refl v
  where
    go : (b : Bool) → eqb s.tap_count 0 ≡ b → cond b true (fir_valid s.tap_count s.factor s.wait) ≡ true → FirGood s
    go true e h = let z : s.tap_count ≡ 0 = eqb-true s.tap_count 0 e in (omega arith, λ n. absurd (n z))
    go false e h = let o = valid_on s.tap_count s.factor s.wait h in (o.within.few, λ n. (o.waits.0, o.within.factor))

-- a section that maps each value makes as many
each_long : {A B : Type 0} (g : A → B) (xs : List A) → length (outs (each {S = Unit {0}} g) tt xs) ≡ length xs
each_long {A} {B} g xs = ap (λ (l : List B). length l) (outs_each g tt xs) ∙ length-map xs g

module _ (s : FirDecimator) (h : HbfStream) (r : PolyphaseResampF32) (fine : FirGood s) (long : HalfGood h) (valid : R.valid_in_line r ≡ true) (quiet : from5.due r ≡ false) where
  pub leaves :
      (count levels places : ℕ) → 1 ≤ places → levels * 4096 ≤ (places - 1) * stride_of r.phases r.step
      → count ≤ fir_left s + (half_left h - 1 + levels * half_period h) * fir_period s → Leaves from2 (cut_on s h r) count places
  leaves count levels places p few c xs l =
      place_before (each {S = Unit {0}} (cut w16)) from3 tt (fir_on s h r) xs places
      (place_before fir from_levels s (levels_on h r) values places
      (place_before (each {S = Unit {0}} level) from4 tt (h, r) filtered places
      (place_before hbf_stream from5 h r thinned places
      (subst (λ (n : ℕ). length (F.feed from5 r (outs hbf_stream h thinned) n).written < n) one_more
      (leaves_place r (outs hbf_stream h thinned) (places - 1) valid quiet (le_trans (mul-le-mul_right 4096 few_levels) few))))))
    where
      values : List ℤ
      values = outs (each {S = Unit {0}} (cut w16)) tt xs

      filtered : List ℤ
      filtered = outs fir s values

      thinned : List Float
      thinned = outs (each {S = Unit {0}} level) tt filtered

      one_more : suc (places - 1) ≡ places
      one_more = omega arith

      few_values : length filtered ≤ half_left h - 1 + levels * half_period h
      few_values =
          few_outs fir fir_left fir_period FirGood fir_down (half_left h - 1 + levels * half_period h) s values fine
          (let e = each_long (cut w16) xs in omega (arith, e, l, c))

      few_levels : length (outs hbf_stream h thinned) ≤ levels
      few_levels =
          few_outs hbf_stream half_left half_period HalfGood half_down levels h thinned long
          (let e = each_long level filtered in let m = half_down.some_left h long in omega (arith, e, few_values, m))

-- ---- the stages, from the last one up
stages_most : (n k : ℕ) (c : List ℕ) → stages_left n k c ≤ 2 ^ n
stages_most zero k c = omega arith
stages_most (suc n) k c = go (eqb (get_or c k 0) 0) (stages_most n (suc k) c)
  where
    go : (b : Bool) → stages_left n (suc k) c ≤ 2 ^ n → cond b 2 1 + (stages_left n (suc k) c - 1) * 2 ≤ 2 ^ suc n
    go true m = let s = some_stages n (suc k) c in let e = pow-suc 2 n in omega (arith, m, s, e)
    go false m = let s = some_stages n (suc k) c in let e = pow-suc 2 n in omega (arith, m, s, e)

-- so many values make no more than so many levels, in n stages from stage k on
abbrev values_for : ℕ → ℕ → List ℕ → ℕ → ℕ
values_for n k c levels = stages_left n k c - 1 + levels * 2 ^ n

one_stage :
    (n k : ℕ) (c : List ℕ) (levels v b : ℕ) → v ≡ values_for n (suc k) c levels → b ≡ cond (eqb (get_or c k 0) 0) 1 0 → b + v * 2 ≡ values_for (suc n) k c levels
one_stage n k c levels v b ev eb = go (eqb (get_or c k 0) 0) eb
  where
    go : (t : Bool) → b ≡ cond t 1 0 → b + v * 2 ≡ cond t 2 1 + (stages_left n (suc k) c - 1) * 2 - 1 + levels * 2 ^ suc n
    go true e = let p : levels * 2 ^ suc n ≡ levels * 2 ^ n * 2 = ap (λ (x : ℕ). levels * x) (pow-suc 2 n) ∙ sym (mul_assoc levels (2 ^ n) 2) in omega (arith, e, ev, p)
    go false e = let p : levels * 2 ^ suc n ≡ levels * 2 ^ n * 2 = ap (λ (x : ℕ). levels * x) (pow-suc 2 n) ∙ sym (mul_assoc levels (2 ^ n) 2) in omega (arith, e, ev, p)

-- the stages from k on are counted
pub record Counted (n : ℕ) (c : List ℕ) (levels k values : ℕ) : Type 0 where
  pub within : k ≤ n
  pub is : values ≡ values_for (n - k) k c levels

pub next_counted :
    (n : ℕ) (c : List ℕ) (levels k values b : ℕ) → 0 < k → b ≡ cond (eqb (get_or c (k - 1) 0) 0) 1 0 → Counted n c levels k values → Counted n c levels (k - 1) (b + values * 2)
next_counted n c levels k values b p e i =
    let w = i.within in
    let s : n - (k - 1) ≡ suc (n - k) = omega arith in
    let t : suc (k - 1) ≡ k = omega arith in
    record {
      within = omega arith;
      is =
          one_stage (n - k) (k - 1) c levels values b (i.is ∙ ap (λ (j : ℕ). values_for (n - k) j c levels) (sym t)) e
          ∙ ap (λ (m : ℕ). values_for m (k - 1) c levels) (sym s);
    }

pub few_counted : (n : ℕ) (c : List ℕ) (levels k values : ℕ) → n ≤ 5 → levels ≤ most_sums → Counted n c levels k values → values ≤ 4127
few_counted n c levels k values h l i =
    let m : ℕ = n - k in
    let a : stages_left m k c ≤ 2 ^ m = stages_most m k c in
    let b : 2 ^ m ≤ 2 ^ 5 = pow-le-pow_right {n = 2} (omega arith) (let q : m ≤ 5 = omega arith in q) in
    let d : levels * 2 ^ m ≤ 128 * 32 = mul-le-mul l b in
    omega (arith, i.is, a, b, d)

pub all_counted : (n : ℕ) (c : List ℕ) (levels k values : ℕ) → k ≤ 0 → Counted n c levels k values → values ≡ values_for n 0 c levels
all_counted n c levels k values z i =
    let e : k ≡ 0 = omega arith in
    let f : n - 0 ≡ n = omega arith in
    i.is ∙ ap (λ (j : ℕ). values_for (n - j) j c levels) e ∙ ap (λ (m : ℕ). values_for m 0 c levels) f

-- ---- the sums of a block, as the code works them out
module _ (f : Fixed) (wait : ℕ) (counts : List ℕ) (places stride levels values first period n : ℕ) where
  pub record Worked : Type 0 where
    pub long : length counts ≡ 5
    pub stride_is : stride ≡ cond (eqb f.settings.phases 0) 4096 (to_unsigned 64 (mul binary32 f.settings.step (of_bits binary32 0x4580_0000)) - 1)
    pub levels_fit : levels * 4096 ≤ (places - 1) * stride
    pub values_are : values ≡ stages_left (min f.settings.depth 5) 0 counts - 1 + levels * 2 ^ min f.settings.depth 5
    pub first_is : first ≡ min (or_one f.tap_count wait) most_sums
    pub period_is : period ≡ min (or_one f.tap_count f.settings.factor) most_sums
    pub are : n ≡ min (first + values * period) most_sums

  module _ (w : Worked) (mu : Float) (taps fir_delay : List ℤ) (delays held delay prototype : List Float) where
    abbrev s : FirDecimator
    s = fir_of f wait taps fir_delay

    abbrev h : HbfStream
    h = half_band_of f delays held counts

    abbrev r : PolyphaseResampF32
    r = resampler_of f mu delay prototype

    stride_of_lem : stride ≡ stride_of f.settings.phases f.settings.step
    unfolding stride_of
    stride_of_lem = w.stride_is

    pub sums_leave :
        fir_valid_in_line f.tap_count f.settings.factor wait ≡ true → R.valid_in_line r ≡ true → from5.due r ≡ false → 1 ≤ places
        → Leaves from2 (cut_on s h r) n places
    sums_leave fv v d p =
        let good : FirGood s = fir_runs s fv in
        let short : values * period ≤ values * fir_period s = mul-le-mul_left values (let e = w.period_is in let q : period ≤ fir_period s = omega arith in q) in
        let e = w.first_is in
        let a = w.are in
        leaves s h r good w.long v d n levels places p (subst (λ (j : ℕ). levels * 4096 ≤ (places - 1) * j) stride_of_lem w.levels_fit)
        (subst (λ (k : ℕ). n ≤ fir_left s + k * fir_period s) w.values_are (omega (arith, a, e, short)))
