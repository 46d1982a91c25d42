-- Section 1 of either kind, the FIR and the half-band stages each make a value of every so many, whatever the values: each counts down from its state. The half-band stages
-- are a binary counter, each stage a bit of it.
use mathlib.Core.Path.{◌≡◌, refl, sym, ap, ap₂, ◌∙◌}
use mathlib.Core.Bool.{Bool, true, false, cond}
use mathlib.Core.List.{List}
use Rattle.std.specs.Prelude.{Option, None, Some}
use Prim.Native.Nat.{ℕ, zero, suc, ◌+◌, ◌-◌, ◌*◌, ◌^◌, ◌≤◌, ◌<◌, min}
use native.Mathlib.Nat.{pow-suc}
use native.Mathlib.Omega.{arith}
use borrow.Author.Tests.{leb-true, leb-false, le-leb, lt-leb, le-ltb, ltb-true, ltb-false, eqb-false}
use lib.Dec.{eqb, leb, ltb}
use lib.IntN.{ℤ}
use lib.Ieee.{Float}
use lib.ListN.{length, get_or, set, length-set}
use lib.Pow.{pow_pos}
use lib.Seq.{get_or-set_same, get_or-set_other}
use Rattle.integer.specs.CicDecimator.{scaled_by, waits}
use Rattle.integer.specs.Gain.{gain_bits}
use Rattle.nonrecursive.specs.EitherKind.{Thinner, fine, valid_at}
use Rattle.nonrecursive.specs.EitherKind as E
use Rattle.nonrecursive.proofs.EitherKind.{either_kept, either_below, either_answers, either_counted}
use Rattle.q15.specs.FirDecimator.{fir, fir_next, fir_out, most_taps}
use Rattle.q15.specs.declared.fir_decimator.FirDecimator.{FirDecimator}
use Rattle.half_band.specs.HbfStream.{Half, Passed, half, stage_in, with_stage, through, stream, hbf_stream}
use Rattle.half_band.specs.HbfTaps.{stage_taps, decimation}
use Rattle.half_band.specs.Limits.{most_depth}
use Rattle.half_band.specs.declared.hbf_stream.HbfStream.{HbfStream}
use Rattle.half_band.specs.inner.FiveStages.{decimation_five}
use Rattle.half_band.proofs.Passing.{none_through}
use Rattle.half_band.proofs.Streaming.{depth_next}
use Rattle.std.proofs.lemmas.Bool.{and_parts}
use Rattle.chain.specs.inner.Counting.{or_one, stages_left}
use Rattle.theory.proofs.Counting.{came, CountsDown}

-- a choice, seen
pub by_cond : {A B : Type 0} (f : A → B) (b : Bool) (x y : A) → f (cond b x y) ≡ cond b (f x) (f y)
by_cond f true x y = refl
by_cond f false x y = refl

either : {A : Type 0} (P : A → Type 0) (b : Bool) (x y : A) → (b ≡ true → P x) → (b ≡ false → P y) → P (cond b x y)
either P true x y p q = p refl
either P false x y p q = q refl

same_both : {A : Type 0} (b : Bool) (x : A) → cond b x x ≡ x
same_both true x = refl
same_both false x = refl

-- ---- section 1 of either kind: r − counter samples, the last of which completes a sum. Of a state that 15 refuses sums of neighbours may come at other samples
abbrev pub ThinGood : Thinner → Type 0
ThinGood t = fine t ≡ true

abbrev pub thin_left : Thinner → ℕ
thin_left t = t.cic.r - t.cic.sample_counter

abbrev pub thin_period : Thinner → ℕ
thin_period t = t.cic.r

thin_below : (t : Thinner) → ThinGood t → t.cic.sample_counter < t.cic.r
unfolding fine
thin_below t g =
    either_below t.kind t.cic.stages t.cic.r t.cic.sample_counter (and_parts (valid_at t.kind t.cic.stages t.cic.r t.cic.sample_counter) _ g).0

thin_left_lem : (r k : ℕ) → k < r → cond (ltb (k + 1) r) (r - (k + 1)) (r - 0) ≡ cond (leb (r - k) 1) r (r - k - 1)
thin_left_lem r k g = go (ltb (k + 1) r) refl
  where
    go : (b : Bool) → ltb (k + 1) r ≡ b → cond b (r - (k + 1)) (r - 0) ≡ cond (leb (r - k) 1) r (r - k - 1)
    go true e = let l = ltb-true (k + 1) r e in rw (lt-leb (r - k) 1 (omega arith)) (let q : r - (k + 1) ≡ r - k - 1 = omega arith in q)
    go false e = let l = ltb-false (k + 1) r e in rw (le-leb (r - k) 1 (omega arith)) (let q : r - 0 ≡ r = omega arith in q)

thin_out : (r k g : ℕ) (y : ℤ) → k < r → came (scaled_by g (cond (ltb (k + 1) r) None (Some y))) ≡ leb (r - k) 1
thin_out r k g y h = go (ltb (k + 1) r) refl
  where
    go : (b : Bool) → ltb (k + 1) r ≡ b → came (scaled_by g (cond b None (Some y))) ≡ leb (r - k) 1
    go true e = let l = ltb-true (k + 1) r e in sym (lt-leb (r - k) 1 (omega arith))
    go false e = let l = ltb-false (k + 1) r e in sym (le-leb (r - k) 1 (omega arith))

pub thin_down : CountsDown E.either thin_left thin_period ThinGood
unfolding E.either
thin_down =
    record {
      good_next = either_kept;
      some_left = λ t g. let l = thin_below t g in omega arith;
      some_period = λ t g. let l = thin_below t g in omega arith;
      period_kept = λ t x g. (either_counted t x).factor;
      left_next = λ t x g.
          let c = either_counted t x in
          ap₂ {C = ℕ} (λ (r k : ℕ). r - k) c.factor c.counter
          ∙ by_cond (λ (k : ℕ). t.cic.r - k) (waits t.cic) _ _
          ∙ thin_left_lem t.cic.r t.cic.sample_counter (thin_below t g);
      out_same = λ t x g.
          let n = gain_bits t.cic.stages t.cic.r in
          let y = either_answers t x g in
          ap (λ (o : Option ℤ). came (scaled_by n o)) y.1 ∙ thin_out t.cic.r t.cic.sample_counter n y.0 (thin_below t g);
    }

-- ---- the FIR: its wait; off, every value
abbrev pub FirGood : FirDecimator → Type 0
FirGood s = (s.tap_count ≤ most_taps) × ((s.tap_count ≡ 0 → ⊥) → (1 ≤ s.wait) × (1 ≤ s.factor))

abbrev pub fir_left : FirDecimator → ℕ
fir_left s = or_one s.tap_count s.wait

abbrev pub fir_period : FirDecimator → ℕ
fir_period s = or_one s.tap_count s.factor

-- what is so of 1, and of n where the FIR is on
pub or_one_lem : (P : ℕ → Type 0) (T n : ℕ) → P 1 → ((T ≡ 0 → ⊥) → P n) → P (or_one T n)
or_one_lem P T n a b = either P (eqb T 0) 1 n (λ e. a) (λ e. b (eqb-false T 0 e))

left_by :
    (off many : Bool) (w D : ℕ) → many ≡ false
    → cond off (cond off 1 w) (cond many (cond off 1 w) (cond (leb w 1) (cond off 1 D) (cond off 1 (w - 1)))) ≡ cond (leb (cond off 1 w) 1) (cond off 1 D) (cond off 1 w - 1)
left_by true many w D e = refl
left_by false many w D e = rw e refl

module _ (s : FirDecimator) (x : ℤ) (g : FirGood s) where
  abbrev T : ℕ
  T = s.tap_count

  few : ltb most_taps T ≡ false
  few = le-ltb most_taps T g.0

  fir_good : FirGood (fir_next s x)
  unfolding fir_next
  fir_good =
      either FirGood (eqb T 0) _ _ (λ e. g)
      (λ e. either FirGood (ltb most_taps T) _ _ (λ f. g)
      (λ f. either FirGood (leb s.wait 1) _ _ (λ w. (g.0, λ n. ((g.1 n).1, (g.1 n).1))) (λ w. (g.0, λ n. (let l = leb-false s.wait 1 w in omega arith, (g.1 n).1)))))

  fir_period_lem : fir_period (fir_next s x) ≡ fir_period s
  unfolding fir_next
  fir_period_lem =
      by_cond fir_period (eqb T 0) s _
      ∙ ap (cond (eqb T 0) (fir_period s))
      (by_cond fir_period (ltb most_taps T) s _ ∙ ap (cond (ltb most_taps T) (fir_period s)) (by_cond fir_period (leb s.wait 1) _ _ ∙ same_both (leb s.wait 1) (fir_period s)) ∙ same_both (ltb most_taps T) (fir_period s))
      ∙ same_both (eqb T 0) (fir_period s)

  fir_left_lem : fir_left (fir_next s x) ≡ cond (leb (fir_left s) 1) (fir_period s) (fir_left s - 1)
  unfolding fir_next
  fir_left_lem =
      by_cond fir_left (eqb T 0) s _
      ∙ ap (cond (eqb T 0) (fir_left s)) (by_cond fir_left (ltb most_taps T) s _ ∙ ap (cond (ltb most_taps T) (fir_left s)) (by_cond fir_left (leb s.wait 1) _ _))
      ∙ left_by (eqb T 0) (ltb most_taps T) s.wait s.factor few

  fir_out_lem : came (fir_out s x) ≡ leb (fir_left s) 1
  unfolding fir_out
  fir_out_lem = go (eqb T 0) refl
    where
      due : (b : Bool) (y : ℤ) → came (cond b (Some y) None) ≡ b
      due true y = refl
      due false y = refl

      go : (b : Bool) → eqb T 0 ≡ b → came (fir_out s x) ≡ leb (fir_left s) 1
      go true e = rw e refl
      go false e = rw (e, few) (due (leb s.wait 1) _)

pub fir_down : CountsDown fir fir_left fir_period FirGood
fir_down =
    record {
      good_next = fir_good;
      some_left = λ s g. or_one_lem (λ k. 1 ≤ k) s.tap_count s.wait (omega arith) (λ n. (g.1 n).0);
      some_period = λ s g. or_one_lem (λ k. 1 ≤ k) s.tap_count s.factor (omega arith) (λ n. (g.1 n).1);
      period_kept = fir_period_lem;
      left_next = fir_left_lem;
      out_same = fir_out_lem;
    }

-- ---- the half-band stages
pub some_stages : (n k : ℕ) (c : List ℕ) → 1 ≤ stages_left n k c
some_stages zero k c = omega arith
some_stages (suc n) k c = go (eqb (get_or c k 0) 0)
  where
    go : (b : Bool) → 1 ≤ cond b 2 1 + (stages_left n (suc k) c - 1) * 2
    go true = omega arith
    go false = omega arith

-- a count before stage k changes nothing of them
stages_other : (n k j : ℕ) (c : List ℕ) (v : ℕ) → j < k → stages_left n k (set c j v) ≡ stages_left n k c
stages_other zero k j c v h = refl
stages_other (suc n) k j c v h =
    ap₂ {C = ℕ} (λ (a b : ℕ). cond (eqb a 0) 2 1 + (b - 1) * 2) (get_or-set_other c j k v 0 (λ e. omega arith)) (stages_other n (suc k) j c v (omega arith))

module _ (taps : ℕ → List Float) where
  -- what n stages from stage k on do
  pub record Down (n k : ℕ) (s : HbfStream) (p : Passed) : Type 0 where
    pub long : length p.state.counts ≡ length s.counts
    pub below : (j : ℕ) → j < k → get_or p.state.counts j 0 ≡ get_or s.counts j 0
    pub left : stages_left n k p.state.counts ≡ cond (leb (stages_left n k s.counts) 1) (2 ^ n) (stages_left n k s.counts - 1)
    pub out : came p.out ≡ leb (stages_left n k s.counts) 1

  -- a stage that holds the value, or makes v of the pair
  stage_by :
      (n k : ℕ) (s : HbfStream) → k < length s.counts → (b : Bool) → eqb (get_or s.counts k 0) 0 ≡ b → (v : Float) (kept made : Half) → kept.count ≡ 1 → made.count ≡ 0
      → ((v : Float) (s' : HbfStream) → length s'.counts ≡ length s.counts → Down n (suc k) s' (through taps n (suc k) (Some v) s'))
      → Down (suc n) k s (through taps n (suc k) (cond b None (Some v)) (with_stage taps k (cond b kept made) s))
  unfolding with_stage
  stage_by n k s h true e v kept made ek em ih =
      rw (none_through taps n (suc k) (with_stage taps k kept s), ek)
      (record {
        long = length-set s.counts k 1;
        below = λ j l. get_or-set_other s.counts k j 1 0 (λ q. omega arith);
        left = holds;
        out = rw e (sym (lt-leb (2 + (L - 1) * 2) 1 (omega arith)));
      })
    where
      L : ℕ
      L = stages_left n (suc k) s.counts

      holds : stages_left (suc n) k (set s.counts k 1) ≡ cond (leb (stages_left (suc n) k s.counts) 1) (2 ^ suc n) (stages_left (suc n) k s.counts - 1)
      holds =
          rw (e, lt-leb (2 + (L - 1) * 2) 1 (omega arith), get_or-set_same s.counts k 1 0 h, stages_other n (suc k) k s.counts 1 (omega arith))
          (let q : 1 + (L - 1) * 2 ≡ 2 + (L - 1) * 2 - 1 = omega arith in q)
  stage_by n k s h false e v kept made ek em ih = rw em (go (ih v s' (length-set s.counts k 0)))
    where
      s' : HbfStream
      s' = with_stage taps k (record { window = made.window; held = made.held; count = 0 }) s

      L : ℕ
      L = stages_left n (suc k) s.counts

      other : stages_left n (suc k) (set s.counts k 0) ≡ L
      other = stages_other n (suc k) k s.counts 0 (omega arith)

      test : leb (1 + (L - 1) * 2) 1 ≡ leb L 1
      test = at (leb L 1) refl
        where
          at : (b : Bool) → leb L 1 ≡ b → leb (1 + (L - 1) * 2) 1 ≡ b
          at true q = let l = leb-true L 1 q in le-leb (1 + (L - 1) * 2) 1 (omega arith)
          at false q = let l = leb-false L 1 q in lt-leb (1 + (L - 1) * 2) 1 (omega arith)

      carried : (b : Bool) → leb L 1 ≡ b → (m : ℕ) → m ≡ cond b (2 ^ n) (L - 1) → 2 + (m - 1) * 2 ≡ cond b (2 ^ suc n) (1 + (L - 1) * 2 - 1)
      carried true q m em = let p = pow_pos n in let z : 2 + (m - 1) * 2 ≡ 2 ^ n * 2 = omega arith in z ∙ sym (pow-suc 2 n)
      carried false q m em = let l = leb-false L 1 q in omega arith

      go : {p : Passed} → Down n (suc k) s' p → Down (suc n) k s p
      go {p} d =
          let zeroed : get_or p.state.counts k 0 ≡ 0 = d.below k (omega arith) ∙ get_or-set_same s.counts k 0 0 h in
          let next : stages_left n (suc k) p.state.counts ≡ cond (leb L 1) (2 ^ n) (L - 1) = d.left ∙ ap (λ (z : ℕ). cond (leb z 1) (2 ^ n) (z - 1)) other in
          record {
            long = d.long ∙ length-set s.counts k 0;
            below = λ j l. d.below j (omega arith) ∙ get_or-set_other s.counts k j 0 0 (λ q. omega arith);
            left = rw (e, zeroed, test) (carried (leb L 1) refl (stages_left n (suc k) p.state.counts) next);
            out = rw (e, test) (d.out ∙ ap (λ (z : ℕ). leb z 1) other);
          }

  pub through_down : (n k : ℕ) (x : Float) (s : HbfStream) → n + k ≤ length s.counts → Down n k s (through taps n k (Some x) s)
  unfolding through half stage_in
  through_down zero k x s h = record { long = refl; below = λ j l. refl; left = refl; out = refl }
  through_down (suc n) k x s h =
      stage_by n k s (omega arith) (eqb (get_or s.counts k 0) 0) refl _ _ _ refl refl (λ v s' e. through_down n (suc k) v s' (omega arith))

abbrev pub HalfGood : HbfStream → Type 0
HalfGood s = length s.counts ≡ most_depth

abbrev pub stages : HbfStream → ℕ
stages s = min s.depth most_depth

abbrev pub half_left : HbfStream → ℕ
half_left s = stages_left (stages s) 0 s.counts

abbrev pub half_period : HbfStream → ℕ
half_period s = 2 ^ stages s

half_all : (s : HbfStream) (x : Float) → HalfGood s → Down (stage_taps decimation) (stages s) 0 s (through (stage_taps decimation) (stages s) 0 (Some x) s)
half_all s x g = through_down (stage_taps decimation) (stages s) 0 x s (let d : ℕ = s.depth in omega (arith, g))

half_depth : (s : HbfStream) (x : Float) → (hbf_stream.next s x).depth ≡ s.depth
unfolding hbf_stream
half_depth s x = depth_next (stage_taps decimation) decimation_five s x

pub half_down : CountsDown hbf_stream half_left half_period HalfGood
half_down =
    record {
      good_next = λ s x g. long_next s x g;
      some_left = λ s g. some_stages (stages s) 0 s.counts;
      some_period = λ s g. pow_pos (stages s);
      period_kept = λ s x g. ap (λ (d : ℕ). 2 ^ min d most_depth) (half_depth s x);
      left_next = λ s x g. ap (λ (d : ℕ). stages_left (min d most_depth) 0 (hbf_stream.next s x).counts) (half_depth s x) ∙ next s x g;
      out_same = λ s x g. out s x g;
    }
  where
    long_next : (s : HbfStream) (x : Float) → HalfGood s → HalfGood (hbf_stream.next s x)
    long_next s x g = unfold hbf_stream stream in (half_all s x g).long ∙ g

    next : (s : HbfStream) (x : Float) → HalfGood s → stages_left (stages s) 0 (hbf_stream.next s x).counts ≡ cond (leb (half_left s) 1) (half_period s) (half_left s - 1)
    next s x g = unfold hbf_stream stream in (half_all s x g).left

    out : (s : HbfStream) (x : Float) → HalfGood s → came (hbf_stream.out s x) ≡ leb (half_left s) 1
    out s x g = unfold hbf_stream stream in (half_all s x g).out
