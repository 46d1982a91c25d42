-- The clock that a plan starts from is that of the line that its opening makes, and it runs; and the plan's number, by the opening's and by the lists.
use mathlib.Core.Path.{◌≡◌, refl, sym, ap, ap₂, ◌∙◌}
use mathlib.Core.Bool.{Bool, true, false, cond, ◌&&◌}
use mathlib.Core.List.{List, map}
use Prim.Native.Nat.{ℕ, zero, suc, ◌+◌, ◌-◌, ◌*◌, ◌^◌, ◌≤◌, ◌<◌, min}
use native.Mathlib.Nat.{pow-suc, mul-pos}
use native.Mathlib.Omega.{arith}
use borrow.Author.Tests.{eqb-true, leb-true}
use lib.Dec.{eqb, leb}
use lib.IntN.{ℤ}
use lib.Ieee.{Float}
use lib.ListN.{length, get_or, replicate}
use lib.Pow.{pow_pos}
use Rattle.refusal.specs.declared.Moved.{Moved}
use Rattle.refusal.specs.Rows.{first_of}
use Rattle.integer.specs.Limits.{factor_ok}
use Rattle.nonrecursive.proofs.EitherKind.{either_opens}
use Rattle.q15.specs.FirDecimator as Q
use Rattle.q15.proofs.FirSteps.{settings_in_lem, line_settings}
use Rattle.float.specs.F32.{one32}
use Rattle.float.specs.PolyphaseOpening as R
use Rattle.line.specs.Outputs.{Opening}
use Rattle.line.specs.Openings.{opened, opening_number_of, resampler_fresh, fresh}
use Rattle.chain.specs.declared.settings.Settings.{Settings}
use Rattle.line.specs.declared.gauge_line.Line.{Line}
use Rattle.std.proofs.lemmas.Bool.{and_parts}
use Rattle.line.proofs.Openings.{Accepted}
use Rattle.line.proofs.Demanded.{ok, start, valid_fresh}
use Rattle.plan.specs.Plan.{feed_counts, PlanKept, lengths_fine, lists_fine, plan_number}
use Rattle.plan.specs.inner.Ticking.{pace_by, slowed, resampler_clock, start_clock, count_feeds}
use Rattle.plan.specs.inner.Ticking as K
use Rattle.plan.specs.declared.counting.Clock.{Clock}
use Rattle.chain.proofs.Sections.{by_cond, or_one_lem, FirGood, fir_left, fir_period}
use Rattle.chain.specs.inner.Counting.{or_one, stages_left}
use Rattle.plan.proofs.LineClock.{clock5, clock_of, Runs, feeds_counted}

-- ---- the settings that an opening takes
pub record Limits (s : Settings) (T : ℕ) : Type 0 where
  pub some_r : 1 ≤ s.r
  pub few_r : s.r ≤ 4096
  pub some_taps : 1 ≤ or_one T T
  pub few_taps : or_one T T ≤ Q.most_taps
  pub some_factor : 1 ≤ or_one T s.factor
  pub few_factor : or_one T s.factor ≤ 4096
  pub depth : s.depth ≤ 5

pub limits : (o : Opening) → Accepted o → Limits o.settings (length o.taps)
unfolding factor_ok
limits o a =
    let r = o.settings.r in
    let T : ℕ = length o.taps in
    let D : ℕ = o.settings.factor in
    let on : (T ≡ 0 → ⊥) → Q.settings_number T D ≡ 0 = (λ n. line_settings T D n a.filter) in
    record {
      some_r = leb-true 1 r (and_parts (leb 1 r) (leb r 4096) a.factor).0;
      few_r = leb-true r 4096 (and_parts (leb 1 r) (leb r 4096) a.factor).1;
      some_taps = or_one_lem (λ k. 1 ≤ k) T T (omega arith) (λ n. (settings_in_lem T D (on n)).some);
      few_taps = or_one_lem (λ k. k ≤ Q.most_taps) T T (omega arith) (λ n. (settings_in_lem T D (on n)).few);
      some_factor = or_one_lem (λ k. 1 ≤ k) T D (omega arith) (λ n. (settings_in_lem T D (on n)).factor);
      few_factor = or_one_lem (λ k. k ≤ 4096) T D (omega arith) (λ n. (settings_in_lem T D (on n)).factor_most);
      depth = a.depth;
    }

-- ---- section by section
-- a FIR that is off is opened as zeros
twice : (b : Bool) (n : ℕ) → cond b 1 (cond b 1 n) ≡ cond b 1 n
twice true n = refl
twice false n = refl

fir_start : (c : List ℤ) (D : ℕ) → (fir_left (Q.fresh_in_line c D) ≡ or_one (length c) (length c)) × (fir_period (Q.fresh_in_line c D) ≡ or_one (length c) D)
unfolding Q.fresh_in_line Q.fresh
fir_start c D = (
  by_cond fir_left (eqb (length c) 0) Q.fir_zeros (Q.fresh c D) ∙ twice (eqb (length c) 0) (length c),
  by_cond fir_period (eqb (length c) 0) Q.fir_zeros (Q.fresh c D) ∙ twice (eqb (length c) 0) D,
)

fir_runs : (s : Settings) (c : List ℤ) → Limits s (length c) → FirGood (Q.fresh_in_line c s.factor)
unfolding Q.fresh_in_line Q.fresh
fir_runs s c m = go (eqb (length c) 0) refl m.few_taps m.some_taps m.some_factor
  where
    go :
        (b : Bool) → eqb (length c) 0 ≡ b → cond b 1 (length c) ≤ Q.most_taps → 1 ≤ cond b 1 (length c) → 1 ≤ cond b 1 s.factor
        → FirGood (cond b Q.fir_zeros (Q.fresh c s.factor))
    go true e a t f = (omega arith, λ n. absurd (n refl))
    go false e a t f = unfold Q.fresh in (a, λ n. (t, f))

nothing_held : (j : ℕ) → get_or (replicate {A = ℕ} 5 0) j 0 ≡ 0
nothing_held zero = refl
nothing_held (suc zero) = refl
nothing_held (suc (suc zero)) = refl
nothing_held (suc (suc (suc zero))) = refl
nothing_held (suc (suc (suc (suc zero)))) = refl
nothing_held (suc (suc (suc (suc (suc j))))) = refl

half_start : (n k : ℕ) → stages_left n k (replicate 5 0) ≡ 2 ^ n
half_start zero k = refl
half_start (suc n) k =
    let p = pow_pos n in
    let z : 2 + (2 ^ n - 1) * 2 ≡ 2 ^ n * 2 = omega arith in
    ap₂ {C = ℕ} (λ (a b : ℕ). cond (eqb a 0) 2 1 + (b - 1) * 2) (nothing_held k) (half_start n (suc k)) ∙ z ∙ sym (pow-suc 2 n)

mu_start : (s : Settings) (h : List Float) → clock5 (resampler_fresh s h) ≡ resampler_clock s
unfolding resampler_fresh R.fresh R.zeros
mu_start s h = by_cond clock5 (eqb s.phases 0) R.zeros (R.fresh s.straight s.phases s.phase_taps h s.step) ∙ go (eqb s.phases 0) refl
  where
    go :
        (b : Bool) → eqb s.phases 0 ≡ b
        → cond b (clock5 R.zeros) (record { left = 1; period = 1; pace = pace_by (eqb s.phases 0) s.step one32 }) ≡ record { left = 1; period = 1; pace = pace_by b s.step one32 }
    go true e = unfold R.zeros in refl
    go false e = ap {B = Clock} (λ (b : Bool). record { left = 1; period = 1; pace = pace_by b s.step one32 }) e

same_start :
    {l l' a a' b b' h h' d d' : ℕ} {c c' : Clock} (p : ℕ) → l ≡ l' → a ≡ a' → b ≡ b' → h ≡ h' → d ≡ d' → c ≡ c'
    → slowed l p (slowed a b (slowed h d c)) ≡ slowed l' p (slowed a' b' (slowed h' d' c'))
same_start p el ea eb eh ed ec = rw (el, ea, eb, eh, ed, ec) refl

module _ (o : Opening) (zero : (opened o).number ≡ 0) where
  pub in_limits_lem : Limits o.settings (length o.taps)
  in_limits_lem = limits o (ok o zero)

  abbrev first : Clock
  first = start_clock o.settings (length o.taps)

  fresh_clock : clock_of (fresh o) ≡ first
  unfolding fresh
  fresh_clock =
      let s = o.settings in
      let d : min s.depth 5 ≡ s.depth = (let h = in_limits_lem.depth in omega arith) in
      let r : s.r - 0 ≡ s.r = omega arith in
      let f = fir_start o.taps s.factor in
      let h : stages_left (min s.depth 5) 0 (replicate 5 0) ≡ 2 ^ s.depth = half_start (min s.depth 5) 0 ∙ ap (λ (n : ℕ). 2 ^ n) d in
      same_start s.r r f.0 f.1 h (ap (λ (n : ℕ). 2 ^ n) d) (mu_start s o.prototype)

  pub fresh_runs : Runs (fresh o)
  unfolding fresh
  fresh_runs =
      let s = o.settings in
      (either_opens s.thinning s.stages s.r (ok o zero).thinned, (fir_runs o.settings o.taps in_limits_lem, (refl, tt)))

  pub first_runs : K.Runs first
  first_runs =
      let m = in_limits_lem in
      let p : 1 ≤ 2 ^ o.settings.depth = pow_pos o.settings.depth in
      (omega (arith, m.some_r), mul-pos m.some_r (mul-pos m.some_factor (mul-pos p (omega arith))))

  pub planned :
      (pieces spans taken written : List ℕ) → taken ≡ map (λ (m : Moved). m.taken) (count_feeds first pieces spans) → written ≡ map (λ (m : Moved). m.written) (count_feeds first pieces spans)
      → PlanKept o pieces spans taken written
  planned pieces spans taken written et ew =
      let counted : (samples : List (List ℤ)) → map length samples ≡ pieces → feed_counts (opened o).state samples spans ≡ count_feeds first pieces spans = (λ samples e.
      ap (λ (l : Line). feed_counts l samples spans) (start o zero) ∙ feeds_counted samples spans (fresh o) (valid_fresh o zero) fresh_runs
      ∙ ap₂ {C = List Moved} (λ (c : Clock) (p : List ℕ). count_feeds c p spans) fresh_clock e) in
      record {
        takes = λ samples e. ap (map (λ (m : Moved). m.taken)) (counted samples e) ∙ sym et;
        writes = λ samples e. ap (map (λ (m : Moved). m.written)) (counted samples e) ∙ sym ew;
      }

-- ---- the number, by the opening's
pub plan_refused : (o : Opening) (pieces spans : List ℕ) (t w n : ℕ) → 0 < n → n ≡ opening_number_of o → n ≡ plan_number o pieces spans t w
unfolding plan_number
plan_refused o pieces spans t w n h e = sym (ap (λ (k : ℕ). first_of k (cond (lists_fine pieces spans t w) 0 22)) (sym e) ∙ go n h)
  where
    go : (k : ℕ) → 0 < k → first_of k (cond (lists_fine pieces spans t w) 0 22) ≡ k
    go zero h = absurd (omega arith)
    go (suc k) h = refl

pub plan_lists : (o : Opening) (pieces spans : List ℕ) (t w : ℕ) (b : Bool) → opening_number_of o ≡ 0 → lists_fine pieces spans t w ≡ b → cond b 0 22 ≡ plan_number o pieces spans t w
unfolding plan_number
plan_lists o pieces spans t w b e f = sym (ap (λ (k : ℕ). first_of k (cond (lists_fine pieces spans t w) 0 22)) e ∙ ap (λ (c : Bool). cond c 0 22) f)

-- what the lists' test says
pub lists_say : (pieces spans : List ℕ) (t w : ℕ) → lists_fine pieces spans t w ≡ true → (length spans ≡ length pieces) × (t ≡ length pieces) × (w ≡ length pieces)
unfolding lists_fine
lists_say pieces spans t w h =
    let a : Bool = eqb (length spans) (length pieces) in
    let b : Bool = eqb t (length pieces) in
    let c : Bool = eqb w (length pieces) in
    let d : Bool = leb (length pieces) 4096 && (lengths_fine pieces && lengths_fine spans) in
    let h1 : b && (c && d) ≡ true = (and_parts a (b && (c && d)) h).1 in
    let h2 : c && d ≡ true = (and_parts b (c && d) h1).1 in
    (eqb-true _ _ (and_parts a (b && (c && d)) h).0, eqb-true _ _ (and_parts b (c && d) h1).0, eqb-true _ _ (and_parts c d h2).0)
