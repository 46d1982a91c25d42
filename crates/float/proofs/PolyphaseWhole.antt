-- The opened state's runs are the whole list's: mu and the values consumed so far are seen as a state whose delay is the last T of them, zeros before the
-- start, and whose prototype is the lent one with zeros behind, which no tap reads.
use Rattle.std.proofs.Common.{◌≡◌, ℕ, zero, suc, ◌+◌, ◌-◌, ◌*◌, ◌<◌, ◌≤◌, Bool, true, List, [], ◌∷◌, ◌++◌, length, get_or, take, replicate, sym, refl, ap, ◌∙◌, subst, ap₂, append_assoc, mul-le-mul, arith, take_all, take_at, drop_at, ne_eqb, le-leb}
use mathlib.Core.Path.{subst⁻¹}
use lib.ListN.{get_or-append}
use lib.Seq.{take-append-le}
use lib.Ieee.{Float, nan, binary32, add, sub}
use Rattle.theory.specs.Lists.{listed}
use Rattle.theory.specs.Runs.{Runs}
use Rattle.theory.proofs.Listed.{length_listed}
use Rattle.theory.proofs.Machines.{Lawful, Seen, all, all_seen, all_off}
use Rattle.theory.proofs.Runs.{all_runs}
use Rattle.theory.proofs.RunsSeen.{runs_unique, runs_seen, runs_unseen, lawful_seen}
use Rattle.float.specs.F32.{zero32, one32}
use Rattle.float.specs.PolyphaseOutput.{output}
use Rattle.float.specs.PolyphaseOpening.{in_limits, valid_in_line, step_in_line, packed, fresh}
use Rattle.float.specs.PolyphaseResamp.{shifted_in, consumed, output_of, passed, resampler, is_on, in_line}
use Rattle.float.specs.PolyphaseWhole.{Progress, delays, whole_list, begin, Becomes}
use Rattle.float.specs.declared.polyphase_resamp.PolyphaseResampF32.{PolyphaseResampF32}
use Rattle.float.proofs.PolyphaseOutput.{Limits, limits_say, outputs_alike}
use Rattle.float.proofs.PolyphaseRange.{line_lawful, line_fresh}

-- ---- lists by index, from the front
listed_front : {B : Type 0} (n : ℕ) (g : ℕ → B) → listed (suc n) g ≡ g 0 ∷ listed n (λ k. g (suc k))
listed_front zero g = refl
listed_front {B} (suc n) g = ap (λ (l : List B). l ++ (g (suc n) ∷ [])) (listed_front n g)

-- one value more: it stands in front, and the oldest of T falls out
delays_next : (n : ℕ) (v : List Float) (x : Float) (z : List Float) → take (suc n) (x ∷ (delays (suc n) v ++ z)) ≡ delays (suc n) (x ∷ v)
unfolding delays
delays_next n v x z =
    let g : ℕ → Float = λ t. get_or v t zero32 in
    let front : take n (listed (suc n) g ++ z) ≡ listed n g =
    take-append-le n (listed (suc n) g) z (let q = length_listed (suc n) g in omega arith) ∙ take_at (listed n g) (g n ∷ []) n (length_listed n g)
    in
    ap (λ (l : List Float). x ∷ l) front ∙ sym (listed_front n (λ t. get_or (x ∷ v) t zero32))

-- zeros by index, and zeros behind
zeros_join : (a b : ℕ) → listed a (λ t. zero32) ++ replicate b zero32 ≡ replicate (a + b) zero32
zeros_join zero b = ap (λ (n : ℕ). replicate n zero32) (let q : b ≡ 0 + b = omega arith in q)
zeros_join (suc a) b =
    append_assoc (listed a (λ t. zero32)) (zero32 ∷ []) (replicate b zero32)
    ∙ zeros_join a (suc b)
    ∙ ap (λ (n : ℕ). replicate n zero32) (let q : a + suc b ≡ suc a + b = omega arith in q)

module _ (straight : Bool) (P T : ℕ) (h : List Float) (lim : in_limits P T ≡ true) (long : length h ≡ P * T) where
  limits : Limits P T
  limits = limits_say P T lim

  few_cells : length h ≤ 1024
  few_cells = let q : P * T ≤ 64 * 16 = mul-le-mul limits.few_phases limits.few_taps in omega (arith, long)

  -- a cell in front of the packed prototype is one of the lent
  cell_same : (i : ℕ) → i < P * T → get_or (packed h) i nan ≡ get_or h i nan
  unfolding packed
  cell_same i a =
      ap (λ (l : List Float). get_or (l ++ replicate (1024 - length h) zero32) i nan) (take_all 1024 h few_cells)
      ∙ get_or-append h (replicate (1024 - length h) zero32) nan i (omega (arith, long))

  output_same : (d z : List Float) → length d ≡ T → (mu : Float) → output straight P T mu (d ++ z) (packed h) ≡ output straight P T mu d h
  output_same d z whole =
      outputs_alike P T (packed h) h (d ++ z) d (let g = limits.some_phases in omega arith) cell_same (λ t a. get_or-append d z nan t (omega arith)) straight

  -- ---- mu and the values consumed so far, seen as a state
  module _ (step : Float) where
    pub view : Progress → PolyphaseResampF32
    view c =
        record {
          phases = P;
          taps = T;
          straight = straight;
          mu = c.mu;
          step = step;
          delay = delays T c.values ++ replicate (16 - T) zero32;
          prototype = packed h;
        }

    view_begin : view begin ≡ fresh straight P T h step
    unfolding view begin fresh delays
    view_begin =
        ap {B = PolyphaseResampF32} (λ (d : List Float). record { phases = P; taps = T; straight = straight; mu = one32; step = step; delay = d; prototype = packed h })
        (zeros_join T (16 - T) ∙ ap (λ (n : ℕ). replicate n zero32) (let g = limits.few_taps in let q : T + (16 - T) ≡ 16 = omega arith in q))

    delays_long : (v : List Float) → length (delays T v) ≡ T
    unfolding delays
    delays_long v = length_listed T (λ t. get_or v t zero32)

    value_same : (c : Progress) → output straight P T c.mu (delays T c.values) h ≡ output_of (view c)
    unfolding view output_of
    value_same c = sym (output_same (delays T c.values) (replicate (16 - T) zero32) (delays_long c.values) c.mu)

    shifted_same : (v : List Float) (x : Float) → delays T (x ∷ v) ++ replicate (16 - T) zero32 ≡ shifted_in T x (delays T v ++ replicate (16 - T) zero32)
    unfolding shifted_in
    shifted_same v x = rw (le-leb T 16 limits.few_taps) (sym (ap₂ {C = List Float} (λ a b. a ++ b) (front T limits.some_taps) (drop_at (delays T v) (replicate (16 - T) zero32) T (delays_long v))))
      where
        front : (n : ℕ) → 1 ≤ n → take n (x ∷ (delays n v ++ replicate (16 - T) zero32)) ≡ delays n (x ∷ v)
        front zero g = absurd (omega arith)
        front (suc n) g = delays_next n v x (replicate (16 - T) zero32)

    next_same : (c : Progress) (x : Float) → view (record { mu = sub binary32 c.mu one32; values = x ∷ c.values }) ≡ consumed (view c) x
    unfolding view consumed
    next_same c x =
        ap {B = PolyphaseResampF32} (λ (d : List Float). record { phases = P; taps = T; straight = straight; mu = sub binary32 c.mu one32; step = step; delay = d; prototype = packed h })
        (shifted_same c.values x)

    after_same : (c : Progress) → view (record { mu = add binary32 c.mu step; values = c.values }) ≡ passed (view c)
    unfolding view passed
    after_same c = refl

    view_on : (c : Progress) → is_on (view c) ≡ true
    unfolding view is_on
    view_on c = rw (ne_eqb P 0 (let g = limits.some_phases in let n : P ≡ 0 → ⊥ = omega arith in n))

    seen_beside : Seen (whole_list straight P T h step) resampler view (λ c. Unit {0})
    unfolding whole_list resampler view
    seen_beside =
        record {
          due_same = λ c g. refl;
          val_same = λ c g e. value_same c;
          after_same = λ c g e. after_same c;
          next_same = λ c x g e. next_same c x;
          now_same = λ c x g e. refl;
        }

    seen_in_line : Seen (whole_list straight P T h step) in_line view (λ c. valid_in_line (view c) ≡ true)
    unfolding whole_list in_line
    seen_in_line =
        record {
          due_same = λ c g. rw (view_on c) (unfold view in refl);
          val_same = λ c g e. value_same c;
          after_same = λ c g e. after_same c;
          next_same = λ c x g e. rw (view_on c) (next_same c x);
          now_same = λ c x g e. rw (view_on c);
        }

    -- the opened state makes of a list what that list becomes
    pub fresh_becomes : (xs o : List Float) → Runs resampler (fresh straight P T h step) xs o → Becomes straight P T h step xs o
    unfolding Becomes
    fresh_becomes xs o r =
        runs_unseen (whole_list straight P T h step) resampler view (λ t. Unit {0}) seen_beside (λ t g d. tt) (λ t x g d. tt) tt
        (subst⁻¹ (λ (s : PolyphaseResampF32). Runs resampler s xs o) view_begin r)

    pub becomes_fresh : (xs o : List Float) → Becomes straight P T h step xs o → Runs resampler (fresh straight P T h step) xs o
    unfolding Becomes
    becomes_fresh xs o r =
        subst (λ (s : PolyphaseResampF32). Runs resampler s xs o) view_begin
        (runs_seen (whole_list straight P T h step) resampler view (λ t. Unit {0}) seen_beside (λ t g d. tt) (λ t x g d. tt) tt r)

    -- with a step of the line every list becomes one, which is what the line's machine makes of it
    module _ (ok : step_in_line step ≡ true) where
      begin_valid : valid_in_line (view begin) ≡ true
      begin_valid = subst⁻¹ (λ (s : PolyphaseResampF32). valid_in_line s ≡ true) view_begin (line_fresh straight P T h step lim ok)

      pub whole_lawful : Lawful (whole_list straight P T h step) 64 (λ c. valid_in_line (view c) ≡ true)
      whole_lawful =
          lawful_seen (whole_list straight P T h step) in_line view (λ s. valid_in_line s ≡ true) seen_in_line line_lawful.good_after line_lawful.good_next 64 line_lawful

      pub becomes_all : (xs : List Float) → Becomes straight P T h step xs (all in_line 64 (fresh straight P T h step) xs)
      unfolding Becomes
      becomes_all xs =
          subst (λ (s : PolyphaseResampF32). Runs (whole_list straight P T h step) begin xs (all in_line 64 s xs)) view_begin
          (subst (Runs (whole_list straight P T h step) begin xs) (all_seen (whole_list straight P T h step) in_line view 64 (λ c. valid_in_line (view c) ≡ true) whole_lawful seen_in_line begin xs begin_valid)
          (all_runs (whole_list straight P T h step) 64 (λ c. valid_in_line (view c) ≡ true) whole_lawful begin xs begin_valid))

-- no list becomes two
pub becomes_one : (straight : Bool) (P T : ℕ) (h : List Float) (step : Float) (xs o p : List Float) → Becomes straight P T h step xs o → Becomes straight P T h step xs p → o ≡ p
unfolding Becomes
becomes_one straight P T h step xs o p r q = runs_unique r q

-- a resampler that is off hands its list on unchanged
pub off_hands_on : (s : PolyphaseResampF32) (xs : List Float) → s.phases ≡ 0 → all in_line 64 s xs ≡ xs
unfolding in_line is_on
off_hands_on s xs e = all_off in_line (λ t. t.phases ≡ 0) (λ t x z. rw z) (λ t z. rw z) (λ t x z. rw z) 64 s xs e
