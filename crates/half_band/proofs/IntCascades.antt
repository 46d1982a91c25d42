-- A cascade of interpolators on flat delays runs as its stages on windows of their own; so blocks one after the other make what their samples joined make,
-- and from windows of zeros that is section 7's list.
use Rattle.std.specs.Prelude.{Ok}
use mathlib.Core.Path.{◌≡◌, refl, sym, ap, ◌∙◌, subst}
use mathlib.Core.Bool.{false}
use mathlib.Core.List.{List, [], ◌∷◌, ◌++◌, append-nil}
use Prim.Native.Nat.{ℕ, zero, suc, ◌+◌, ◌-◌, ◌*◌, ◌/◌, ◌%◌, ◌^◌, ◌≤◌, ◌<◌, min}
use native.Mathlib.Nat.{mul_assoc, mul_left_comm, pow-succ', pow-zero, mul-one, mul_comm}
use native.Mathlib.Numerals.{add-one}
use native.Mathlib.Omega.{arith}
use lib.Pow.{pow_pos}
use lib.ListN.{length, take, drop, replicate, length-append, length-drop, length-replicate, drop_of_length-le}
use lib.Seq.{take_all, drop-append-add, drop-drop, length-take-le}
use lib.Ieee.{Float}
use Rattle.theory.specs.Sections.{Section, state, outs}
use Rattle.theory.proofs.Sections.{outs_append, state_keeps}
use Rattle.refusal.specs.Outcome.{told_on}
use Rattle.refusal.specs.Rows.{samples_refused}
use Rattle.half_band.specs.HalfBand.{flat, interpolated, interpolated_by}
use Rattle.float.specs.F32.{zero32}
use Rattle.half_band.specs.HbfTaps.{stage_taps, interpolation}
use Rattle.half_band.specs.inner.FiveStages.{FiveStages, interpolation_five}
use Rattle.half_band.specs.Windows.{slid, int_value, interpolator, spliced}
use Rattle.half_band.specs.HbfIntCascade.{Upsampled, int_stage, upsampled, int_cascade_run, int_cascade_after, int_cascade_fresh, int_cascade_refused, int_cascade_count, int_cascade_block, int_cascade_span, joined, int_cascade_left, int_cascade_blocks, IntCascadeMeets}
use Rattle.half_band.specs.declared.hbf_int_cascade.HbfIntCascade.{HbfIntCascade}
use Rattle.refusal.proofs.Limits.{Between, not_outside}
use Rattle.half_band.proofs.Choices.{third}
use Rattle.half_band.proofs.Blocks.{outs_length}
use Rattle.std.proofs.lemmas.List.{drop-replicate, take-replicate}
use Rattle.half_band.proofs.Moving.{length_slid}
use Rattle.half_band.proofs.Parts.{parts_from, same_parts, part_long, part_found, part_elsewhere, length_with}
use Rattle.half_band.proofs.WholeLists.{interpolator_whole, flat_append}

-- ---- two outputs of each sample
length_flat : (l : List (Float × Float)) → length (flat l) ≡ 2 * length l
length_flat [] = refl
length_flat (p ∷ l) = ap (λ (n : ℕ). suc (suc n)) (length_flat l) ∙ more (length l)
  where
    more : (n : ℕ) → suc (suc (2 * n)) ≡ 2 * suc n
    more n = omega arith

length_made : (c w v : List Float) → length (flat (outs (interpolator c) w v)) ≡ 2 * length v
unfolding interpolator
length_made c w v = length_flat (outs (interpolator c) w v) ∙ ap (λ (n : ℕ). 2 * n) (outs_length (interpolator c) (λ u x. int_value c (slid u (x ∷ []))) (λ u x. refl) w v)

window_kept : (c w v : List Float) → 1 ≤ length w → length (state (interpolator c) w v) ≡ length w
unfolding interpolator
window_kept c w v h = state_keeps (interpolator c) (λ u. length u ≡ length w) (λ u x e. length_slid u (x ∷ []) (omega arith) ∙ e) w v refl

-- ---- the loop over the stages
module _ (taps : ℕ → List Float) where
  pub stage_on : (n k : ℕ) (delays v : List Float) → k < n
      → (d w : List Float) → d ≡ spliced (48 * k) (2 * length (taps k)) (state (interpolator (taps k)) (int_stage taps k delays) v) delays
      → w ≡ flat (outs (interpolator (taps k)) (int_stage taps k delays) v)
      → upsampled taps (n - k) k delays v ≡ upsampled taps (n - (k + 1)) (k + 1) d w
  unfolding upsampled
  stage_on n k delays v h d w ed ew =
      ap (λ (m : ℕ). upsampled taps m k delays v) less
      ∙ ap (λ (t : List Float). upsampled taps (n - (k + 1)) (suc k) t (flat (outs (interpolator (taps k)) (int_stage taps k delays) v))) (sym ed)
      ∙ ap (λ (t : List Float). upsampled taps (n - (k + 1)) (suc k) d t) (sym ew)
      ∙ ap (λ (j : ℕ). upsampled taps (n - (k + 1)) j d w) (sym (add-one k))
    where
      less : n - k ≡ suc (n - (k + 1))
      less = omega arith

  pub stages_done : (n k : ℕ) (delays v : List Float) → n ≤ k → upsampled taps (n - k) k delays v ≡ record { outs = v; delays = delays }
  unfolding upsampled
  stages_done n k delays v h = ap (λ (m : ℕ). upsampled taps m k delays v) none_left
    where
      none_left : n - k ≡ 0
      none_left = omega arith

-- the values so far fill their part of the span: n of them where k of d stages are done
pub doubled : (n L d k : ℕ) → k < d → n * 2 ^ (d - k) ≡ L → (2 * n * 2 ^ (d - (k + 1)) ≡ L) × (2 * n ≤ L)
doubled n L d k h e = (again, room)
  where
    rest : d - k ≡ suc (d - (k + 1))
    rest = omega arith

    again : 2 * n * 2 ^ (d - (k + 1)) ≡ L
    again =
        mul_assoc 2 n (2 ^ (d - (k + 1)))
        ∙ mul_left_comm 2 n (2 ^ (d - (k + 1)))
        ∙ ap (λ (m : ℕ). n * m) (sym (pow-succ' 2 (d - (k + 1))) ∙ ap (λ (m : ℕ). 2 ^ m) (sym rest))
        ∙ e

    room : 2 * n ≤ L
    room =
        let a : 2 * n * 1 ≤ 2 * n * 2 ^ (d - (k + 1)) = native.Mathlib.Nat.mul-le-mul_left (2 * n) (pow_pos (d - (k + 1))) in
        omega (arith, again, mul-one (2 * n))

pub all_filled : (n L : ℕ) (d k : ℕ) → d ≤ k → n * 2 ^ (d - k) ≡ L → n ≡ L
all_filled n L d k h e = sym (mul-one n) ∙ ap (λ (m : ℕ). n * m) (sym (ap (λ (m : ℕ). 2 ^ m) none_left ∙ pow-zero 2)) ∙ e
  where
    none_left : d - k ≡ 0
    none_left = omega arith

-- ---- the stages on windows of their own
pub record Up : Type 0 where
  pub outs : List Float
  pub windows : List (List Float)

module _ (taps : ℕ → List Float) (five : FiveStages taps) where
  abbrev up : ℕ → List (List Float) → List Float → Up
  up k [] v = record { outs = v; windows = [] }
  up k (w ∷ ws) v =
      record {
        outs = (up (suc k) ws (flat (outs (interpolator (taps k)) w v))).outs;
        windows = state (interpolator (taps k)) w v ∷ (up (suc k) ws (flat (outs (interpolator (taps k)) w v))).windows;
      }

  -- v and then w
  up_joined : (k : ℕ) (ws : List (List Float)) (v w : List Float) → (up k ws (v ++ w)).outs ≡ (up k ws v).outs ++ (up k (up k ws v).windows w).outs
  up_joined k [] v w = refl
  up_joined k (s ∷ ws) v w =
      ap (λ (l : List Float). (up (suc k) ws l).outs) (ap flat (outs_append i s v w) ∙ flat_append (outs i s v) (outs i (state i s v) w))
      ∙ up_joined (suc k) ws (flat (outs i s v)) (flat (outs i (state i s v) w))
    where
      i : Section (List Float) Float (Float × Float)
      i = interpolator (taps k)

  up_nothing : (k : ℕ) (ws : List (List Float)) → (up k ws []).outs ≡ []
  up_nothing k [] = refl
  up_nothing k (w ∷ ws) = up_nothing (suc k) ws

  -- the windows of n stages from k on in the delays
  abbrev windows_from : ℕ → ℕ → List Float → List (List Float)
  windows_from = parts_from (int_stage taps)

  fits : (k : ℕ) → k < 5 → 2 * length (taps k) ≤ 48
  fits k h = omega (arith, five.most k h)

  -- stage k after a list
  module _ (k : ℕ) (d v : List Float) (in_range : k < 5) (long : length d ≡ 240) where
    abbrev window : List Float
    window = state (interpolator (taps k)) (int_stage taps k d) v

    window_long : length window ≡ 2 * length (taps k)
    window_long =
        let w = part_long 48 (λ j. 2 * length (taps j)) fits d long k in_range in
        window_kept (taps k) (int_stage taps k d) v (omega (arith, five.least k in_range)) ∙ w

    abbrev stepped : List Float
    stepped = spliced (48 * k) (2 * length (taps k)) window d

    stepped_long : length stepped ≡ 240
    stepped_long = length_with 48 (λ j. 2 * length (taps j)) fits d long k in_range window window_long ∙ long

    stepped_found : int_stage taps k stepped ≡ window
    stepped_found = part_found 48 (λ j. 2 * length (taps j)) fits d long k in_range window window_long

    stepped_later : (n : ℕ) → k + suc n ≤ 5 → windows_from n (suc k) stepped ≡ windows_from n (suc k) d
    stepped_later n h = same_parts (int_stage taps) n (suc k) stepped d (λ j p q. part_elsewhere 48 (λ i. 2 * length (taps i)) fits d long k in_range window window_long j (omega arith) (not_same j p))
      where
        not_same : (j : ℕ) → suc k ≤ j → j ≡ k → ⊥
        not_same j p e = omega arith

    stepped_before : (j : ℕ) → j < k → int_stage taps j stepped ≡ int_stage taps j d
    stepped_before j l = part_elsewhere 48 (λ i. 2 * length (taps i)) fits d long k in_range window window_long j (omega arith) (not_same j l)
      where
        not_same : (j : ℕ) → j < k → j ≡ k → ⊥
        not_same j p e = omega arith

  pub up_long : (n k : ℕ) (d v : List Float) → k + n ≤ 5 → length d ≡ 240 → length (upsampled taps n k d v).delays ≡ 240
  unfolding upsampled
  up_long zero k d v h l = l
  up_long (suc n) k d v h l = up_long n (suc k) (stepped k d v (omega arith) l) (flat (outs (interpolator (taps k)) (int_stage taps k d) v)) (omega arith) (stepped_long k d v (omega arith) l)

  -- a stage before k is as it was
  up_before : (n k : ℕ) (d v : List Float) → k + n ≤ 5 → length d ≡ 240 → (j : ℕ) → j < k → int_stage taps j (upsampled taps n k d v).delays ≡ int_stage taps j d
  unfolding upsampled
  up_before zero k d v h l j p = refl
  up_before (suc n) k d v h l j p =
      let in_range : k < 5 = omega arith in
      up_before n (suc k) (stepped k d v in_range l) (flat (outs (interpolator (taps k)) (int_stage taps k d) v)) (omega arith) (stepped_long k d v in_range l) j (omega arith)
      ∙ stepped_before k d v in_range l j p

  up_outs : (n k : ℕ) (d v : List Float) → k + n ≤ 5 → length d ≡ 240 → (upsampled taps n k d v).outs ≡ (up k (windows_from n k d) v).outs
  unfolding upsampled
  up_outs zero k d v h l = refl
  up_outs (suc n) k d v h l =
      let in_range : k < 5 = omega arith in
      up_outs n (suc k) (stepped k d v in_range l) (flat (outs (interpolator (taps k)) (int_stage taps k d) v)) (omega arith) (stepped_long k d v in_range l)
      ∙ ap (λ (ws : List (List Float)). (up (suc k) ws (flat (outs (interpolator (taps k)) (int_stage taps k d) v))).outs) (stepped_later k d v in_range l n h)

  up_windows : (n k : ℕ) (d v : List Float) → k + n ≤ 5 → length d ≡ 240 → windows_from n k (upsampled taps n k d v).delays ≡ (up k (windows_from n k d) v).windows
  unfolding upsampled
  up_windows zero k d v h l = refl
  up_windows (suc n) k d v h l =
      let in_range : k < 5 = omega arith in
      let x : List Float = flat (outs (interpolator (taps k)) (int_stage taps k d) v) in
      let t : List Float = stepped k d v in_range l in
      ap (λ (w : List Float). w ∷ windows_from n (suc k) (upsampled taps n (suc k) t x).delays)
      (up_before n (suc k) t x (omega arith) (stepped_long k d v in_range l) k (omega arith) ∙ stepped_found k d v in_range l)
      ∙ ap (λ (ws : List (List Float)). window k d v in_range l ∷ ws)
      (up_windows n (suc k) t x (omega arith) (stepped_long k d v in_range l) ∙ ap (λ (ws : List (List Float)). (up (suc k) ws x).windows) (stepped_later k d v in_range l n h))

  pub run_joined : (n : ℕ) (d v w : List Float) → n ≤ 5 → length d ≡ 240
      → (upsampled taps n 0 d (v ++ w)).outs ≡ (upsampled taps n 0 d v).outs ++ (upsampled taps n 0 (upsampled taps n 0 d v).delays w).outs
  run_joined n d v w h l =
      up_outs n 0 d (v ++ w) (omega arith) l
      ∙ up_joined 0 (windows_from n 0 d) v w
      ∙ ap (λ (a : List Float). a ++ (up 0 (up 0 (windows_from n 0 d) v).windows w).outs) (sym (up_outs n 0 d v (omega arith) l))
      ∙ ap (λ (ws : List (List Float)). (upsampled taps n 0 d v).outs ++ (up 0 ws w).outs) (sym (up_windows n 0 d v (omega arith) l))
      ∙ ap (λ (b : List Float). (upsampled taps n 0 d v).outs ++ b) (sym (up_outs n 0 (upsampled taps n 0 d v).delays w (omega arith) (up_long n 0 d v (omega arith) l)))

  pub run_nothing : (n : ℕ) (d : List Float) → n ≤ 5 → length d ≡ 240 → (upsampled taps n 0 d []).outs ≡ []
  run_nothing n d h l = up_outs n 0 d [] (omega arith) l ∙ up_nothing 0 (windows_from n 0 d)

  -- from zeros
  fresh_window : (k : ℕ) → k < 5 → int_stage taps k (replicate 240 zero32) ≡ replicate (2 * length (taps k)) zero32
  fresh_window k h =
      ap (take (2 * length (taps k))) (drop-replicate (48 * k) 240 zero32) ∙ take-replicate (2 * length (taps k)) (240 - 48 * k) zero32 (let m = five.most k h in omega arith)

  fresh_up : (n k : ℕ) (v : List Float) → k + n ≤ 5 → (up k (windows_from n k (replicate 240 zero32)) v).outs ≡ interpolated_by taps k n v
  unfolding interpolated_by
  fresh_up zero k v h = refl
  fresh_up (suc n) k v h =
      ap (λ (w : List Float). (up (suc k) (windows_from n (suc k) (replicate 240 zero32)) (flat (outs (interpolator (taps k)) w v))).outs) (fresh_window k (omega arith))
      ∙ ap (λ (l : List Float). (up (suc k) (windows_from n (suc k) (replicate 240 zero32)) l).outs) (interpolator_whole (taps k) (five.least k (omega arith)) v)
      ∙ fresh_up n (suc k) (interpolated (taps k) v) (omega arith)

  pub run_whole : (n : ℕ) (v : List Float) → n ≤ 5 → (upsampled taps n 0 (replicate 240 zero32) v).outs ≡ interpolated_by taps 0 n v
  run_whole n v h = up_outs n 0 (replicate 240 zero32) v (omega arith) (length-replicate 240 zero32) ∙ fresh_up n 0 v (omega arith)

-- ---- `HbfIntCascade`
pub run_of : (s : HbfIntCascade) (v : List Float) → s.depth ≤ 5 → int_cascade_run s v ≡ upsampled (stage_taps interpolation) s.depth 0 s.delays v
unfolding int_cascade_run
run_of s v h = ap (λ (n : ℕ). upsampled (stage_taps interpolation) n 0 s.delays v) all
  where
    all : min s.depth 5 ≡ s.depth
    all = omega arith

blocks_joined : (s : HbfIntCascade) (vs : List (List Float)) → s.depth ≤ 5 → length s.delays ≡ 240 → int_cascade_blocks s vs ≡ (int_cascade_run s (joined vs)).outs
unfolding int_cascade_blocks
blocks_joined s [] h l = sym (ap (λ (r : Upsampled). r.outs) (run_of s [] h) ∙ run_nothing (stage_taps interpolation) interpolation_five s.depth s.delays h l)
blocks_joined s (v ∷ vs) h l =
    let t : HbfIntCascade = int_cascade_after s v in
    let e : int_cascade_run s v ≡ upsampled (stage_taps interpolation) s.depth 0 s.delays v = run_of s v h in
    let long : length t.delays ≡ 240 = ap (λ (r : Upsampled). length r.delays) e ∙ up_long (stage_taps interpolation) interpolation_five s.depth 0 s.delays v (omega arith) l in
    ap (λ (b : List Float). (int_cascade_run s v).outs ++ b) (blocks_joined t vs h long ∙ ap (λ (r : Upsampled). r.outs) (run_of t (joined vs) h))
    ∙ ap (λ (r : Upsampled). r.outs ++ (upsampled (stage_taps interpolation) s.depth 0 r.delays (joined vs)).outs) e
    ∙ sym (run_joined (stage_taps interpolation) interpolation_five s.depth s.delays v (joined vs) h l)
    ∙ ap (λ (r : Upsampled). r.outs) (sym (run_of s (v ++ joined vs) h))

-- blocks leave the depth as it is, and nothing else is looked at
left_fine : (s : HbfIntCascade) (vs : List (List Float)) → int_cascade_refused s ≡ false → int_cascade_refused (int_cascade_left s vs) ≡ false
unfolding int_cascade_left
left_fine s [] e = e
left_fine s (v ∷ vs) e = left_fine (int_cascade_after s v) vs e

pub fresh_meets : (d : ℕ) → Between 1 d 5 → IntCascadeMeets d (int_cascade_fresh d)
fresh_meets d b =
    record {
      never_refused = λ vs. left_fine (int_cascade_fresh d) vs (not_outside d 1 5 b.least b.most);
      whole = λ vs.
          blocks_joined (int_cascade_fresh d) vs b.most (length-replicate 240 zero32)
          ∙ ap (λ (r : Upsampled). r.outs) (run_of (int_cascade_fresh d) (joined vs) b.most)
          ∙ run_whole (stage_taps interpolation) interpolation_five d (joined vs) b.most;
    }

-- a block of n samples that is not refused
module _ (s : HbfIntCascade) (v span : List Float) (n c : ℕ) (fine : int_cascade_refused s ≡ false) (in_limits_lem : samples_refused (length v) (length span) ≡ false)
    (deep : s.depth ≤ 5) (count : n ≡ int_cascade_count s.depth (length v) (length span)) (places : c ≡ n * 2 ^ s.depth) where
  pub block_answer_lem : (d : List Float) → d ≡ (upsampled (stage_taps interpolation) s.depth 0 s.delays (take n v)).delays
      → told_on {S = HbfIntCascade} 0 (Ok c) (record { depth = s.depth; delays = d }) ≡ int_cascade_block s v (length span)
  block_answer_lem d e =
      ap (λ (l : List Float). told_on {S = HbfIntCascade} 0 (Ok c) (record { depth = s.depth; delays = l })) (e ∙ ap (λ (r : Upsampled). r.delays) (sym (run_of s (take n v) deep)))
      ∙ ap (λ (k : ℕ). told_on 0 (Ok k) (int_cascade_after s (take n v))) places
      ∙ ap (λ (k : ℕ). told_on 0 (Ok (k * 2 ^ s.depth)) (int_cascade_after s (take k v))) count
      ∙ third _ _ _ _ _ fine in_limits_lem

  pub block_span_lem : (t : List Float) → t ≡ (upsampled (stage_taps interpolation) s.depth 0 s.delays (take n v)).outs → t ++ drop c span ≡ int_cascade_span s v span
  block_span_lem t e =
      ap (λ (l : List Float). l ++ drop c span) (e ∙ ap (λ (r : Upsampled). r.outs) (sym (run_of s (take n v) deep)))
      ∙ ap (λ (k : ℕ). (int_cascade_run s (take n v)).outs ++ drop k span) places
      ∙ ap (λ (k : ℕ). (int_cascade_run s (take k v)).outs ++ drop (k * 2 ^ s.depth) span) count
      ∙ third _ _ _ _ _ fine in_limits_lem

-- ---- the loop: n values at the end of a span of L places, and what the stages from k on make of them
pub record Growing (want : Upsampled) (depth L : ℕ) (delays span : List Float) (n k : ℕ) : Type 0 where
  pub deep : k ≤ depth
  pub filled : n * 2 ^ (depth - k) ≡ L
  pub room : n ≤ L
  pub same : length span ≡ L
  pub long : length delays ≡ 240
  pub rest : upsampled (stage_taps interpolation) (depth - k) k delays (drop (L - n) span) ≡ want

-- one stage
stage_more : (want : Upsampled) (depth L : ℕ) (delays span : List Float) (n k : ℕ) → depth ≤ 5 → Growing want depth L delays span n k → k < depth
    → (d t : List Float)
    → d ≡ spliced (48 * k) (2 * length (stage_taps interpolation k)) (state (interpolator (stage_taps interpolation k)) (int_stage (stage_taps interpolation) k delays) (drop (length span - n) span)) delays
    → t ≡ take (length span - 2 * n) span ++ flat (outs (interpolator (stage_taps interpolation k)) (int_stage (stage_taps interpolation) k delays) (drop (length span - n) span))
    → Growing want depth L d t (2 * n) (k + 1)
stage_more want depth L delays span n k five g h d t ed et =
    record {
      deep = omega arith;
      filled = more.0;
      room = more.1;
      same = long_as;
      long = ap length ed ∙ stepped_long (stage_taps interpolation) interpolation_five k delays v (omega arith) g.long;
      rest =
          sym (stage_on (stage_taps interpolation) depth k delays (drop (L - n) span) h d (drop (L - 2 * n) t) (ed ∙ ap (λ (m : ℕ). spliced (48 * k) (2 * length (stage_taps interpolation k)) (state i w (drop (m - n) span)) delays) g.same)
          (found ∙ ap (λ (m : ℕ). flat (outs i w (drop (m - n) span))) g.same))
          ∙ g.rest;
    }
  where
    more : (2 * n * 2 ^ (depth - (k + 1)) ≡ L) × (2 * n ≤ L)
    more = doubled n L depth k h g.filled

    i : Section (List Float) Float (Float × Float)
    i = interpolator (stage_taps interpolation k)

    w : List Float
    w = int_stage (stage_taps interpolation) k delays

    v : List Float
    v = drop (length span - n) span

    front : length (take (length span - 2 * n) span) ≡ length span - 2 * n
    front = length-take-le (length span - 2 * n) span (omega arith)

    made : length (flat (outs i w v)) ≡ 2 * n
    made = length_made (stage_taps interpolation k) w v ∙ ap (λ (m : ℕ). 2 * m) (length-drop (length span - n) span ∙ left (length span) n (subst (λ (m : ℕ). n ≤ m) (sym g.same) g.room))
      where
        left : (a b : ℕ) → b ≤ a → a - (a - b) ≡ b
        left a b h = omega arith

    long_as : length t ≡ L
    long_as = ap length et ∙ length-append (take (length span - 2 * n) span) (flat (outs i w v)) ∙ sum (length (take (length span - 2 * n) span)) (length (flat (outs i w v))) front made
      where
        sum : (a b : ℕ) → a ≡ length span - 2 * n → b ≡ 2 * n → a + b ≡ L
        sum a b p q = omega (arith, g.same, more.1)

    found : drop (L - 2 * n) t ≡ flat (outs i w v)
    found = ap (λ (m : ℕ). drop m t) place ∙ ap (drop (length (take (length span - 2 * n) span) + 0)) et ∙ drop-append-add (take (length span - 2 * n) span) (flat (outs i w v)) 0
      where
        place : L - 2 * n ≡ length (take (length span - 2 * n) span) + 0
        place = omega (arith, g.same, front)

-- the part that a stage is lent
pub lent_even : (want : Upsampled) (depth L : ℕ) (delays span : List Float) (n k : ℕ) → Growing want depth L delays span n k → k < depth
    → (from : ℕ) → from ≡ length span - n * 2 → length (take (length span - from) (drop from span)) % 2 ≡ 0
lent_even want depth L delays span n k g h from e =
    let room : 2 * n ≤ length span = omega (arith, (doubled n L depth k h g.filled).1, g.same) in
    let rest = length-drop from span in
    let long = length-take-le (length span - from) (drop from span) (omega (arith, rest)) in
    omega (arith, long)

-- the code's product has its factors the other way round, and it lends the part from `from` on, which the outputs fill
pub grow_next : (want : Upsampled) (depth L : ℕ) (delays span : List Float) (n k from : ℕ) → depth ≤ 5 → Growing want depth L delays span n k → k < depth → from ≡ length span - n * 2
    → (p d y : List Float) → p ≡ take (length span - from) (drop from span)
    → d ≡ spliced (48 * k) (2 * length (stage_taps interpolation k)) (state (interpolator (stage_taps interpolation k)) (int_stage (stage_taps interpolation) k delays) (drop (length p / 2) p)) delays
    → y ≡ flat (outs (interpolator (stage_taps interpolation k)) (int_stage (stage_taps interpolation) k delays) (drop (length p / 2) p))
    → Growing want depth L d (take from span ++ (y ++ drop (length span - from) (drop from span))) (n * 2) (k + 1)
grow_next want depth L delays span n k from five g h ef p d y ep ed ey =
    subst (λ (m : ℕ). Growing want depth L d (take from span ++ (y ++ drop (length span - from) (drop from span))) m (k + 1)) (mul_comm 2 n)
    (stage_more want depth L delays span n k five g h d (take from span ++ (y ++ drop (length span - from) (drop from span)))
    (ed ∙ ap (λ (v : List Float). spliced (48 * k) (2 * length c) (state (interpolator c) w v) delays) same)
    (ap (λ (m : ℕ). take m span ++ (y ++ drop (length span - from) (drop from span))) (ef ∙ place)
    ∙ ap (λ (v : List Float). take (length span - 2 * n) span ++ (y ++ v)) (drop_of_length-le (drop from span) (omega (arith, rest)))
    ∙ ap (λ (v : List Float). take (length span - 2 * n) span ++ v) (append-nil y ∙ ey ∙ ap (λ (v : List Float). flat (outs (interpolator c) w v)) same)))
  where
    c : List Float
    c = stage_taps interpolation k

    w : List Float
    w = int_stage (stage_taps interpolation) k delays

    rest : length (drop from span) ≡ length span - from
    rest = length-drop from span

    room : 2 * n ≤ length span
    room = omega (arith, (doubled n L depth k h g.filled).1, g.same)

    place : length span - n * 2 ≡ length span - 2 * n
    place = omega arith

    part : p ≡ drop from span
    part = ep ∙ take_all (length span - from) (drop from span) (omega (arith, rest))

    long : length p ≡ length span - from
    long = ap length part ∙ rest

    half : from + length p / 2 ≡ length span - n
    half = omega (arith, long, room, ef)

    same : drop (length p / 2) p ≡ drop (length span - n) span
    same = ap (drop (length p / 2)) part ∙ drop-drop (length p / 2) from span ∙ ap (λ (m : ℕ). drop m span) half

-- all stages
pub grow_end : (want : Upsampled) (depth L : ℕ) (delays span : List Float) (n k : ℕ) → Growing want depth L delays span n k → depth ≤ k → (delays ≡ want.delays) × (span ≡ want.outs)
grow_end want depth L delays span n k g h =
    let e : n ≡ L = all_filled n L depth k h g.filled in
    let z : L - n ≡ 0 = omega arith in
    let r = ap {B = Upsampled} (λ (m : ℕ). record { outs = drop m span; delays = delays }) (sym z) ∙ sym (stages_done (stage_taps interpolation) depth k delays (drop (L - n) span) h) ∙ g.rest in
    (ap (λ (u : Upsampled). u.delays) r, ap (λ (u : Upsampled). u.outs) r)
