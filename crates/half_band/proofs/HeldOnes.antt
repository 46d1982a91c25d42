-- A stage holds at most one sample, and goes on to: so a state that is not refused is followed by states that are not refused.
use mathlib.Core.Path.{◌≡◌, refl, sym, ap, ◌∙◌, subst}
use mathlib.Core.Bool.{Bool, true, false, cond, ◌&&◌, true≢false}
use mathlib.Core.List.{List, [], ◌∷◌}
use Rattle.std.specs.Prelude.{◌↔◌, Option, None, Some, EachIndex, IsFalse, slice_index}
use Prim.Native.Nat.{ℕ, zero, suc, ◌≤◌, ◌<◌, min}
use native.Mathlib.Omega.{arith}
use native.Mathlib.Decide.{dec_le, dec_lt}
use borrow.Author.Tests.{leb-true, le-leb}
use lib.Dec.{eqb, leb, eqb-suc-zero}
use Rattle.std.proofs.lemmas.Bool.{and_parts}
use lib.ListN.{length, get_or, set, take, replicate, get_or-replicate}
use lib.Seq.{length-take-le, get_or-take}
use lib.Ieee.{Float}
use Rattle.refusal.specs.Rows.{outside}
use Rattle.refusal.proofs.Limits.{within, not_outside}
use Rattle.theory.specs.Sections.{state, outs}
use Rattle.float.specs.F32.{zero32}
use Rattle.half_band.specs.HalfBand.{decimated_by}
use Rattle.half_band.specs.HbfTaps.{stage_taps, decimation}
use Rattle.half_band.specs.inner.FiveStages.{decimation_five}
use Rattle.half_band.specs.Reach.{reach_of, Reaches}
use Rattle.half_band.specs.Windows.{slid}
use Rattle.half_band.specs.HbfStream.{Half, half, stage_in, with_stage, through, stream, hbf_stream, stream_fresh, held_fine, stream_refused, stream_refused_in_line, StreamMeets}
use Rattle.half_band.specs.declared.hbf_stream.HbfStream.{HbfStream}
use Rattle.half_band.proofs.Streaming.{depth_next, stream_whole}
use Rattle.half_band.proofs.Reaching.{stream_reaches}

-- the first n stages
abbrev pub AtMostOne : ℕ → List ℕ → Type 0
AtMostOne n counts = (j : ℕ) → j < n → get_or counts j 0 ≤ 1

held_says : (n : ℕ) (counts : List ℕ) → held_fine n counts ≡ true → AtMostOne n counts
unfolding held_fine
held_says zero counts e j h = absurd (omega arith)
held_says (suc n) counts e j h =
    let p = and_parts (held_fine n counts) (leb (get_or counts n 0) 1) e in
    elim (dec_lt j n) [
      | yes l ↦ held_says n counts p.0 j l
      | no l ↦ (let q : n ≡ j = omega arith in subst (λ (i : ℕ). get_or counts i 0 ≤ 1) q (leb-true (get_or counts n 0) 1 p.1))
    ]

pub held_is : (n : ℕ) (counts : List ℕ) → AtMostOne n counts → held_fine n counts ≡ true
unfolding held_fine
held_is zero counts a = refl
held_is (suc n) counts a =
    ap (λ (b : Bool). b && leb (get_or counts n 0) 1) (held_is n counts (λ j h. a j (omega arith))) ∙ le-leb (get_or counts n 0) 1 (a n (omega arith))

-- a state that is not refused
pub record Fine (d : ℕ) (counts : List ℕ) : Type 0 where
  pub some : 1 ≤ d
  pub few : d ≤ 5
  pub held : AtMostOne d counts

pub refused_says : (d : ℕ) (counts : List ℕ) → stream_refused d counts ≡ false → Fine d counts
unfolding stream_refused
refused_says d counts e = go (outside d 1 5) refl (held_fine d counts) refl e
  where
    go : (a : Bool) → outside d 1 5 ≡ a → (b : Bool) → held_fine d counts ≡ b → cond a true (cond b false true) ≡ false → Fine d counts
    go true p b q r = absurd (true≢false r)
    go false p true q r = let w = within d 1 5 p in record { some = w.least; few = w.most; held = held_says d counts q }
    go false p false q r = absurd (true≢false r)

pub not_refused : (d : ℕ) (counts : List ℕ) → Fine d counts → stream_refused d counts ≡ false
unfolding stream_refused
not_refused d counts f =
    ap (λ (b : Bool). cond b true (cond (held_fine d counts) false true)) (not_outside d 1 5 f.some f.few) ∙ ap (λ (b : Bool). cond b false true) (held_is d counts f.held)

-- in the line: a state that is not refused beside it, or off
pub line_not_refused : (d : ℕ) (counts : List ℕ) → (1 ≤ d → stream_refused d counts ≡ false) → stream_refused_in_line d counts ≡ false
unfolding stream_refused_in_line
line_not_refused zero counts h = refl
line_not_refused (suc d) counts h = ap (λ (b : Bool). cond b false (stream_refused (suc d) counts)) (eqb-suc-zero d) ∙ h (omega arith)

pub line_refused_says : (d : ℕ) (counts : List ℕ) → 1 ≤ d → stream_refused_in_line d counts ≡ false → stream_refused d counts ≡ false
unfolding stream_refused_in_line
line_refused_says zero counts h e = absurd (omega arith)
line_refused_says (suc d) counts h e = sym (ap (λ (b : Bool). cond b false (stream_refused (suc d) counts)) (eqb-suc-zero d)) ∙ e

pub line_few : (d : ℕ) (counts : List ℕ) → stream_refused_in_line d counts ≡ false → d ≤ 5
line_few d counts e = elim (dec_le 1 d) [
  | yes h ↦ (refused_says d counts (line_refused_says d counts h e)).few
  | no h ↦ (let z : d ≤ 5 = omega arith in z)
]

-- a count of none or one put in
set_most : (l : List ℕ) (k c j : ℕ) → c ≤ 1 → get_or l j 0 ≤ 1 → get_or (set l k c) j 0 ≤ 1
set_most [] k c j h g = g
set_most (a ∷ l) zero c zero h g = h
set_most (a ∷ l) zero c (suc j) h g = g
set_most (a ∷ l) (suc k) c zero h g = g
set_most (a ∷ l) (suc k) c (suc j) h g = set_most l k c j h g

half_count : (c : List Float) (h : Half) (x : Float) → ((half c).next h x).count ≤ 1
unfolding half
half_count c h x = go (eqb h.count 0)
  where
    go : (b : Bool) → (cond {A = Half} b (record { window = h.window; held = x; count = 1 }) (record { window = slid h.window (h.held ∷ x ∷ []); held = zero32; count = 0 })).count ≤ 1
    go true = omega arith
    go false = omega arith

module _ (taps : ℕ → List Float) where
  through_most : (m n k : ℕ) (o : Option Float) (s : HbfStream) → AtMostOne m s.counts → AtMostOne m (through taps n k o s).state.counts
  unfolding through with_stage
  through_most m zero k o s a = a
  through_most m (suc n) k None s a = a
  through_most m (suc n) k (Some x) s a =
      through_most m n (suc k) ((half (taps k)).out (stage_in taps k s) x) (with_stage taps k ((half (taps k)).next (stage_in taps k s) x) s)
      (λ j h. set_most s.counts k ((half (taps k)).next (stage_in taps k s) x).count j (half_count (taps k) (stage_in taps k s) x) (a j h))

-- after a sample
next_not_refused : (s : HbfStream) (x : Float) → stream_refused s.depth s.counts ≡ false → stream_refused (hbf_stream.next s x).depth (hbf_stream.next s x).counts ≡ false
unfolding hbf_stream stream
next_not_refused s x e =
    let f = refused_says s.depth s.counts e in
    let d : (hbf_stream.next s x).depth ≡ s.depth = depth_next (stage_taps decimation) decimation_five s x in
    let m : AtMostOne s.depth (hbf_stream.next s x).counts = through_most (stage_taps decimation) s.depth (min s.depth 5) 0 (Some x) s f.held in
    ap (λ (n : ℕ). stream_refused n (hbf_stream.next s x).counts) d
    ∙ not_refused s.depth (hbf_stream.next s x).counts (record { some = f.some; few = f.few; held = m })

state_not_refused : (s : HbfStream) (v : List Float) → stream_refused s.depth s.counts ≡ false → stream_refused (state hbf_stream s v).depth (state hbf_stream s v).counts ≡ false
state_not_refused s [] e = e
state_not_refused s (x ∷ v) e = state_not_refused (hbf_stream.next s x) v (next_not_refused s x e)

fresh_not_refused : (d : ℕ) → 1 ≤ d → d ≤ 5 → stream_refused d (stream_fresh d).counts ≡ false
fresh_not_refused d p h =
    let none : AtMostOne d (replicate 5 0) = λ j l. let e : get_or (replicate {A = ℕ} 5 0) j 0 ≡ 0 = get_or-replicate {A = ℕ} 5 j 0 0 (omega arith) in omega arith in
    not_refused d (replicate 5 0) (record { some = p; few = h; held = none })

pub line_fresh_not_refused : (d : ℕ) → d ≤ 5 → stream_refused_in_line d (stream_fresh d).counts ≡ false
line_fresh_not_refused d h = line_not_refused d (replicate 5 0) (λ p. fresh_not_refused d p h)

-- the outputs of any list, of no stages the list itself
pub fresh_whole : (d : ℕ) → d ≤ 5 → (v : List Float) → outs hbf_stream (stream_fresh d) v ≡ decimated_by (stage_taps decimation) 0 d v
unfolding hbf_stream
fresh_whole d h v = stream_whole (stage_taps decimation) decimation_five d h v

fresh_reach : (d : ℕ) → d ≤ 5 → Reaches (reach_of (stage_taps decimation) d) d (outs hbf_stream (stream_fresh d))
unfolding hbf_stream
fresh_reach d h = stream_reaches (stage_taps decimation) decimation_five d h

pub stream_meets : (d : ℕ) → 1 ≤ d → d ≤ 5 → StreamMeets d (stream_fresh d)
stream_meets d p h =
    record { never_refused = λ v. state_not_refused (stream_fresh d) v (fresh_not_refused d p h); whole = fresh_whole d h; reach = fresh_reach d h }

-- the two ways of being refused
pub not_so_deep : (d : ℕ) (counts : List ℕ) → outside d 1 5 ≡ true → stream_refused d counts ≡ true
unfolding stream_refused
not_so_deep d counts h = ap (λ (b : Bool). cond b true (cond (held_fine d counts) false true)) h

-- where a test says whether a stage holds more than one
pub refused_as : (d : ℕ) (counts : List ℕ) (b : Bool) → outside d 1 5 ≡ false → length counts ≡ 5 → (IsFalse b ↔ EachIndex (take d counts) (λ k. slice_index (take d counts) k ≤ 1)) → b ≡ stream_refused d counts
unfolding stream_refused
refused_as d counts b h long none = tested b none ∙ sym (ap (λ (o : Bool). cond o true (cond (held_fine d counts) false true)) h)
  where
    front_long : length (take d counts) ≡ d
    front_long = length-take-le d counts (omega (arith, (within d 1 5 h).most, long))

    front_at : (k : ℕ) → k < d → get_or (take d counts) k 0 ≡ get_or counts k 0
    front_at k l = get_or-take d counts k 0 l

    tested : (b : Bool) → (IsFalse b ↔ EachIndex (take d counts) (λ k. slice_index (take d counts) k ≤ 1)) → b ≡ cond (held_fine d counts) false true
    tested false e = sym (ap (λ (o : Bool). cond o false true) (held_is d counts (λ k l. subst (λ (n : ℕ). n ≤ 1) (front_at k l) (e.0 refl k (omega (arith, front_long))))))
    tested true e = go (held_fine d counts) refl
      where
        go : (o : Bool) → held_fine d counts ≡ o → true ≡ cond o false true
        go true f = absurd (true≢false (e.1 (λ k l. subst (λ (n : ℕ). n ≤ 1) (sym (front_at k (omega (arith, front_long)))) (held_says d counts f k (omega (arith, front_long))))))
        go false f = refl

-- a cascade of no stages stays as it is
pub off_next : (s : HbfStream) (x : Float) → s.depth ≡ 0 → hbf_stream.next s x ≡ s
unfolding hbf_stream stream through
off_next s x e = ap (λ (n : ℕ). (through (stage_taps decimation) n 0 (Some x) s).state) (ap (λ (d : ℕ). min d 5) e)

-- in the line every sample keeps a state from being refused
pub line_next_not_refused :
    (s : HbfStream) (x : Float) → stream_refused_in_line s.depth s.counts ≡ false
    → stream_refused_in_line (hbf_stream.next s x).depth (hbf_stream.next s x).counts ≡ false
line_next_not_refused s x e = elim (dec_le 1 s.depth) [
  | yes h ↦ line_not_refused (hbf_stream.next s x).depth (hbf_stream.next s x).counts (λ p. next_not_refused s x (line_refused_says s.depth s.counts h e))
  | no h ↦ (let z : s.depth ≡ 0 = omega arith in
      ap (λ (t : HbfStream). stream_refused_in_line t.depth t.counts) (off_next s x z) ∙ e)
]
