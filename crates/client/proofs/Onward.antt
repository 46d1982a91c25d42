-- A loop of feeds on its way: what is done, and then what the definition makes of what is left, is what it makes of the whole; and demand 3 of the feeds that are left
-- is demand 3 of all.
use mathlib.Core.Path.{◌≡◌, refl, sym, ap, ap₂, ◌∙◌, subst}
use mathlib.Core.List.{List, [], ◌∷◌, ◌++◌, append_assoc}
use Prim.Native.Nat.{ℕ, suc, ◌+◌, ◌-◌, ◌≤◌, ◌<◌, min}
use native.Mathlib.Decide.{dec_le}
use native.Mathlib.Omega.{arith}
use lib.IntN.{ℤ}
use lib.Ieee.{Float}
use lib.ListN.{length, get_or, take, drop, set, length-append, length-take, length-drop, take-append-drop, drop_of_length-le}
use lib.Seq.{drop-cons, take-suc-set, drop-set-lt, drop-drop, take_at, drop_at}
use borrow.Author.Tests.{ne_eqb}
use Rattle.std.specs.Prelude.{Err}
use Rattle.refusal.specs.declared.Refusal.{Refusal}
use Rattle.refusal.specs.Table.{number_of}
use Rattle.refusal.proofs.Table.{number_positive}
use Rattle.refusal.specs.Outcome.{Outcome, told_opened}
use Rattle.refusal.specs.declared.Moved.{Moved}
use Rattle.line.specs.Outputs.{Opening}
use Rattle.line.specs.Openings.{opened, zeros}
use Rattle.line.specs.Line.{feed_span}
use Rattle.line.specs.Demand3.{History, none_yet, line_of, taken_of, written_of, Kept, Demand3}
use Rattle.line.specs.declared.gauge_line.Line.{Line}
use Rattle.line.proofs.Left as W
use Rattle.client.specs.FeedAll.{one, Left, left, all_left, fed_on, AllKept}

-- what is done in front of what is left
abbrev pub behind : List ℕ → List ℕ → List Float → Left → Left
behind pieces spans out r = record { line = r.line; pieces = pieces ++ r.pieces; spans = spans ++ r.spans; out = out ++ r.out }

-- where a list of numbers is at its end, nothing is fed
no_piece : (l : Line) (xs : List ℤ) (out : List Float) (spans : List ℕ) → left l xs out [] spans ≡ record { line = l; pieces = []; spans = spans; out = out }
unfolding left
no_piece l xs out spans = refl

no_span : (l : Line) (xs : List ℤ) (out : List Float) (pieces : List ℕ) → left l xs out pieces [] ≡ record { line = l; pieces = pieces; spans = []; out = out }
unfolding left
no_span l xs out [] = refl
no_span l xs out (p ∷ pieces) = refl

none_kept_piece : (o : Opening) (h : History) (xs : List ℤ) (out : List Float) (spans : List ℕ) → AllKept o h xs out [] spans
unfolding AllKept
none_kept_piece o h xs out spans = tt

none_kept_span : (o : Opening) (h : History) (xs : List ℤ) (out : List Float) (pieces : List ℕ) → AllKept o h xs out pieces []
unfolding AllKept
none_kept_span o h xs out [] = tt
none_kept_span o h xs out (p ∷ pieces) = tt

-- one feed in front of the others
left_step :
    (l : Line) (xs : List ℤ) (out : List Float) (p s : ℕ) (pieces spans : List ℕ) (told : Outcome Moved Line) → told ≡ one l xs out p s
    → left l xs out (p ∷ pieces) (s ∷ spans)
    ≡ behind (told.value.taken ∷ []) (told.value.written ∷ []) (feed_span l (take p xs) (take s out)) (left told.state (drop told.value.taken xs) (drop s out) pieces spans)
unfolding left
left_step l xs out p s pieces spans told e = rw e

behind_behind :
    (a c : List ℕ) (e : List Float) (b d : List ℕ) (f : List Float) (r : Left) → behind a c e (behind b d f r) ≡ behind (a ++ b) (c ++ d) (e ++ f) r
behind_behind a c e b d f r = rw (append_assoc a b r.pieces, append_assoc c d r.spans, append_assoc e f r.out)

kept_step :
    (o : Opening) (h : History) (xs : List ℤ) (out : List Float) (p s : ℕ) (pieces spans : List ℕ)
    → Kept o (take p xs) (take s out) (feed_span (line_of o h) (take p xs) (take s out)) (one (line_of o h) xs out p s) (taken_of o (fed_on h xs out p s)) (written_of o (fed_on h xs out p s))
    → AllKept o (fed_on h xs out p s) (drop (one (line_of o h) xs out p s).value.taken xs) (drop s out) pieces spans
    → AllKept o h xs out (p ∷ pieces) (s ∷ spans)
unfolding AllKept
kept_step o h xs out p s pieces spans k a = (k, a)

-- the next feed's demand 3, of the line that the history leads to
kept_next :
    (o : Opening) → (opened o).number ≡ 0 → (h : History) (l : Line) → line_of o h ≡ l → (xs : List ℤ) (out : List Float) (p s : ℕ) (told : Outcome Moved Line)
    → told ≡ one l xs out p s → Demand3 l (take p xs) (take s out) (feed_span l (take p xs) (take s out)) told
    → Kept o (take p xs) (take s out) (feed_span (line_of o h) (take p xs) (take s out)) (one (line_of o h) xs out p s) (taken_of o (fed_on h xs out p s)) (written_of o (fed_on h xs out p s))
unfolding Demand3
kept_next o ok h l e xs out p s told t d =
    subst (λ (k : Line). Kept o (take p xs) (take s out) (feed_span k (take p xs) (take s out)) (one k xs out p s) (taken_of o h ++ take (one k xs out p s).value.taken (take p xs)) (written_of o h ++ take (one k xs out p s).value.written (feed_span k (take p xs) (take s out)))) (sym e)
    (subst (λ (r : Outcome Moved Line). Kept o (take p xs) (take s out) (feed_span l (take p xs) (take s out)) r (taken_of o h ++ take r.value.taken (take p xs)) (written_of o h ++ take r.value.written (feed_span l (take p xs) (take s out)))) t
    (d o h ok e).1)

all_left_lem :
    (o : Opening) → (opened o).number ≡ 0 → (xs : List ℤ) (out : List Float) (pieces spans : List ℕ) → all_left o xs out pieces spans ≡ left (opened o).state xs out pieces spans
unfolding all_left
all_left_lem o ok xs out pieces spans = rw ok

-- a refused opening leaves everything
pub refused :
    (o : Opening) (q : Refusal) → told_opened zeros (Err q) ≡ opened o → (xs : List ℤ) (out : List Float) (pieces spans : List ℕ)
    → record { line = zeros; pieces = pieces; spans = spans; out = out } ≡ all_left o xs out pieces spans
unfolding all_left
refused o q e xs out pieces spans =
    let h = number_positive q in
    let n : number_of q ≡ 0 → ⊥ = omega arith in
    rw (sym e, ne_eqb (number_of q) 0 n)

module _ (o : Opening) (xs : List ℤ) (out₀ : List Float) (pieces₀ spans₀ : List ℕ) where
  -- after k feeds of a line that was opened: the line, how far the samples are taken and the places lent, and the three lists as they stand
  pub record Onward (line : Line) (at from k : ℕ) (out : List Float) (pieces spans : List ℕ) : Type 0 where
    pub ok : (opened o).number ≡ 0
    pub history : History
    pub is : line_of o history ≡ line
    pub at_in : at ≤ length xs
    pub from_in : from ≤ length out
    pub whole : left (opened o).state xs out₀ pieces₀ spans₀ ≡ behind (take k pieces) (take k spans) (take from out) (left line (drop at xs) (drop from out) (drop k pieces) (drop k spans))
    pub kept : AllKept o history (drop at xs) (drop from out) (drop k pieces) (drop k spans) → AllKept o none_yet xs out₀ pieces₀ spans₀

  module _ {line : Line} {at from k : ℕ} {out : List Float} {pieces spans : List ℕ} (w : Onward line at from k out pieces spans) where
    -- at the end of a list of numbers
    ended :
        left line (drop at xs) (drop from out) (drop k pieces) (drop k spans) ≡ record { line = line; pieces = drop k pieces; spans = drop k spans; out = drop from out }
        → record { line = line; pieces = pieces; spans = spans; out = out } ≡ all_left o xs out₀ pieces₀ spans₀
    ended e =
        sym (all_left_lem o w.ok xs out₀ pieces₀ spans₀
        ∙ w.whole
        ∙ ap (behind (take k pieces) (take k spans) (take from out)) e
        ∙ (rw (take-append-drop k pieces, take-append-drop k spans, take-append-drop from out)))

    abbrev Ended : Type 0
    Ended = (◌≡◌ {A = Left} (record { line = line; pieces = pieces; spans = spans; out = out }) (all_left o xs out₀ pieces₀ spans₀)) × AllKept o none_yet xs out₀ pieces₀ spans₀

    pieces_ended : length pieces ≤ k → Ended
    pieces_ended h =
        let e : drop k pieces ≡ [] = drop_of_length-le pieces h in (
          ended (ap (λ (l : List ℕ). left line (drop at xs) (drop from out) l (drop k spans)) e ∙ no_piece line (drop at xs) (drop from out) (drop k spans) ∙ ap {B = Left} (λ (l : List ℕ). record { line = line; pieces = l; spans = drop k spans; out = drop from out }) (sym e)),
          w.kept (subst (λ (l : List ℕ). AllKept o w.history (drop at xs) (drop from out) l (drop k spans)) (sym e) (none_kept_piece o w.history (drop at xs) (drop from out) (drop k spans))),
        )

    spans_ended : length spans ≤ k → Ended
    spans_ended h =
        let e : drop k spans ≡ [] = drop_of_length-le spans h in (
          ended (ap (left line (drop at xs) (drop from out) (drop k pieces)) e ∙ no_span line (drop at xs) (drop from out) (drop k pieces) ∙ ap {B = Left} (λ (l : List ℕ). record { line = line; pieces = drop k pieces; spans = l; out = drop from out }) (sym e)),
          w.kept (subst (AllKept o w.history (drop at xs) (drop from out) (drop k pieces)) (sym e) (none_kept_span o w.history (drop at xs) (drop from out) (drop k pieces))),
        )

    pub both_ended : min (length pieces) (length spans) ≤ k → Ended
    both_ended h = elim (dec_le (length pieces) k) [ yes p ↦ pieces_ended p | no p ↦ spans_ended (omega arith) ]

    -- one feed more
    module _ {p s : ℕ} (some_piece : k < length pieces) (some_span : k < length spans) (p_is : p ≡ get_or pieces k 0) (s_is : s ≡ get_or spans k 0)
        {told : Outcome Moved Line} (told_lent : told ≡ one line (W.left at xs) (W.left from out) p s)
        (demand_lent : Demand3 line (take p (W.left at xs)) (take s (W.left from out)) (feed_span line (take p (W.left at xs)) (take s (W.left from out))) told)
        (long_lent : length (feed_span line (take p (W.left at xs)) (take s (W.left from out))) ≡ length (take s (W.left from out))) where
      abbrev X : List ℤ
      X = drop at xs

      abbrev O : List Float
      O = drop from out

      abbrev F : List Float
      F = feed_span line (take p X) (take s O)

      abbrev t : ℕ
      t = told.value.taken

      abbrev v : ℕ
      v = told.value.written

      abbrev after : List Float
      after = take from out ++ (F ++ drop s O)

      told_is : told ≡ one line X O p s
      told_is = rw (W.left_are at xs, W.left_are from out) at told_lent

      demand : Demand3 line (take p X) (take s O) F told
      demand = rw (W.left_are at xs, W.left_are from out) at demand_lent

      long : length F ≡ length (take s O)
      long = rw (W.left_are at xs, W.left_are from out) at long_lent

      promised : Kept o (take p X) (take s O) (feed_span (line_of o w.history) (take p X) (take s O)) (one (line_of o w.history) X O p s) (taken_of o (fed_on w.history X O p s)) (written_of o (fed_on w.history X O p s))
      promised = kept_next o w.ok w.history line w.is X O p s told told_is demand

      told_so : one (line_of o w.history) X O p s ≡ told
      told_so = ap (λ (l : Line). one l X O p s) w.is ∙ sym told_is

      pub not_refused : told.number ≡ 0
      not_refused = subst (λ (r : Outcome Moved Line). r.number ≡ 0) told_so promised.not_refused

      pub taken_in : at + t ≤ length xs
      taken_in =
          let a : t ≤ length (take p X) = subst (λ (r : Outcome Moved Line). r.value.taken ≤ length (take p X)) told_so promised.taken_lent in
          omega (arith, a, length-take p X, length-drop at xs, w.at_in)

      front_long : length (take from out ++ F) ≡ from + min s (length out - from)
      front_long =
          let a = length-append (take from out) F in
          let b = length-take from out in
          let c = length-take s O in
          let e = length-drop from out in
          let g = w.from_in in
          omega (arith, a, b, c, e, g, long)

      pub after_long_lem : length after ≡ length out
      after_long_lem =
          let a = length-append (take from out) (F ++ drop s O) in
          let b = length-append F (drop s O) in
          let c = length-take from out in
          let e = length-take s O in
          let f = length-drop s O in
          let g = length-drop from out in
          let i = w.from_in in
          omega (arith, a, b, c, e, f, g, i, long)

      taken_places : take (from + min s (length out - from)) after ≡ take from out ++ F
      taken_places = ap (take (from + min s (length out - from))) (sym (append_assoc (take from out) F (drop s O))) ∙ take_at (take from out ++ F) (drop s O) _ front_long

      left_places : drop (from + min s (length out - from)) after ≡ drop s O
      left_places = ap (drop (from + min s (length out - from))) (sym (append_assoc (take from out) F (drop s O))) ∙ drop_at (take from out ++ F) (drop s O) _ front_long

      pieces_split : drop k pieces ≡ p ∷ drop (suc k) pieces
      pieces_split = drop-cons pieces k 0 some_piece ∙ ap (λ (n : ℕ). n ∷ drop (suc k) pieces) (sym p_is)

      spans_split : drop k spans ≡ s ∷ drop (suc k) spans
      spans_split = drop-cons spans k 0 some_span ∙ ap (λ (n : ℕ). n ∷ drop (suc k) spans) (sym s_is)

      pub onward : Onward told.state (at + t) (from + min s (length out - from)) (suc k) after (set pieces k t) (set spans k v)
      onward =
          record {
            ok = w.ok;
            history = fed_on w.history X O p s;
            is = ap (λ (r : Outcome Moved Line). r.state) told_so;
            at_in = taken_in;
            from_in = omega (arith, front_long, length-append (take from out ++ F) (drop s O), ap length (append_assoc (take from out) F (drop s O)));
            whole =
                w.whole
                ∙ ap (behind (take k pieces) (take k spans) (take from out))
                (ap₂ {C = Left} (λ (a b : List ℕ). left line X O a b) pieces_split spans_split ∙ left_step line X O p s (drop (suc k) pieces) (drop (suc k) spans) told told_is)
                ∙ behind_behind (take k pieces) (take k spans) (take from out) (t ∷ []) (v ∷ []) F (left told.state (drop t X) (drop s O) (drop (suc k) pieces) (drop (suc k) spans))
                ∙ sym (rw (take-suc-set pieces k t some_piece, take-suc-set spans k v some_span, taken_places, left_places, drop-set-lt (suc k) pieces k t (omega arith), drop-set-lt (suc k) spans k v (omega arith), sym (drop-drop t at xs)));
            kept = λ a. w.kept (going a);
          }
        where
          going :
              AllKept o (fed_on w.history X O p s) (drop (at + t) xs) (drop (from + min s (length out - from)) after) (drop (suc k) (set pieces k t)) (drop (suc k) (set spans k v))
              → AllKept o w.history X O (drop k pieces) (drop k spans)
          going a =
              let b : AllKept o (fed_on w.history X O p s) (drop t X) (drop s O) (drop (suc k) pieces) (drop (suc k) spans) = rw (left_places, drop-set-lt (suc k) pieces k t (omega arith), drop-set-lt (suc k) spans k v (omega arith), sym (drop-drop t at xs)) at a in
              let c : AllKept o (fed_on w.history X O p s) (drop (one (line_of o w.history) X O p s).value.taken X) (drop s O) (drop (suc k) pieces) (drop (suc k) spans) =
              subst (λ (r : Outcome Moved Line). AllKept o (fed_on w.history X O p s) (drop r.value.taken X) (drop s O) (drop (suc k) pieces) (drop (suc k) spans)) (sym told_so) b
              in
              subst (λ (q : List ℕ). AllKept o w.history X O (drop k pieces) q) (sym spans_split)
              (subst (λ (q : List ℕ). AllKept o w.history X O q (s ∷ drop (suc k) spans)) (sym pieces_split)
              (kept_step o w.history X O p s (drop (suc k) pieces) (drop (suc k) spans) promised c))

      -- the same, of a number and places that the loop has under names of its own
      pub onward_as :
          {m : ℕ} {part after' : List Float} → part ≡ feed_span line (take p (W.left at xs)) (take s (W.left from out)) ++ drop s (W.left from out)
          → after' ≡ take from out ++ (part ++ drop (length out - from) (drop from out)) → m ≡ min s (length after' - from)
          → Onward told.state (at + t) (from + m) (k + 1) after' (set pieces k t) (set spans k v)
      onward_as {m} {part} {after'} ep ew em =
          let same : part ≡ F ++ drop s O = rw (W.left_are at xs, W.left_are from out) at ep in
          let ea : after' ≡ after = ew ∙ ap (λ (v : List Float). take from out ++ v) (W.none_behind from out part ∙ same) in
          let ek : k + 1 ≡ suc k = omega arith in
          let en : m ≡ min s (length out - from) = em ∙ ap (λ (n : ℕ). min s (n - from)) (ap length ea ∙ after_long_lem) in
          rw (en, ea, ek) onward
