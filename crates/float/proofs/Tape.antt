-- A delay line stands on a tape from the newest sample on, and a sample goes in before it: what is read of the tape is the delay that is moved.
use Rattle.std.proofs.Common.{◌≡◌, ℕ, zero, suc, ◌+◌, ◌-◌, ◌<◌, ◌≤◌, List, [], ◌∷◌, ◌++◌, length, get_or, take, drop, set, sym, refl, ap, ◌∙◌, append-nil, arith, length-drop, take-append-drop, length-take-le, get_or-take, take-take, take_at, drop_at, drop_of_length-le, le-ltb, le-leb}
use lib.ListN.{get_or-append}
use lib.Seq.{set_split, paste}
use lib.Ieee.{Float, nan}
use Rattle.float.specs.PolyphaseResamp.{shifted_in}
use Rattle.float.specs.inner.Ending.{ending_in}

-- the delay whose first T places stand on the tape, and whose others are those of d
abbrev pub wound : ℕ → List Float → ℕ → List Float → List Float
wound T tape newest d = take T (drop newest tape) ++ drop T d

-- samples that fit stand at the end
pub ends_in : (w span : List Float) → length w ≤ length span → ending_in w span ≡ take (length span - length w) span ++ w
unfolding ending_in
ends_in w span h = rw (le-ltb (length span) (length w) h)

-- of the samples behind x only T − 1 stay
pub one_more : (T : ℕ) (x : Float) (l a : List Float) → take T l ≡ take T a → take T (x ∷ l) ≡ take T (x ∷ a)
one_more zero x l a e = refl
one_more (suc n) x l a e = ap (λ (t : List Float). x ∷ t) (sym (take-take n (suc n) l (omega arith)) ∙ ap (take n) e ∙ take-take n (suc n) a (omega arith))

-- a sample before the newest
set_before : (tape : List Float) (k : ℕ) (x : Float) → k < length tape → drop k (set tape k x) ≡ x ∷ drop (suc k) tape
set_before tape k x h = rw (set_split tape k x h) (drop_at (take k tape) (x ∷ drop (suc k) tape) k (length-take-le k tape (omega arith)))

pub before_newest : (T newest : ℕ) (x : Float) (tape : List Float) → 1 ≤ newest → newest ≤ length tape → take T (drop (newest - 1) (set tape (newest - 1) x)) ≡ take T (x ∷ drop newest tape)
before_newest T newest x tape some h =
    let e : suc (newest - 1) ≡ newest = omega arith in
    ap (take T) (set_before tape (newest - 1) x (omega arith) ∙ rw e)

-- at the end of the tape stands what is put there
at_end : (T : ℕ) (tape d : List Float) → T ≤ length tape → drop (length tape - T) (take (length tape - T) tape ++ take T d) ≡ take T d
at_end T tape d h = drop_at (take (length tape - T) tape) (take T d) (length tape - T) (length-take-le (length tape - T) tape (omega arith))

-- a sample before the taps, which stood in front and are copied to the end
pub wound_back :
    (T n : ℕ) (x : Float) (tape next : List Float) → n ≡ T → T < length tape → length next ≡ length tape → next ≡ paste tape (length tape - T) tape n
    → take T (drop (length tape - T - 1) (set next (length tape - T - 1) x)) ≡ take T (x ∷ tape)
wound_back T n x tape next same h long e =
    let none : drop (length tape - T + T) tape ≡ [] = drop_of_length-le tape (omega arith) in
    let copied : next ≡ take (length tape - T) tape ++ take T tape =
    e
    ∙ ap (paste tape (length tape - T) tape) same
    ∙ ap (λ (l : List Float). (take (length tape - T) tape ++ take T tape) ++ l) none
    ∙ append-nil (take (length tape - T) tape ++ take T tape) in
    let there : drop (length tape - T) next ≡ take T tape = rw copied (at_end T tape tape (omega arith)) in
    before_newest T (length tape - T) x next (omega arith) (omega arith) ∙ rw there (one_more T x (take T tape) tape (take-take T T tape (omega arith)))

-- what is put at the end of as many places is all that stands there
pub put_over : (p w last : List Float) → length w ≡ length p → last ≡ take (length p - length w) p ++ w → last ≡ w
put_over p w last e h = let none : length p - length w ≡ 0 = omega arith in h ∙ rw none

module _ (T : ℕ) (d : List Float) where
  pub wound_start : (tape : List Float) → T ≤ length tape → wound T (take (length tape - T) tape ++ take T d) (length tape - T) d ≡ d
  wound_start tape h = rw (at_end T tape d h, take-take T T d (omega arith)) (take-append-drop T d)

  -- a sample that goes in moves the delay
  pub wound_in :
      (tape next : List Float) (newest r : ℕ) (x : Float) → T ≤ 16 → newest + T ≤ length tape → take T (drop r next) ≡ take T (x ∷ drop newest tape)
      → wound T next r d ≡ shifted_in T x (wound T tape newest d)
  unfolding shifted_in
  wound_in tape next newest r x few room e =
      let a : List Float = drop newest tape in
      let long : T ≤ length (drop newest tape) = simp length-drop (omega arith) in
      let front : length (take T a) ≡ T = length-take-le T a long in
      rw (le-leb T 16 few, drop_at (take T a) (drop T d) T front, one_more T x (wound T tape newest d) a (take_at (take T a) (drop T d) T front), e)

  -- what is read from the newest on is the delay
  pub wound_at :
      (tape : List Float) (newest n t : ℕ) → newest + T ≤ length tape → T ≤ n → t < T → get_or (take n (drop newest tape)) t nan ≡ get_or (wound T tape newest d) t nan
  wound_at tape newest n t room h under =
      let a : List Float = drop newest tape in
      let long : length (take T a) ≡ T = length-take-le T a (simp length-drop (omega arith)) in
      get_or-take n a t nan (omega arith) ∙ sym (get_or-append (take T a) (drop T d) nan t (omega arith) ∙ get_or-take T a t nan under)

  -- and so is what is put in front of the delay
  pub wound_front : (tape : List Float) (newest n : ℕ) → n ≡ T → take n (drop newest tape) ++ drop T d ≡ wound T tape newest d
  wound_front tape newest n same = ap (λ (k : ℕ). take k (drop newest tape) ++ drop T d) same
