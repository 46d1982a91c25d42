-- Delay and samples in a row: the window of each output lies along them, and the last of them are the next delay.
use mathlib.Core.Path.{◌≡◌, refl, sym, ap, ap₂, ◌∙◌, subst}
use mathlib.Core.Bool.{Bool}
use mathlib.Core.List.{List, [], ◌∷◌, ◌++◌, append-nil, append_assoc}
use Prim.Native.Nat.{ℕ, zero, suc, ◌+◌, ◌-◌, ◌*◌, ◌≤◌, ◌<◌, min}
use native.Mathlib.Numerals.{add-one}
use native.Mathlib.Omega.{arith}
use lib.ListN.{length, get_or, take, drop, length-append, length-drop, take-append-drop}
use lib.Seq.{length-take-le, take_at, take-add, take-take, take_all, take-append-le, take-append-add, drop_at, drop-append-le, drop-append-add, drop-drop}
use lib.Ieee.{Float, nan}
use Rattle.theory.specs.Sections.{Section, outs, state}
use Rattle.q15.proofs.Filling.{listed_ext, listed_take}
use Rattle.float.proofs.Laid.{delay_in_front, samples_behind, tape_last}
use Rattle.half_band.specs.Windows.{slid}
use Rattle.half_band.proofs.Blocks.{outs_length}
use Rattle.half_band.proofs.Moving.{length_slid}
use Rattle.linear_phase.specs.Windows.{window_value}
use Rattle.linear_phase.specs.inner.Lanes.{window_values, linear_phase, OnTape, InRow}
use Rattle.linear_phase.proofs.SideBySide.{rest, values_long}
use Rattle.linear_phase.proofs.Groups.{values_part, values_front}

pub outs_long : (odd antisymmetric : Bool) (c d v : List Float) → length (outs (linear_phase odd antisymmetric c) d v) ≡ length v
unfolding linear_phase
outs_long odd antisymmetric c d v = outs_length (linear_phase odd antisymmetric c) (λ d x. window_value odd antisymmetric c (d ++ (x ∷ []))) (λ d x. refl) d v

-- ---- delay d and samples v: output i is made of the window from i on, and the last samples are the next delay
module _ (odd antisymmetric : Bool) (c : List Float) where
  abbrev f : Section (List Float) Float Float
  f = linear_phase odd antisymmetric c

  -- a sample that goes in moves the window along
  along : (d v : List Float) (x : Float) → 1 ≤ length d → slid d (x ∷ []) ++ v ≡ drop 1 (d ++ (x ∷ v))
  unfolding slid
  along d v x h = append_assoc (drop 1 d) (x ∷ []) v ∙ sym (drop-append-le 1 d (x ∷ v) h)

  dropped : (n : ℕ) (l : List Float) → drop n (drop 1 l) ≡ drop (suc n) l
  dropped n l = let e : 1 + n ≡ suc n = omega arith in drop-drop n 1 l ∙ ap (λ (k : ℕ). drop k l) e

  pub state_on : (v d : List Float) → 1 ≤ length d → state f d v ≡ drop (length v) (d ++ v)
  unfolding linear_phase
  state_on [] d h = sym (append-nil d)
  state_on (x ∷ v) d h =
      let e : length (slid d (x ∷ [])) ≡ length d = length_slid d (x ∷ []) h in
      state_on v (slid d (x ∷ [])) (omega arith) ∙ ap (drop (length v)) (along d v x h) ∙ dropped (length v) (d ++ (x ∷ v))

  pub value_on : (v : List Float) (i : ℕ) (d : List Float) → 1 ≤ length d → i < length v → get_or (outs f d v) i nan ≡ window_value odd antisymmetric c (take (suc (length d)) (drop i (d ++ v)))
  unfolding linear_phase
  value_on [] i d h l = absurd (omega arith)
  value_on (x ∷ v) zero d h l =
      ap (window_value odd antisymmetric c) (sym (ap (λ (n : ℕ). take n (d ++ (x ∷ v))) (sym (add-one (length d))) ∙ take-append-add d (x ∷ v) 1))
  value_on (x ∷ v) (suc i) d h l =
      let e : length (slid d (x ∷ [])) ≡ length d = length_slid d (x ∷ []) h in
      value_on v i (slid d (x ∷ [])) (omega arith) (omega arith)
      ∙ ap (λ (n : ℕ). window_value odd antisymmetric c (take (suc n) (drop i (slid d (x ∷ []) ++ v)))) e
      ∙ ap (λ (t : List Float). window_value odd antisymmetric c (take (suc (length d)) (drop i t))) (along d v x h)
      ∙ ap (λ (t : List Float). window_value odd antisymmetric c (take (suc (length d)) t)) (dropped i (d ++ (x ∷ v)))

  -- all of them
  pub values_on : (v d : List Float) → 1 ≤ length d → window_values odd antisymmetric c (length d) (d ++ v) (length v) ≡ outs f d v
  unfolding window_values window_value
  values_on v d h =
      listed_ext (length v) (λ i. window_value odd antisymmetric c (take (suc (length d)) (drop i (d ++ v)))) (λ i. get_or (outs f d v) i nan) (λ i l. sym (value_on v i d h l))
      ∙ listed_take nan (length v) (outs f d v) (omega (arith, made))
      ∙ take_all (length v) (outs f d v) (omega (arith, made))
    where
      made : length (outs (linear_phase odd antisymmetric c) d v) ≡ length v
      made = outs_long odd antisymmetric c d v

-- of what code makes: the samples by another name, and the delay as it stands on a tape
pub next_of : (odd antisymmetric : Bool) (c d : List Float) {v samples next : List Float} → samples ≡ v → 1 ≤ length d → next ≡ drop (length samples) (d ++ samples)
    → next ≡ state (linear_phase odd antisymmetric c) d v
next_of odd antisymmetric c d {v} {samples} e some q = q ∙ ap (λ (l : List Float). drop (length l) (d ++ l)) e ∙ sym (state_on odd antisymmetric c v d some)

pub outs_of : (odd antisymmetric : Bool) (c v tape : List Float) {d y : List Float} {long n : ℕ} → long ≡ length d → length v ≡ n → 1 ≤ length d
    → take (length d) tape ≡ d → y ≡ window_values odd antisymmetric c long (take long tape ++ v) n → y ≡ outs (linear_phase odd antisymmetric c) d v
outs_of odd antisymmetric c v tape {d} {y} {long} {n} e l some front q =
    q
    ∙ ap (λ (k : ℕ). window_values odd antisymmetric c k (take k tape ++ v) n) e
    ∙ ap (λ (t : List Float). window_values odd antisymmetric c (length d) (t ++ v) n) front
    ∙ ap (λ (m : ℕ). window_values odd antisymmetric c (length d) (d ++ v) m) (sym l)
    ∙ values_on odd antisymmetric c v d some

-- delay and first samples stand on a tape
pub in_row : (tape d samples part : List Float) → part ≡ take (length part) samples → min (length samples) (length d + 16) ≤ length part → take (length d + length part) tape ≡ d ++ part
    → InRow tape d samples
in_row tape d samples part e h q = record { front = delay_in_front tape d part q; on = record { all = refl; same = behind (min (length samples) (length d + 16)) h } }
  where
    behind : (k : ℕ) → k ≤ length part → take k (drop (length d) tape) ≡ take k samples
    behind k h =
        sym (take-take k (length part) (drop (length d) tape) h)
        ∙ ap (take k) (samples_behind tape d part q ∙ e)
        ∙ take-take k (length part) samples h

-- the same samples by another name
pub renamed : {tape samples v : List Float} {long k n : ℕ} → samples ≡ v → length v ≡ n → k ≡ long → OnTape k tape samples (length samples) → OnTape long tape v n
renamed {tape} {samples} {v} {long} {k} {n} e l g on =
    subst (OnTape long tape v) l (subst (λ (s : List Float). OnTape long tape s (length s)) e (subst (λ (j : ℕ). OnTape j tape samples (length samples)) g on))

-- a window of one that is cut off behind it
pub taken_from : (l : List Float) (m k s : ℕ) → k + s ≤ m → m ≤ length l → take s (drop k (take m l)) ≡ take s (drop k l)
taken_from l m k s h g =
    let e : length (take m l) ≡ m = length-take-le m l g in
    sym (take-append-le s (drop k (take m l)) (drop m l) (simp length-drop (omega (arith, e))))
    ∙ ap (take s) (sym (drop-append-le k (take m l) (drop m l) (omega (arith, e))))
    ∙ ap (λ (z : List Float). take s (drop k z)) (take-append-drop m l)

-- outputs at windows that two lines share
pub same_values : (odd antisymmetric : Bool) (c : List Float) (long n : ℕ) (a b : List Float) → long + n ≤ length a → long + n ≤ length b → take (long + n) a ≡ take (long + n) b
    → window_values odd antisymmetric c long a n ≡ window_values odd antisymmetric c long b n
unfolding window_values
same_values odd antisymmetric c long n a b la lb e =
    listed_ext n (λ i. window_value odd antisymmetric c (take (suc long) (drop i a))) (λ i. window_value odd antisymmetric c (take (suc long) (drop i b)))
    (λ i l. ap (window_value odd antisymmetric c)
    (sym (taken_from a (long + n) i (suc long) (omega arith) la)
    ∙ ap (λ (z : List Float). take (suc long) (drop i z)) e
    ∙ taken_from b (long + n) i (suc long) (omega arith) lb))

-- delay and all samples stand on a tape
pub few_of : (odd antisymmetric : Bool) (c d v tape : List Float) {y : List Float} {long n : ℕ} → long ≡ length d → length v ≡ n
    → 1 ≤ length d → length d + length v ≤ length tape → take (length d + length v) tape ≡ d ++ v → y ≡ window_values odd antisymmetric c long tape n → y ≡ outs (linear_phase odd antisymmetric c) d v
few_of odd antisymmetric c d v tape {y} {long} {n} e l some room whole q =
    q
    ∙ ap (λ (k : ℕ). window_values odd antisymmetric c k tape n) e
    ∙ ap (λ (m : ℕ). window_values odd antisymmetric c (length d) tape m) (sym l)
    ∙ same_values odd antisymmetric c (length d) (length v) tape (d ++ v) room (omega (arith, length-append d v))
    (whole ∙ sym (take_all (length d + length v) (d ++ v) (omega (arith, length-append d v))))
    ∙ values_on odd antisymmetric c v d some

-- samples put behind the delay that stands in front of a tape
pub put_behind : (d s p r : List Float) → p ≡ s → take (length d + length s) (d ++ (p ++ r)) ≡ d ++ s
put_behind d s p r e =
    ap (λ (l : List Float). take (length d + length s) (d ++ (l ++ r))) e
    ∙ ap (take (length d + length s)) (sym (append_assoc d s r))
    ∙ take_at (d ++ s) r (length d + length s) (length-append d s)

pub long_behind : (t p : List Float) (k n : ℕ) → k + n ≤ length t → length p ≡ n → length (take k t ++ (p ++ drop n (drop k t))) ≡ length t
long_behind t p k n h e =
    length-append (take k t) (p ++ drop n (drop k t))
    ∙ omega (arith, h, e, length-take-le k t (omega arith), length-append p (drop n (drop k t)), length-drop n (drop k t), length-drop k t)

-- the first outputs on a tape of the delay and the first samples, and the others along the samples
pub straight_outs : (odd antisymmetric : Bool) (c d v tape : List Float) {h r : List Float} {long : ℕ} → long ≡ length d → 1 ≤ length d
    → length d ≤ length v → length d + length d ≤ length tape → take (length d + length d) tape ≡ d ++ take (length d) v → h ≡ window_values odd antisymmetric c long tape long
    → r ≡ window_values odd antisymmetric c long v (length v - long) → h ++ r ≡ outs (linear_phase odd antisymmetric c) d v
straight_outs odd antisymmetric c d v tape {h} {r} {long} e some fits room whole eh er =
    ap₂ {C = List Float} ◌++◌ head others
    ∙ sym (take-add (length d) (length v - length d) all)
    ∙ ap (λ (k : ℕ). take k all) (count (length d) (length v) fits)
    ∙ take_all (length v) all (omega (arith, values_long odd antisymmetric c (length d) (d ++ v) (length v)))
    ∙ values_on odd antisymmetric c v d some
  where
    all : List Float
    all = window_values odd antisymmetric c (length d) (d ++ v) (length v)

    count : (k n : ℕ) → k ≤ n → k + (n - k) ≡ n
    count k n h = omega arith

    head : h ≡ take (length d) (window_values odd antisymmetric c (length d) (d ++ v) (length v))
    head =
        eh
        ∙ ap (λ (k : ℕ). window_values odd antisymmetric c k tape k) e
        ∙ same_values odd antisymmetric c (length d) (length d) tape (d ++ v) room (omega (arith, length-append d v)) (whole ∙ sym (take-append-add d v (length d)))
        ∙ values_front odd antisymmetric c (length d) (d ++ v) (length v) (length d) fits

    others : r ≡ take (length v - length d) (drop (length d) (window_values odd antisymmetric c (length d) (d ++ v) (length v)))
    others =
        er
        ∙ ap (λ (k : ℕ). window_values odd antisymmetric c k v (length v - k)) e
        ∙ ap (λ (l : List Float). window_values odd antisymmetric c (length d) l (length v - length d)) (sym (drop_at d v (length d) refl))
        ∙ values_part odd antisymmetric c (length d) (d ++ v) (length v) (length d) (length v - length d) (omega arith)

-- that tape: so many places of zeros, over which the delay was put, and then the first samples behind it
pub straight_tape : (d v p q zeros : List Float) (k : ℕ) → length d ≡ k → k + k ≤ length zeros → k ≤ length v → p ≡ d → q ≡ take k v
    → let t = p ++ drop k zeros in let u = take k t ++ (q ++ drop (k + k - k) (drop k t)) in (length d + length d ≤ length u) × (take (length d + length d) u ≡ d ++ take (length d) v)
straight_tape d v p q zeros k is room fits ep eq = (
  omega (arith, is, places, long_behind (p ++ drop k zeros) q k (k + k - k) (omega (arith, places, room)) (eq_long ∙ less k)),
  ap (λ (l : List Float). take (length d + length d) (l ++ (q ++ drop (k + k - k) (drop k (p ++ drop k zeros))))) (take_at p (drop k zeros) k (ap length ep ∙ is) ∙ ep)
      ∙ ap (λ (m : ℕ). take (length d + m) (d ++ (q ++ drop (k + k - k) (drop k (p ++ drop k zeros))))) (is ∙ sym (length-take-le k v fits))
      ∙ put_behind d (take k v) q (drop (k + k - k) (drop k (p ++ drop k zeros))) eq
      ∙ ap (λ (m : ℕ). d ++ take m v) (sym is),
)
  where
    places : length (p ++ drop k zeros) ≡ length zeros
    places = length-append p (drop k zeros) ∙ omega (arith, ap length ep, is, room, length-drop k zeros)

    eq_long : length q ≡ k
    eq_long = ap length eq ∙ length-take-le k v fits

    less : (k : ℕ) → k ≡ k + k - k
    less k = omega arith

-- where they are fewer than the delay has, it is a part of the tape
pub few_last : (tape d v : List Float) → length v < length d → 2 * length d ≤ length tape → InRow tape d v
    → take (length v + length d - length v) (drop (length v) tape) ≡ drop (length v) (d ++ v)
few_last tape d v few room row =
    tape_last tape d v (omega arith) whole
  where
    all : min (length v) (length d + 16) ≡ length v
    all = omega arith

    behind : take (length v) (drop (length d) tape) ≡ v
    behind = ap (λ (k : ℕ). take k (drop (length d) tape)) (sym all) ∙ row.on.same ∙ ap (λ (k : ℕ). take k v) all ∙ take_all (length v) v (omega arith)

    whole : take (length d + length v) tape ≡ d ++ v
    whole = take-add (length d) (length v) tape ∙ ap (λ (l : List Float). l ++ take (length v) (drop (length d) tape)) row.front ∙ ap (λ (l : List Float). d ++ l) behind

pub many_last : (d v : List Float) → length d ≤ length v → take (length v - (length v - length d)) (drop (length v - length d) v) ≡ drop (length v) (d ++ v)
many_last d v h =
    rest v (length v - length d)
    ∙ sym (drop-append-add d v (length v - length d))
    ∙ ap (λ (k : ℕ). drop k (d ++ v)) (up (length v) (length d) h)
  where
    up : (n k : ℕ) → k ≤ n → k + (n - k) ≡ n
    up n k h = omega arith
