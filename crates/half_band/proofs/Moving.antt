-- A window moved down by so many places, and the stores of what comes in behind it.
use mathlib.Core.Path.{◌≡◌, sym, ap, ◌∙◌}
use mathlib.Core.List.{List, [], ◌∷◌, ◌++◌}
use Prim.Native.Nat.{ℕ, suc, ◌+◌, ◌*◌, ◌-◌, ◌<◌, ◌≤◌}
use native.Mathlib.Omega.{arith}
use lib.ListN.{length, get_or, set, take, drop, length-drop, length-append, drop_of_length-le}
use lib.Seq.{length-take-le, take_all, take-suc, drop-cons, set_at, append_snoc}
use Rattle.std.proofs.lemmas.List.{get_or-drop, get_or-append_right}
use lib.Ieee.{Float, nan}
use Rattle.half_band.specs.Windows.{slid}

-- a window moved down by a loop, after j turns
abbrev pub moved : List Float → ℕ → ℕ → List Float
moved w by j = take j (drop by w) ++ drop j w

-- a turn of the loop
pub moved_on : (w : List Float) (by j : ℕ) → j + by < length w → set (moved w by j) j (get_or (moved w by j) (j + by) nan) ≡ moved w by (suc j)
moved_on w by j h =
    let p = take j (drop by w) in
    let front : length p ≡ j = length-take-le j (drop by w) (simp length-drop (omega arith)) in
    let read : get_or (moved w by j) (j + by) nan ≡ get_or w (j + by) nan =
    get_or-append_right p (drop j w) j (j + by) nan front (omega arith) ∙ get_or-drop j w (j + by - j) nan ∙ ap (λ (i : ℕ). get_or w i nan) (omega arith) in
    ap (set (moved w by j) j) read
    ∙ ap (λ (t : List Float). set (p ++ t) j (get_or w (j + by) nan)) (drop-cons w j nan (omega arith))
    ∙ set_at p (get_or w j nan) (drop (suc j) w) (get_or w (j + by) nan) j front
    ∙ sym (append_snoc p (get_or w (j + by) nan) (drop (suc j) w))
    ∙ ap (λ (t : List Float). t ++ drop (suc j) w) (ap (λ (x : Float). p ++ x ∷ []) (ap (λ (i : ℕ). get_or w i nan) (omega arith) ∙ sym (get_or-drop by w j nan)) ∙ sym (take-suc (drop by w) j nan (simp length-drop (omega arith))))

-- the last place
last_in : (p w : List Float) (x : Float) → 1 ≤ length w → length p ≡ length w - 1 → set (p ++ drop (length w - 1) w) (length w - 1) x ≡ p ++ x ∷ []
last_in p w x h e =
    ap (λ (t : List Float). set (p ++ t) (length w - 1) x) (drop-cons w (length w - 1) nan (omega arith) ∙ ap (λ (t : List Float). get_or w (length w - 1) nan ∷ t) (drop_of_length-le w {i = suc (length w - 1)} (omega arith)))
    ∙ set_at p (get_or w (length w - 1) nan) [] x (length w - 1) e

-- two turns, the second of which reads what the first has left
pub two_moved_on :
    (w v : List Float) (by i next r s : ℕ) → v ≡ moved w by (2 * i) → next ≡ 2 * i + 1 → r ≡ 2 * i + by → s ≡ r + 1 → s < length w
    → set (set v (2 * i) (get_or v r nan)) next (get_or (set v (2 * i) (get_or v r nan)) s nan) ≡ moved w by (2 * (i + 1))
two_moved_on w v by i next r s e en er es h =
    let j = 2 * i in
    let once : set v j (get_or v r nan) ≡ moved w by (suc j) = rw (e, er) (moved_on w by j (omega (arith, er, es, h))) in
    let to : next ≡ suc j = omega (arith, en) in
    let from : s ≡ suc j + by = omega (arith, er, es) in
    let two : 2 * (i + 1) ≡ suc (suc j) = omega arith in
    rw (once, to, from, two) (moved_on w by (suc j) (omega (arith, from, h)))

-- all but the last `by` places
all_moved : (w : List Float) (by : ℕ) → moved w by (length w - by) ≡ drop by w ++ drop (length w - by) w
all_moved w by = ap (λ (t : List Float). t ++ drop (length w - by) w) (take_all (length w - by) (drop by w) (simp length-drop (omega arith)))

-- the stores of one sample and of a pair behind what was moved
pub sample_in : (w : List Float) (x : Float) → 1 ≤ length w → set (drop 1 w ++ drop (length w - 1) w) (length w - 1) x ≡ slid w (x ∷ [])
unfolding slid
sample_in w x h = last_in (drop 1 w) w x h (length-drop 1 w)

pair_behind : (w : List Float) (a b : Float) → 2 ≤ length w → set (set (drop 2 w ++ drop (length w - 2) w) (length w - 2) a) (length w - 1) b ≡ slid w (a ∷ b ∷ [])
unfolding slid
pair_behind w a b h =
    ap (λ (t : List Float). set (set (drop 2 w ++ t) (length w - 2) a) (length w - 1) b) (drop-cons w (length w - 2) nan (omega arith))
    ∙ ap (λ (t : List Float). set t (length w - 1) b) (set_at (drop 2 w) (get_or w (length w - 2) nan) (drop (suc (length w - 2)) w) a (length w - 2) (length-drop 2 w))
    ∙ ap (λ (t : List Float). set t (length w - 1) b) (sym (append_snoc (drop 2 w) a (drop (suc (length w - 2)) w)))
    ∙ ap (λ (k : ℕ). set ((drop 2 w ++ a ∷ []) ++ drop k w) (length w - 1) b) (next (length w) h)
    ∙ last_in (drop 2 w ++ a ∷ []) w b (omega arith) (length-append (drop 2 w) (a ∷ []) ∙ ap (λ (k : ℕ). k + 1) (length-drop 2 w) ∙ less (length w) h)
    ∙ append_snoc (drop 2 w) a (b ∷ [])
  where
    next : (n : ℕ) → 2 ≤ n → suc (n - 2) ≡ n - 1
    next n h = omega arith

    less : (n : ℕ) → 2 ≤ n → n - 2 + 1 ≡ n - 1
    less n h = omega arith

-- the same behind the loop
pub pair_put : (w v : List Float) (a b : Float) (j : ℕ) → 2 ≤ length w → v ≡ moved w 2 j → j ≡ length w - 2 → set (set v (length w - 2) a) (length w - 1) b ≡ slid w (a ∷ b ∷ [])
pair_put w v a b j h e n = ap (λ (t : List Float). set (set t (length w - 2) a) (length w - 1) b) (e ∙ ap (moved w 2) n ∙ all_moved w 2) ∙ pair_behind w a b h

pub sample_put : (w v : List Float) (x : Float) (j : ℕ) → 2 ≤ length w → v ≡ moved w 1 j → j ≡ length w - 2 → set (set v (length w - 2) (get_or v (length w - 1) nan)) (length w - 1) x ≡ slid w (x ∷ [])
sample_put w v x j h e n =
    let first : suc (length w - 2) ≡ length w - 1 = omega arith in
    let read : length w - 2 + 1 ≡ length w - 1 = omega arith in
    let last : set v (length w - 2) (get_or v (length w - 1) nan) ≡ moved w 1 (length w - 1) =
    rw (e, n) (ap (λ (i : ℕ). set (moved w 1 (length w - 2)) (length w - 2) (get_or (moved w 1 (length w - 2)) i nan)) (sym read) ∙ moved_on w 1 (length w - 2) (omega arith) ∙ ap (moved w 1) first) in
    ap (λ (t : List Float). set t (length w - 1) x) (last ∙ all_moved w 1) ∙ sample_in w x (omega arith)

pub length_slid : (w p : List Float) → length p ≤ length w → length (slid w p) ≡ length w
unfolding slid
length_slid w p h = length-append (drop (length p) w) p ∙ ap (λ (k : ℕ). k + length p) (length-drop (length p) w) ∙ back (length w) (length p) h
  where
    back : (n k : ℕ) → k ≤ n → n - k + k ≡ n
    back n k h = omega arith
