-- A delay line as its loop moves it: after t turns the new value and the first t − 1 old ones stand in front, and the value for place t is held.
use Rattle.std.proofs.Common.{◌≡◌, ℕ, ◌+◌, ◌<◌, ◌≤◌, List, [], ◌∷◌, ◌++◌, length, get_or, take, drop, set, sym, ap, ◌∙◌, subst, add-zero, zero-add, add-one, arith, append-nil, take-take, drop_of_length-le, le-leb, length-take-le, get_or-drop, get_or-append-add}
use lib.Seq.{paste, paste-suc}
use lib.Ieee.{Float, nan}
use Rattle.float.specs.PolyphaseOpening.{most_phase_taps}
use Rattle.float.specs.PolyphaseResamp.{shifted_in}
use Rattle.float.proofs.Tape.{one_more}

abbrev pub slid : List Float → Float → ℕ → List Float
slid d x t = paste d 0 (x ∷ d) t

at_turn : (d : List Float) (x : Float) (t : ℕ) → t ≤ length d → get_or (slid d x t) t nan ≡ get_or d t nan
at_turn d x t h =
    let p : List Float = take t (x ∷ d) in
    let e : length p ≡ t = length-take-le t (x ∷ d) (omega arith) in
    ap (λ (z : ℕ). get_or (p ++ drop (0 + t) d) z nan) (sym (add-zero t) ∙ ap (λ (z : ℕ). z + 0) (sym e))
    ∙ get_or-append-add p (drop (0 + t) d) 0 nan
    ∙ get_or-drop (0 + t) d 0 nan
    ∙ ap (λ (z : ℕ). get_or d z nan) (add-zero (0 + t) ∙ zero-add t)

-- a turn's store, and what it holds for the next
pub slide : (d : List Float) (x : Float) (t : ℕ) → t < length d → set (slid d x t) t (get_or (x ∷ d) t nan) ≡ slid d x (t + 1)
slide d x t h =
    ap (λ (z : ℕ). set (slid d x t) z (get_or (x ∷ d) t nan)) (sym (zero-add t))
    ∙ paste-suc d 0 (x ∷ d) t nan (subst (λ (z : ℕ). z < length d) (sym (zero-add t)) h) (omega arith)
    ∙ ap (λ (z : ℕ). slid d x z) (sym (add-one t))

pub held_next : (d : List Float) (x : Float) (t : ℕ) → t ≤ length d → get_or (slid d x t) t nan ≡ get_or (x ∷ d) (t + 1) nan
held_next d x t h = at_turn d x t h ∙ ap (λ (z : ℕ). get_or (x ∷ d) z nan) (sym (add-one t))

-- a whole row of T, the places behind it as they were
pub slid_row :
    (T n : ℕ) (x : Float) (d : List Float) → n ≡ length (take T d) → T ≤ most_phase_taps → most_phase_taps ≤ length d → slid (take T d) x n ++ drop T d ≡ shifted_in T x d
unfolding shifted_in
slid_row T n x d e few long =
    let all : length (take T d) ≡ T = length-take-le T d (omega (arith, few, long)) in
    let none : drop (0 + T) (take T d) ≡ [] = drop_of_length-le (take T d) (omega (arith, all)) in
    rw (e, all, none, append-nil (take T (x ∷ take T d)), one_more T x (take T d) d (take-take T T d (omega arith)), le-leb T 16 few)
