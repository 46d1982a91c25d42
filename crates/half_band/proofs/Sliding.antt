-- A window stands on a tape up to the newest sample, and a sample goes in behind it: what is read of the tape is the window that has slid.
use mathlib.Core.Path.{◌≡◌, sym, ap, ◌∙◌}
use mathlib.Core.List.{List, [], ◌∷◌, ◌++◌, append_assoc}
use Prim.Native.Nat.{ℕ, suc, ◌+◌, ◌-◌, ◌≤◌, ◌<◌}
use native.Mathlib.Nat.{zero-add}
use native.Mathlib.Omega.{arith}
use lib.ListN.{length, set, take, drop, length-append, length-drop}
use lib.Seq.{length-take-le, take_at, set_split, take-add, take-append-add, drop-append-add, drop-append-le}
use lib.Ieee.{Float}
use Rattle.std.specs.List.{copy_within}
use Rattle.half_band.specs.Windows.{slid}

pub slid_on :
    (n at : ℕ) (tape : List Float) (x : Float) → 1 ≤ n → at + n < length tape → take n (drop (at + 1) (set tape (at + n) x)) ≡ slid (take n (drop at tape)) (x ∷ [])
unfolding slid
slid_on n at tape x some room =
    let head : List Float = take at tape in
    let w : List Float = take n (drop at tape) in
    let z : List Float = x ∷ drop (suc (at + n)) tape in
    let before : length head ≡ at = length-take-le at tape (omega arith) in
    let long : length w ≡ n = length-take-le n (drop at tape) (simp length-drop (omega arith)) in
    let less : length (drop 1 w) + 1 ≡ n = simp length-drop (omega arith) in
    ap (λ (l : List Float). take n (drop (at + 1) l)) (set_split tape (at + n) x room ∙ ap (λ (l : List Float). l ++ z) (take-add at n tape) ∙ append_assoc head w z)
    ∙ ap (λ (k : ℕ). take n (drop (k + 1) (head ++ (w ++ z)))) (sym before)
    ∙ ap (take n) (drop-append-add head (w ++ z) 1 ∙ drop-append-le 1 w z (omega arith))
    ∙ ap (λ (k : ℕ). take k (drop 1 w ++ z)) (sym less)
    ∙ take-append-add (drop 1 w) z 1

-- where the tape ends with the window, the window is first put in front of it
pub slid_round :
    (n at : ℕ) (tape : List Float) (x : Float) → 1 ≤ n → at + n ≡ length tape → n < length tape
    → take n (drop 1 (set (copy_within tape at (length tape) 0) n x)) ≡ slid (take n (drop at tape)) (x ∷ [])
slid_round n at tape x some room less =
    ap (λ (k : ℕ). take n (drop k (set (copy_within tape at (length tape) 0) n x))) (sym (zero-add 1))
    ∙ ap (λ (k : ℕ). take n (drop (0 + 1) (set (copy_within tape at (length tape) 0) k x))) (sym (zero-add n))
    ∙ slid_on n 0 (copy_within tape at (length tape) 0) x some (omega (arith, same))
    ∙ ap (λ (w : List Float). slid w (x ∷ [])) front
  where
    left : length tape - at ≡ n
    left = omega arith

    window_long : length (take (length tape - at) (drop at tape)) ≡ n
    window_long = length-take-le (length tape - at) (drop at tape) (simp length-drop (omega arith)) ∙ left

    same : length (copy_within tape at (length tape) 0) ≡ length tape
    same = simp (length-append, length-drop) (omega (arith, window_long))

    front : take n (copy_within tape at (length tape) 0) ≡ take n (drop at tape)
    front = take_at (take (length tape - at) (drop at tape)) (drop (0 + (length tape - at)) tape) n window_long ∙ ap (λ (k : ℕ). take k (drop at tape)) left
