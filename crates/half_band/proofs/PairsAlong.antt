-- A window that takes in the pairs behind it moves along the line of both by two places: so the outputs are those at the line's windows, and the last places are the window left.
use mathlib.Core.Path.{◌≡◌, refl, sym, ap, ◌∙◌}
use mathlib.Core.List.{List, [], ◌∷◌, ◌++◌, append-nil, append_assoc}
use Prim.Native.Nat.{ℕ, suc, ◌+◌, ◌*◌, ◌-◌, ◌≤◌, ◌<◌}
use native.Mathlib.Nat.{add_comm}
use native.Mathlib.Numerals.{add-one}
use native.Mathlib.Omega.{arith}
use lib.ListN.{length, get_or, take, drop, length-drop}
use lib.Seq.{length-take-le, take-add, drop_at, drop-append-le, drop-drop, drop-cons, get_or-drop}
use lib.Ieee.{Float, nan}
use Rattle.theory.specs.Sections.{state}
use Rattle.half_band.specs.Windows.{slid, pairs}
use Rattle.half_band.specs.inner.Decimator.{decimator}
use Rattle.half_band.proofs.Moving.{length_slid}
use Rattle.half_band.proofs.WholeLists.{pair_at}

-- two places of a list
two_at : (l : List Float) (k : ℕ) → k + 1 < length l → take 2 (drop k l) ≡ get_or l k nan ∷ get_or l (k + 1) nan ∷ []
two_at l k h =
    ap (take 2) (drop-cons l k nan (omega arith))
    ∙ ap (λ (t : List Float). get_or l k nan ∷ take 1 t) (drop-cons l (suc k) nan (omega arith))
    ∙ ap (λ (j : ℕ). get_or l k nan ∷ get_or l j nan ∷ []) (sym (add-one k))

-- the pair i behind the first `long` places
module _ (line : List Float) (long i : ℕ) (some : 2 ≤ long) (room : 2 * i + 2 + long ≤ length line) where
  abbrev l : List Float
  l = drop (2 * i) line

  abbrev pair : Float × Float
  pair = get_or (pairs (drop long line)) i (nan, nan)

  behind : take 2 (drop long l) ≡ pair.0 ∷ pair.1 ∷ []
  behind =
      let long' : length (drop long line) ≡ length line - long = length-drop long line in
      let one : long + (2 * i + 1) ≡ 2 * i + long + 1 = omega arith in
      let read : get_or (pairs (drop long line)) i (nan, nan) ≡ (get_or line (2 * i + long) nan, get_or line (2 * i + long + 1) nan) =
      pair_at (drop long line) i (omega arith)
      ∙ ap {B = Float × Float} (λ (x : Float). (x, get_or (drop long line) (2 * i + 1) nan)) (get_or-drop long line (2 * i) nan ∙ ap (λ (k : ℕ). get_or line k nan) (add_comm long (2 * i)))
      ∙ ap {B = Float × Float} (λ (x : Float). (get_or line (2 * i + long) nan, x)) (get_or-drop long line (2 * i + 1) nan ∙ ap (λ (k : ℕ). get_or line k nan) one) in
      ap (take 2) (drop-drop long (2 * i) line)
      ∙ two_at line (2 * i + long) (omega arith)
      ∙ ap (λ (p : Float × Float). p.0 ∷ p.1 ∷ []) (sym read)

  pub moved_on : take long (drop (2 * i + 2) line) ≡ slid (take long (drop (2 * i) line)) (pair.0 ∷ pair.1 ∷ [])
  unfolding slid
  moved_on =
      ap (take long) (sym (drop-drop 2 (2 * i) line))
      ∙ sym (drop_at (take 2 l) (take long (drop 2 l)) 2 (length-take-le 2 l (simp length-drop (omega arith))))
      ∙ ap (drop 2) (sym (take-add 2 long l) ∙ ap (λ (k : ℕ). take k l) (add_comm 2 long) ∙ take-add long 2 l)
      ∙ drop-append-le 2 (take long l) (take 2 (drop long l)) full
      ∙ ap (λ (t : List Float). drop 2 (take long l) ++ t) behind
    where
      full : 2 ≤ length (take long l)
      full = let e : length (take long l) ≡ long = length-take-le long l (simp length-drop (omega arith)) in omega arith

-- the window after all pairs
pub state_along : (c v w : List Float) (n : ℕ) → 2 ≤ length w → length v ≡ 2 * n → state (decimator c) w (pairs v) ≡ drop (length v) (w ++ v)
unfolding decimator slid
state_along c [] w n h e = sym (append-nil w)
state_along c (a ∷ []) w n h e = absurd (omega arith)
state_along c (a ∷ b ∷ v) w n h e =
    let k : length (slid w (a ∷ b ∷ [])) ≡ length w = length_slid w (a ∷ b ∷ []) h in
    let two : 2 + length v ≡ suc (suc (length v)) = omega arith in
    state_along c v (slid w (a ∷ b ∷ [])) (n - 1) (omega arith) (omega arith)
    ∙ ap (drop (length v)) (append_assoc (drop 2 w) (a ∷ b ∷ []) v ∙ sym (drop-append-le 2 w (a ∷ b ∷ v) h))
    ∙ drop-drop (length v) 2 (w ++ (a ∷ b ∷ v))
    ∙ ap (λ (j : ℕ). drop j (w ++ (a ∷ b ∷ v))) two

-- as many samples as fill the window are the window then
pub filled : (c v w : List Float) (n : ℕ) → 2 ≤ length w → length v ≡ 2 * n → length w ≡ length v → state (decimator c) w (pairs v) ≡ v
filled c v w n h e same = state_along c v w n h e ∙ drop_at w v (length v) same

-- the pairs of two lists, of which the first has no odd last one
pub pairs_append : (v s : List Float) (n : ℕ) → length v ≡ 2 * n → pairs (v ++ s) ≡ pairs v ++ pairs s
pairs_append [] s n e = refl
pairs_append (a ∷ []) s n e = absurd (omega arith)
pairs_append (a ∷ b ∷ v) s n e = ap {B = List (Float × Float)} (λ (t : List (Float × Float)). (a, b) ∷ t) (pairs_append v s (n - 1) (omega arith))
