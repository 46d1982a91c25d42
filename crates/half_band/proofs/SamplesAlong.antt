-- A window that takes in the samples behind it moves along the line of both by a place: so the outputs are those at the line's windows, and the last places are the window left.
use mathlib.Core.Path.{◌≡◌, sym, ap, ◌∙◌}
use mathlib.Core.List.{List, [], ◌∷◌, ◌++◌, append-nil, append_assoc}
use Prim.Native.Nat.{ℕ, suc, ◌+◌, ◌≤◌, ◌<◌}
use native.Mathlib.Nat.{add_comm}
use native.Mathlib.Omega.{arith}
use lib.ListN.{length, get_or, take, drop}
use lib.Seq.{drop_at, drop-append-le, drop-drop, get_or-drop}
use lib.Ieee.{Float, nan}
use Rattle.std.proofs.lemmas.List.{set-get_or}
use Rattle.theory.specs.Sections.{state}
use Rattle.half_band.specs.Windows.{slid, interpolator}
use Rattle.half_band.proofs.Moving.{length_slid}
use Rattle.half_band.proofs.Sliding.{slid_on}

-- the sample i behind the first `long` places
pub moved_on : (line : List Float) (long i : ℕ) → 1 ≤ long → i + long < length line → take long (drop (i + 1) line) ≡ slid (take long (drop i line)) (get_or (drop long line) i nan ∷ [])
moved_on line long i some room =
    ap (λ (l : List Float). take long (drop (i + 1) l)) (sym (set-get_or line (i + long) nan))
    ∙ slid_on long i line (get_or line (i + long) nan) some room
    ∙ ap (λ (x : Float). slid (take long (drop i line)) (x ∷ [])) (ap (λ (k : ℕ). get_or line k nan) (add_comm i long) ∙ sym (get_or-drop long line i nan))

-- the window after all samples
pub state_along : (c v w : List Float) → 1 ≤ length w → state (interpolator c) w v ≡ drop (length v) (w ++ v)
unfolding interpolator slid
state_along c [] w h = sym (append-nil w)
state_along c (a ∷ v) w h =
    let k : length (slid w (a ∷ [])) ≡ length w = length_slid w (a ∷ []) h in
    let one : 1 + length v ≡ suc (length v) = omega arith in
    state_along c v (slid w (a ∷ [])) (omega arith)
    ∙ ap (drop (length v)) (append_assoc (drop 1 w) (a ∷ []) v ∙ sym (drop-append-le 1 w (a ∷ v) h))
    ∙ drop-drop (length v) 1 (w ++ (a ∷ v))
    ∙ ap (λ (j : ℕ). drop j (w ++ (a ∷ v))) one

-- as many samples as fill the window are the window then
pub filled : (c v w : List Float) → 1 ≤ length w → length w ≡ length v → state (interpolator c) w v ≡ v
filled c v w h same = state_along c v w h ∙ drop_at w v (length v) same
