-- A window fed from zeros holds the last samples, with zeros before the start: place i of a window of L, after n samples of w, is w[n + i − L].
use mathlib.Core.Path.{◌≡◌, sym, ap, ◌∙◌, subst}
use mathlib.Core.List.{List, ◌++◌, append_assoc}
use mathlib.Core.Bool.{Bool, cond}
use Prim.Native.Nat.{ℕ, ◌+◌, ◌-◌, ◌≤◌, ◌<◌}
use native.Mathlib.Omega.{arith}
use native.Mathlib.Decide.{dec_lt}
use borrow.Author.Tests.{lt-ltb, le-ltb}
use lib.ListN.{length, get_or, take, drop, replicate, length-append, length-drop, length-replicate, get_or-append, get_or-replicate}
use lib.Seq.{get_or-append-add, get_or-drop, get_or-take, length-take-le, drop-drop, drop-append-le}
use lib.Ieee.{Float, nan}
use Rattle.half_band.specs.HalfBand.{earlier}
use Rattle.float.specs.F32.{zero32}
use Rattle.half_band.specs.Windows.{slid}

pub before_start : (v : List Float) (n k : ℕ) → n < k → earlier v n k ≡ zero32
unfolding earlier
before_start v n k h = ap (λ (b : Bool). cond b zero32 (get_or v (n - k) nan)) (lt-ltb n k h)

pub since_start : (v : List Float) (n k : ℕ) → k ≤ n → earlier v n k ≡ get_or v (n - k) nan
unfolding earlier
since_start v n k h = ap (λ (b : Bool). cond b zero32 (get_or v (n - k) nan)) (le-ltb n k h)

-- n − k is all that counts
pub earlier_same : (v : List Float) (n k m l : ℕ) → n + l ≡ m + k → earlier v n k ≡ earlier v m l
earlier_same v n k m l e = go (dec_lt n k)
  where
    go : Dec (n < k) → earlier v n k ≡ earlier v m l
    go (yes h) = let g : m < l = omega arith in before_start v n k h ∙ sym (before_start v m l g)
    go (no h) =
        let g : k ≤ n = omega arith in
        let i : n - k ≡ m - l = omega arith in
        since_start v n k g ∙ ap (λ (j : ℕ). get_or v j nan) i ∙ sym (since_start v m l (omega arith))

-- L zeros and then the samples u, of which the last L
abbrev pub last_of : ℕ → List Float → List Float
last_of L u = drop (length u) (replicate L zero32 ++ u)

pub length_last_of : (L : ℕ) (u : List Float) → length (last_of L u) ≡ L
length_last_of L u =
    length-drop (length u) (replicate L zero32 ++ u) ∙ ap (λ (n : ℕ). n - length u) (length-append (replicate L zero32) u ∙ ap (λ (n : ℕ). n + length u) (length-replicate L zero32)) ∙ back L (length u)
  where
    back : (a b : ℕ) → a + b - b ≡ a
    back a b = omega arith

-- the samples p go in
pub slid_last : (L : ℕ) (u p : List Float) → length p ≤ L → slid (last_of L u) p ≡ last_of L (u ++ p)
unfolding slid
slid_last L u p h =
    ap (λ (t : List Float). t ++ p) (drop-drop (length p) (length u) (replicate L zero32 ++ u))
    ∙ sym (drop-append-le (length u + length p) (replicate L zero32 ++ u) p (simp (length-append, length-replicate) (omega arith)))
    ∙ ap (λ (t : List Float). drop (length u + length p) t) (append_assoc (replicate L zero32) u p)
    ∙ ap (λ (n : ℕ). drop n (replicate L zero32 ++ (u ++ p))) (sym (length-append u p))

pub place_of : (L n i : ℕ) (w : List Float) → i < L → n ≤ length w → get_or (last_of L (take n w)) i nan ≡ earlier w (n + i) L
place_of L n i w h l = get_or-drop (length u) (Z ++ u) i nan ∙ ap (λ (m : ℕ). get_or (Z ++ u) (m + i) nan) len ∙ go (dec_lt (n + i) L)
  where
    u : List Float
    u = take n w

    Z : List Float
    Z = replicate L zero32

    len : length (take n w) ≡ n
    len = length-take-le n w l

    size : length (replicate L zero32) ≡ L
    size = length-replicate L zero32

    go : Dec (n + i < L) → get_or (Z ++ u) (n + i) nan ≡ earlier w (n + i) L
    go (yes g) = get_or-append Z u nan (n + i) (subst (λ (m : ℕ). n + i < m) (sym size) g) ∙ get_or-replicate L (n + i) zero32 nan g ∙ sym (before_start w (n + i) L g)
    go (no g) =
        let k : n + i ≡ L + (n + i - L) = omega arith in
        ap (λ (m : ℕ). get_or (Z ++ u) m nan) (k ∙ ap (λ (m : ℕ). m + (n + i - L)) (sym size))
        ∙ get_or-append-add Z u (n + i - L) nan
        ∙ get_or-take n w (n + i - L) nan (omega arith)
        ∙ sym (since_start w (n + i) L (omega arith))
