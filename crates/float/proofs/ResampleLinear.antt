-- The linear resampler: an output from its parts.
use Rattle.std.proofs.Common.{◌≡◌, ℕ, ◌+◌, ◌-◌, ◌<◌, ◌≤◌, min, Bool, true, false, cond, leb, List, length, get_or, pos, Option, Some, None, refl, sym, le-leb, leb-true, leb-false, arith}
use borrow.Author.Tests.{lt-leb}
use lib.Ieee.{Float, nan, binary32, of_int, to_unsigned, mul, sub}
use Rattle.std.proofs.lemmas.Option.{none-some, cond_some}
use Rattle.float.specs.F32.{blend}
use Rattle.float.specs.ResampleLinear.{position, index_of, linear_at}

-- a number where it is at most n
abbrev up_to : ℕ → ℕ → Option ℕ
up_to n k = cond (leb k n) (Some k) None

past_last : (k n : ℕ) → None ≡ up_to n k → n < k
past_last k n e = go (leb k n) refl e
  where
    go : (b : Bool) → leb k n ≡ b → None ≡ cond b (Some k) None → n < k
    go true q e = absurd (none-some k e)
    go false q e = leb-false k n q

pub beyond : (s : List Float) (ratio : Float) (i : ℕ) (x : Float) → x ≡ of_int binary32 (pos i) → None ≡ up_to (length s - 1) (to_unsigned 64 (mul binary32 x ratio)) → get_or s (length s - 1) nan ≡ linear_at s ratio i
unfolding position index_of linear_at
beyond s ratio i x ex e =
    let k = to_unsigned 64 (mul binary32 x ratio) in
    let h : length s ≤ k = omega (arith, past_last _ _ e) in
    rw (← ex, le-leb (length s) k h)

pub inside :
    (s : List Float) (ratio : Float) (i w j : ℕ) (x y : Float) → 1 ≤ length s → x ≡ of_int binary32 (pos i) → Some w ≡ up_to (length s - 1) (to_unsigned 64 (mul binary32 x ratio)) → y ≡ of_int binary32 (pos w)
    → j ≡ min (w + 1) (length s - 1) → blend (get_or s w nan) (get_or s j nan) (sub binary32 (mul binary32 x ratio) y) ≡ linear_at s ratio i
unfolding position index_of linear_at
inside s ratio i w j x y some ex e ey m =
    let k = to_unsigned 64 (mul binary32 x ratio) in
    let b = cond_some (leb k (length s - 1)) k w (sym e) in
    let h : k < length s = omega (arith, some, leb-true _ _ b.0) in
    rw (ey, m, ← b.1, ← ex, lt-leb (length s) k h)
