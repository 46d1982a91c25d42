-- A filter that stores its M taps in front of 23 places and its window of W samples in front of N: whatever lies behind them, it runs as the filter on
-- windows. `build` makes the state of its parts, `g` is the filter on windows, over the taps.
use mathlib.Core.Path.{◌≡◌, sym, ap, ◌∙◌}
use mathlib.Core.Bool.{false}
use mathlib.Core.List.{List, ◌++◌}
use Prim.Native.Nat.{ℕ, ◌+◌, ◌-◌, ◌≤◌}
use native.Mathlib.Omega.{arith}
use lib.ListN.{length, take, drop, replicate, length-append, take-append-drop, length-replicate}
use lib.Seq.{length-take-le, take_at, drop_at}
use lib.Ieee.{Float}
use Rattle.theory.specs.Sections.{Section, state, outs}
use Rattle.float.specs.F32.{zero32}
use Rattle.half_band.proofs.Along.{outs_along, state_along}
use Rattle.refusal.specs.Rows.{outside}
use Rattle.refusal.proofs.Limits.{Between, within}

-- a state that is not refused, its arrays as long as their types say
pub record Usable (N m : ℕ) (coeffs delay : List Float) : Type 0 where
  pub least : 1 ≤ m
  pub most : m ≤ 23
  pub coeffs_long : length coeffs ≡ 23
  pub delay_long : length delay ≡ N

pub usable : (N m : ℕ) (coeffs delay : List Float) → outside m 1 23 ≡ false → length coeffs ≡ 23 → length delay ≡ N → Usable N m coeffs delay
usable N m coeffs delay fine c d = let b = within m 1 23 fine in record { least = b.least; most = b.most; coeffs_long = c; delay_long = d }

-- an opening with the taps c
pub fresh_usable : (N : ℕ) (c : List Float) → Between 1 (length c) 23 → Usable N (length c) (c ++ replicate (23 - length c) zero32) (replicate N zero32)
fresh_usable N c b =
    record {
      least = b.least;
      most = b.most;
      coeffs_long = length-append c (replicate (23 - length c) zero32) ∙ ap (λ (n : ℕ). length c + n) (length-replicate (23 - length c) zero32) ∙ full (length c) b.most;
      delay_long = length-replicate N zero32;
    }
  where
    full : (n : ℕ) → n ≤ 23 → n + (23 - n) ≡ 23
    full n h = omega arith

module _ (W N m : ℕ) (coeffs delay : List Float) (u : Usable N m coeffs delay) (room : W ≤ N) where
  window_long : length (take W delay) ≡ W
  window_long = length-take-le W delay (omega (arith, room, u.delay_long))

  module _ {S A B : Type 0} (build : ℕ → List Float → List Float → S) (f : Section S A B) (g : List Float → Section (List Float) A B)
      (next_is : (d : List Float) (a : A) → f.next (build m coeffs d) a ≡ build m coeffs ((g (take m coeffs)).next (take W d) a ++ drop W d))
      (out_is : (d : List Float) (a : A) → f.out (build m coeffs d) a ≡ (g (take m coeffs)).out (take W d) a)
      (kept : (w : List Float) (a : A) → length w ≡ W → length ((g (take m coeffs)).next w a) ≡ W) where
    -- the state with another window
    abbrev with_window_lem : List Float → S
    with_window_lem w = build m coeffs (w ++ drop W delay)

    found : (w : List Float) → length w ≡ W → take W (w ++ drop W delay) ≡ w
    found w e = take_at w (drop W delay) W e

    same_next : (w : List Float) (a : A) → length w ≡ W → f.next (with_window_lem w) a ≡ with_window_lem ((g (take m coeffs)).next w a)
    same_next w a e =
        next_is (w ++ drop W delay) a
        ∙ ap (λ (t : List Float). build m coeffs ((g (take m coeffs)).next t a ++ drop W (w ++ drop W delay))) (found w e)
        ∙ ap (λ (t : List Float). build m coeffs ((g (take m coeffs)).next w a ++ t)) (drop_at w (drop W delay) W e)

    same_out : (w : List Float) (a : A) → length w ≡ W → f.out (with_window_lem w) a ≡ (g (take m coeffs)).out w a
    same_out w a e = out_is (w ++ drop W delay) a ∙ ap (λ (t : List Float). (g (take m coeffs)).out t a) (found w e)

    whole : with_window_lem (take W delay) ≡ build m coeffs delay
    whole = ap (build m coeffs) (take-append-drop W delay)

    pub outs_stored : (v : List A) → outs f (build m coeffs delay) v ≡ outs (g (take m coeffs)) (take W delay) v
    outs_stored v =
        ap (λ (t : S). outs f t v) (sym whole) ∙ outs_along f (g (take m coeffs)) with_window_lem (λ w. length w ≡ W) kept same_next same_out (take W delay) v window_long

    pub state_stored : (v : List A) → state f (build m coeffs delay) v ≡ build m coeffs (state (g (take m coeffs)) (take W delay) v ++ drop W delay)
    state_stored v =
        ap (λ (t : S). state f t v) (sym whole) ∙ state_along f (g (take m coeffs)) with_window_lem (λ w. length w ≡ W) kept same_next same_out (take W delay) v window_long
