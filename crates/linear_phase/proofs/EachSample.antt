-- Samples v one by one through a delay d: those that went in have made the first outputs, and the delay makes the others of what is left.
use mathlib.Core.Path.{◌≡◌, sym, ap, ◌∙◌}
use mathlib.Core.Bool.{Bool}
use mathlib.Core.List.{List, [], ◌∷◌, ◌++◌}
use Prim.Native.Nat.{ℕ, suc, ◌+◌, ◌≤◌, ◌<◌}
use native.Mathlib.Numerals.{add-one}
use native.Mathlib.Omega.{arith}
use lib.ListN.{length, get_or, drop}
use lib.Seq.{get_or_at, drop-cons, append_snoc}
use lib.Ieee.{Float, nan}
use Rattle.theory.specs.Lists.{listed}
use Rattle.theory.specs.Sections.{Section, outs, state}
use Rattle.theory.proofs.Listed.{length_listed}
use Rattle.half_band.specs.Windows.{slid}
use Rattle.half_band.proofs.Moving.{length_slid}
use Rattle.linear_phase.specs.Windows.{window_value}
use Rattle.linear_phase.specs.inner.Lanes.{linear_phase}

module _ (odd antisymmetric : Bool) (c d v : List Float) where
  abbrev f : Section (List Float) Float Float
  f = linear_phase odd antisymmetric c

  abbrev pub output : ℕ → Float
  output k = get_or (outs f d v) k nan

  -- i samples went in, and this is the delay
  pub record Midway (delay : List Float) (i : ℕ) : Type 0 where
    pub made : outs f d v ≡ listed i output ++ outs f delay (drop i v)
    pub left : state f delay (drop i v) ≡ state f d v
    pub long : length delay ≡ length d

  -- the output of the next one
  pub next_value : (delay : List Float) (i : ℕ) → i < length v → Midway delay i → window_value odd antisymmetric c (delay ++ (get_or v i nan ∷ [])) ≡ output i
  unfolding linear_phase
  next_value delay i h m =
      sym (
      ap (λ (l : List Float). get_or l i nan) (m.made ∙ ap (λ (r : List Float). listed i output ++ outs f delay r) (drop-cons v i nan h))
      ∙ get_or_at (listed i output) (window_value odd antisymmetric c (delay ++ (get_or v i nan ∷ []))) (outs f (slid delay (get_or v i nan ∷ [])) (drop (suc i) v)) nan i (length_listed i output)
      )

  slid_midway : (delay : List Float) (i : ℕ) → i < length v → 1 ≤ length d → Midway delay i → Midway (slid delay (get_or v i nan ∷ [])) (i + 1)
  unfolding linear_phase
  slid_midway delay i h some m =
      record {
        made =
            m.made
            ∙ ap (λ (r : List Float). listed i output ++ outs f delay r) (drop-cons v i nan h)
            ∙ ap (λ (y : Float). listed i output ++ (y ∷ outs f (slid delay (get_or v i nan ∷ [])) (drop (suc i) v))) (next_value delay i h m)
            ∙ sym (append_snoc (listed i output) (output i) (outs f (slid delay (get_or v i nan ∷ [])) (drop (suc i) v)))
            ∙ ap (λ (k : ℕ). listed k output ++ outs f (slid delay (get_or v i nan ∷ [])) (drop k v)) (sym (add-one i));
        left =
            ap (λ (k : ℕ). state f (slid delay (get_or v i nan ∷ [])) (drop k v)) (add-one i)
            ∙ sym (ap (state f delay) (drop-cons v i nan h))
            ∙ m.left;
        long = length_slid delay (get_or v i nan ∷ []) (omega (arith, m.long)) ∙ m.long;
      }

  pub next_midway : (delay next : List Float) (i : ℕ) → i < length v → 1 ≤ length d → next ≡ slid delay (get_or v i nan ∷ []) → Midway delay i → Midway next (i + 1)
  next_midway delay next i h some q m = rw q (slid_midway delay i h some m)
