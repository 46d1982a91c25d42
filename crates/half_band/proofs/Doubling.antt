-- A section that makes two outputs of each value, run by a loop that stores them behind those of the values before.
use mathlib.Core.Path.{◌≡◌, sym, ap, ◌∙◌}
use mathlib.Core.List.{List, [], ◌∷◌, ◌++◌, append_assoc}
use Rattle.std.specs.Prelude.{Some}
use Prim.Native.Nat.{ℕ, suc, ◌+◌, ◌*◌, ◌<◌}
use native.Mathlib.Numerals.{add-one}
use native.Mathlib.Omega.{arith}
use lib.ListN.{length, get_or, set, take, length-set}
use lib.Seq.{take-suc-set}
use lib.Ieee.{Float, nan}
use Rattle.theory.specs.Sections.{Section, state, outs}
use Rattle.half_band.specs.HalfBand.{flat}
use Rattle.half_band.proofs.Blocks.{state_next, outs_next}
use Rattle.half_band.proofs.WholeLists.{flat_snoc}

-- after i values of w from the state s
module _ {S : Type 0} (f : Section S Float (Float × Float)) (s : S) (w : List Float) where
  pub record Doubled (t : S) (span : List Float) (i : ℕ) : Type 0 where
    pub state_is : t ≡ state f s (take i w)
    pub front : take (2 * i) span ≡ flat (outs f s (take i w))

  module _ (t : S) (span : List Float) (i : ℕ) (q : Doubled t span i) (in_range : i < length w) (room : 2 * i + 1 < length span) where
    pub doubled_next : (u : S) (a b : Float) → u ≡ f.next t (get_or w i nan) → f.out t (get_or w i nan) ≡ Some (a, b) → Doubled u (set (set span (2 * i) a) (2 * i + 1) b) (i + 1)
    doubled_next u a b eu eo =
        record {
          state_is = eu ∙ ap (λ (x : S). f.next x (get_or w i nan)) q.state_is ∙ sym (state_next f s w i nan in_range);
          front =
              ap (λ (k : ℕ). take k (set (set span p a) (p + 1) b)) two
              ∙ take-suc-set (set span p a) (p + 1) b (omega (arith, length-set span p a, room))
              ∙ ap (λ (l : List Float). l ++ (b ∷ [])) (ap (λ (k : ℕ). take k (set span p a)) (add-one p) ∙ take-suc-set span p a (omega (arith, room)))
              ∙ append_assoc (take p span) (a ∷ []) (b ∷ [])
              ∙ ap (λ (l : List Float). l ++ (a ∷ b ∷ [])) q.front
              ∙ sym (flat_snoc (outs f s (take i w)) (a, b))
              ∙ ap flat (sym (outs_next f s w i nan in_range (Some (a, b)) (ap (λ (x : S). f.out x (get_or w i nan)) (sym q.state_is) ∙ eo)));
        }
      where
        p : ℕ
        p = 2 * i

        two : 2 * (i + 1) ≡ suc (2 * i + 1)
        two = omega arith
