-- Two sections of which one follows the other: a map of states under which each step and each output agree carries whole runs over.
use mathlib.Core.Path.{◌≡◌, refl, ap, ◌∙◌}
use mathlib.Core.List.{List, [], ◌∷◌}
use Rattle.std.specs.Prelude.{Option}
use Rattle.theory.specs.Sections.{Section, onto, state, outs}

module _ {S T A B : Type 0} (f : Section S A B) (g : Section T A B) (h : T → S) (Fine : T → Type 0)
    (kept : (t : T) (a : A) → Fine t → Fine (g.next t a))
    (next_is : (t : T) (a : A) → Fine t → f.next (h t) a ≡ h (g.next t a))
    (out_is : (t : T) (a : A) → Fine t → f.out (h t) a ≡ g.out t a) where
  pub outs_along : (t : T) (w : List A) → Fine t → outs f (h t) w ≡ outs g t w
  outs_along t [] e = refl
  outs_along t (a ∷ w) e =
      ap (λ (o : Option B). onto o (outs f (f.next (h t) a) w)) (out_is t a e)
      ∙ ap (λ (s : S). onto (g.out t a) (outs f s w)) (next_is t a e)
      ∙ ap (onto (g.out t a)) (outs_along (g.next t a) w (kept t a e))

  pub state_along : (t : T) (w : List A) → Fine t → state f (h t) w ≡ h (state g t w)
  state_along t [] e = refl
  state_along t (a ∷ w) e = ap (λ (s : S). state f s w) (next_is t a e) ∙ state_along (g.next t a) w (kept t a e)
