-- Lists written from the front by stores: a store goes behind what is there.
use mathlib.Core.Path.{◌≡◌, refl, sym, ap, ◌∙◌}
use mathlib.Core.List.{List, [], ◌∷◌, ◌++◌}
use Prim.Native.Nat.{ℕ, suc, ◌+◌, ◌<◌}
use native.Mathlib.Numerals.{add-one}
use lib.ListN.{length, get_or, set, drop}
use lib.Seq.{drop-cons, set_at, append_snoc}

pub store_next : {A : Type 0} (p d : List A) (y : A) → length p < length d → set (p ++ drop (length p) d) (length p) y ≡ (p ++ (y ∷ [])) ++ drop (length p + 1) d
store_next {A} p d y h =
    ap (λ (t : List A). set (p ++ t) (length p) y) (drop-cons d (length p) y h)
    ∙ set_at p (get_or d (length p) y) (drop (suc (length p)) d) y (length p) refl
    ∙ sym (append_snoc p y (drop (suc (length p)) d))
    ∙ ap (λ (n : ℕ). (p ++ (y ∷ [])) ++ drop n d) (sym (add-one (length p)))
