-- A list's lengths are fine exactly where each is at most 65,536: by induction on the list.
use Rattle.std.specs.Prelude.{◌≡◌, ◌≤◌, ◌↔◌, leb, ℕ, zero, suc, Bool, true, false, List, [], ◌∷◌, slice_index, EachIndex, IsTrue, refl}
use Rattle.std.proofs.Common.{sym, ◌∙◌, inl, inr, arith}
use Rattle.std.proofs.lemmas.Bool.{le-leb, leb-true, and_from, and_parts, cases_Bool}
use Rattle.plan.specs.Plan.{lengths_fine}

abbrev pub Fine : List ℕ → Type 0
Fine l = EachIndex l (λ k. slice_index l k ≤ 65536)

each_fine : (l : List ℕ) → Fine l → lengths_fine l ≡ true
unfolding lengths_fine
each_fine [] h = refl
each_fine (n ∷ l) h = and_from (leb n 65536) (lengths_fine l) (le-leb n 65536 (h 0 (omega arith))) (each_fine l (λ k b. h (suc k) (omega arith)))

fine_each : (l : List ℕ) → lengths_fine l ≡ true → Fine l
unfolding lengths_fine
fine_each [] e k b = absurd (omega arith)
fine_each (n ∷ l) e zero b = leb-true n 65536 (and_parts (leb n 65536) (lengths_fine l) e).0
fine_each (n ∷ l) e (suc k) b = fine_each l (and_parts (leb n 65536) (lengths_fine l) e).1 k (omega arith)

pub fine_as : (l : List ℕ) (b : Bool) → (IsTrue b ↔ Fine l) → b ≡ lengths_fine l
fine_as l true e = sym (each_fine l (e.0 refl))
fine_as l false e =
    elim (cases_Bool (lengths_fine l)) [ inl t ↦ e.1 (fine_each l t) ∙ sym t | inr f ↦ sym f ]
