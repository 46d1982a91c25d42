-- An opening that is told as 0 is not refused, so what holds of its state holds of the state that is handed over: by cases of the opening.
use mathlib.Core.Path.{◌≡◌, sym, subst, ap, ◌∙◌}
use native.Mathlib.Omega.{arith}
use Rattle.std.specs.Prelude.{Result, Ok, Err, IfOk}
use Rattle.std.specs.Result.{result_unwrap_or}
use Rattle.refusal.specs.declared.Refusal.{Refusal}
use Rattle.refusal.specs.Outcome.{number_in}
use Rattle.refusal.proofs.Table.{number_positive}

not_refused : {S : Type 0} → (P : S → Type 0) (zeros : S) (r : Result S Refusal) → IfOk r P → number_in r ≡ 0 → P (result_unwrap_or r zeros)
not_refused P zeros (Ok s) holds e = holds
not_refused P zeros (Err q) holds e = absurd (omega (arith, number_positive q, e))

-- `of` makes of a state what the clauses speak of
pub opened_meets :
    {S X : Type 0} → (P : X → Type 0) (of : S → X) {x : X} {s : S} (zeros : S) (r : Result S Refusal)
    → x ≡ of s → s ≡ result_unwrap_or r zeros → IfOk r (λ (t : S). P (of t)) → number_in r ≡ 0 → P x
opened_meets P of zeros r put chosen holds e = subst P (sym (put ∙ ap of chosen)) (not_refused (λ t. P (of t)) zeros r holds e)
