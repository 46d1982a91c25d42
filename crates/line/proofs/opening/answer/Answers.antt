-- `answer` meets its contract: the first of the parts in the table's order, since a refusal's number is above 0.
use Rattle.std.proofs.Common.{sym}
use Rattle.std.proofs.lemmas.Result.{err_from_is_err_and}
use Rattle.refusal.proofs.Table.{number_positive}
use Rattle.refusal.proofs.Limits.{first_kept}
use Rattle.line.specs.Openings.{number_at}
use Rattle.line.proofs.opening.answer.Goals as goal

pub returns-in_err-thinning_answer : goal.returns-in_err-thinning_answer
unfolding number_at
returns-in_err-thinning_answer c =
    let p = err_from_is_err_and c.from_residual.result c.from_residual.ensures.1 in
    let q = c.in_err-thinning_answer.field-0.0 in
    rw (p.1, p.2) (rw (sym c.in_err-thinning_answer.ensures) (sym (first_kept _ _ (number_positive q))))

pub returns-in_err-answer_in_line : goal.returns-in_err-answer_in_line
unfolding number_at
returns-in_err-answer_in_line c =
    let p = err_from_is_err_and c.from_residual-in_err-answer_in_line.result c.from_residual-in_err-answer_in_line.ensures.1 in
    let q = c.in_err-answer_in_line.field-0.0 in
    rw (p.1, p.2) (rw (sym c.in_ok-thinning_answer.ensures, sym (rw c.fir.ensures at c.in_err-answer_in_line.ensures)) (sym (first_kept _ _ (number_positive q))))

pub returns-in_err-depth_answer : goal.returns-in_err-depth_answer
unfolding number_at
returns-in_err-depth_answer c =
    let p = err_from_is_err_and c.from_residual-in_err-depth_answer.result c.from_residual-in_err-depth_answer.ensures.1 in
    let q = c.in_err-depth_answer.field-0.0 in
    rw (p.1, p.2) (rw (sym c.in_ok-thinning_answer.ensures, sym (rw c.fir.ensures at c.in_ok-answer_in_line.ensures), sym c.in_err-depth_answer.ensures) (sym (first_kept _ _ (number_positive q))))

pub returns : goal.returns
unfolding number_at
returns c = rw (sym c.in_ok-thinning_answer.ensures, sym (rw c.fir.ensures at c.in_ok-answer_in_line.ensures), sym c.in_ok-depth_answer.ensures) c.resampler_answer.ensures
