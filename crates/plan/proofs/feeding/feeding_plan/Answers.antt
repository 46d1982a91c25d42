-- `feeding_plan` meets its contract: the opening's refusals, the lists' test, and the counts from the clock of the line that the opening would make.
use Rattle.std.specs.Prelude.{◌≡◌, ℤ, List, Float, true, false}
use Rattle.std.proofs.Common.{sym, ◌∙◌}
use Rattle.std.proofs.lemmas.Result.{err_from_is_err_and}
use Rattle.refusal.specs.Table.{number_of}
use Rattle.refusal.proofs.Table.{number_positive}
use Rattle.line.specs.Outputs.{Opening}
use Rattle.line.specs.Openings.{opened, opening_number_of}
use Rattle.chain.specs.declared.settings.Settings.{Settings}
use Rattle.plan.proofs.Start.{in_limits_lem, first_runs, planned, plan_refused, plan_lists, lists_say}
use Rattle.plan.proofs.feeding.feeding_plan.Goals as goal

abbrev opening : Settings → List ℤ → List Float → Opening
opening s taps prototype = record { settings = s; taps = taps; prototype = prototype }

-- an opening with no refusal's number is not refused
not_refused : (o : Opening) → 0 ≡ opening_number_of o → (opened o).number ≡ 0
unfolding opened
not_refused o e = sym e

pub returns-in_err-answer-clause-answer : goal.returns-in_err-answer-clause-answer
returns-in_err-answer-clause-answer c =
    let p = err_from_is_err_and c.from_residual.result c.from_residual.ensures.1 in
    let q = c.in_err-answer.field-0.0 in
    let a = c.args in
    rw (p.1, p.2) (plan_refused (opening a.settings a.taps.now a.prototype.now) _ _ _ _ (number_of q) (number_positive q) c.in_err-answer.ensures)

pub returns-then-not-lists_fine-clause-answer : goal.returns-then-not-lists_fine-clause-answer
returns-then-not-lists_fine-clause-answer c = plan_lists _ _ _ _ _ false (sym c.in_ok-answer.ensures) (sym c.lists_fine.ensures ∙ c.if-not-lists_fine.true)

pub of_line-clock-requires : goal.of_line-clock-requires
of_line-clock-requires c =
    let a = c.args in
    let o = opening a.settings a.taps.now a.prototype.now in
    let m = in_limits_lem o (not_refused o c.in_ok-answer.ensures) in
    (m.some_r, m.few_r, m.some_taps, m.few_taps, m.few_factor, m.depth)

pub feeds_counted-requires : goal.feeds_counted-requires
feeds_counted-requires c =
    let a = c.args in
    let o = opening a.settings a.taps.now a.prototype.now in
    let l = lists_say _ _ _ _ (sym c.lists_fine.ensures ∙ c.if-not-lists_fine.false) in
    rw c.of_line-clock.ensures (first_runs o (not_refused o c.in_ok-answer.ensures), l.0, l.1, l.2)

pub returns-clause-answer : goal.returns-clause-answer
returns-clause-answer c = plan_lists _ _ _ _ _ true (sym c.in_ok-answer.ensures) (sym c.lists_fine.ensures ∙ c.if-not-lists_fine.false)

pub returns-clause-kept : goal.returns-clause-kept
returns-clause-kept c =
    let a = c.args in
    let o = opening a.settings a.taps.now a.prototype.now in
    let r = rw c.of_line-clock.ensures at c.feeds_counted.ensures in
    λ z. planned o (not_refused o c.in_ok-answer.ensures) _ _ _ _ r.0 r.1
