-- `feed_all` meets its contract by the line's contracts alone: each feed carries `Onward` on, and after an opening none is refused.
use Rattle.std.proofs.Common.{arith, rules, refl}
use Rattle.std.proofs.lemmas.Result.{err_from_is_err_and}
use Rattle.refusal.proofs.Table.{number_positive}
use Rattle.client.proofs.Onward.{refused, not_refused, taken_in, onward_as, both_ended}
use Rattle.client.proofs.feeds.feed_all.Goals as goal

pub returns-in_err-line-clause-all : goal.returns-in_err-line-clause-all
returns-in_err-line-clause-all c =
    let p = err_from_is_err_and c.from_residual.result c.from_residual.ensures.1 in
    rw p.1 (refused _ c.in_err-line.field-0.0 c.in_err-line.ensures.answer _ _ _ _)

pub returns-in_err-moved-clause-answer : goal.returns-in_err-moved-clause-answer
returns-in_err-moved-clause-answer c =
    let fed = c.in_err-moved.ensures in
    absurd (omega (arith, number_positive c.in_err-moved.field-0.0, not_refused _ _ _ _ _ c.loop-k.invariant (omega arith) (omega arith) refl refl fed.answer fed.demand3 fed.long))

pub returns-in_err-moved-clause-all : goal.returns-in_err-moved-clause-all
returns-in_err-moved-clause-all c =
    let fed = c.in_err-moved.ensures in
    absurd (omega (arith, number_positive c.in_err-moved.field-0.0, not_refused _ _ _ _ _ c.loop-k.invariant (omega arith) (omega arith) refl refl fed.answer fed.demand3 fed.long))

pub overflow_add-at : goal.overflow_add-at
overflow_add-at c =
    let fed = c.in_ok-moved.ensures in
    search (rules, taken_in _ _ _ _ _ c.loop-k.invariant (omega arith) (omega arith) refl refl fed.answer fed.demand3 fed.long)

pub loop-k-preserved : goal.loop-k-preserved
loop-k-preserved c =
    let fed = c.in_ok-moved.ensures in
    onward_as _ _ _ _ _ c.loop-k.invariant (omega arith) (omega arith) refl refl fed.answer fed.demand3 fed.long fed.places refl c.min-from.ensures

pub returns-clause-all : goal.returns-clause-all
returns-clause-all c = (both_ended _ _ _ _ _ c.loop-k.invariant (omega arith)).0

pub returns-clause-demand3 : goal.returns-clause-demand3
returns-clause-demand3 c = λ _. (both_ended _ _ _ _ _ c.loop-k.invariant (omega arith)).1
