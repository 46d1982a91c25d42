-- The sheet's own count says the kind.
use Rattle.std.proofs.Common.{◌∙◌, ap}
use Rattle.std.proofs.lemmas.Result.{err_from_is_err_and}
use Rattle.taking_up.specs.inner.ByKind.{kind_in, opened_by}
use Rattle.taking_up.specs.inner.Taking.{refused_line}
use Rattle.taking_up.proofs.Opened.{taken_by, taken_by_none, taken_err}
use Rattle.taking_up.proofs.taking.open_sheet.Goals as goal

pub returns-in_err-sheet-clause-answer : goal.returns-in_err-sheet-clause-answer
unfolding refused_line
returns-in_err-sheet-clause-answer c =
    let p = err_from_is_err_and c.from_residual.result c.from_residual.ensures.1 in
    rw (p.1, p.2) (taken_err c.args.bytes.now _ c.in_err-sheet.ensures.number)

pub returns-in_err-e-clause-answer : goal.returns-in_err-e-clause-answer
unfolding refused_line
returns-in_err-e-clause-answer c =
    let p = err_from_is_err_and c.from_residual-in_err-e.result c.from_residual-in_err-e.ensures.1 in
    let k = c.in_ok-sheet.ensures in
    let o = c.in_err-e.ensures.other in
    rw (p.1, p.2, o.0) (taken_by_none c.args.bytes.now c.in_ok-sheet.sheet.count k.number k.kept.1 o.1 o.2)

pub returns-clause-answer : goal.returns-clause-answer
returns-clause-answer c =
    let k = c.in_ok-sheet.ensures in
    let e = c.in_ok-e in
    c.open_entries.ensures.answer ∙ ap (opened_by (kind_in e.e)) e.ensures.parts ∙ taken_by c.args.bytes.now (kind_in e.e) _ _ k.number k.kept.0 k.kept.1 e.ensures.kind
