-- It hands over what the layer's `place` answers, field by field.
use Rattle.std.proofs.Common.{◌∙◌, ap}
use Rattle.refusal.specs.Outcome.{Answer}
use Rattle.sheet.specs.declared.directory.Place.{Place}
use Rattle.sheet.specs.Sheet.{present, entry_answer, place_answer}
use Rattle.sheet.proofs.Answering.{entry_at}
use Rattle.sheet.proofs.Rules.{entry_answer_same}
use Rattle.gauge_line.proofs.tap_sheet.gauge_raw_sheet_entry.Goals as goal

pub returns-clause-answer : goal.returns-clause-answer
unfolding entry_answer place_answer
returns-clause-answer c =
    let e = c.place-answer.ensures in
    let n = c.number.ensures ∙ ap (λ (a : Answer Place). a.number) e in
    let p = c.placed-place.ensures ∙ ap (λ (a : Answer Place). a.value) e in
    rw (n, p)

pub returns-clause-offset : goal.returns-clause-offset
unfolding place_answer
returns-clause-offset c = ap (λ (p : Place). p.offset) (c.placed-place.ensures ∙ ap (λ (a : Answer Place). a.value) c.place-answer.ensures)

pub returns-clause-part : goal.returns-clause-part
unfolding place_answer
returns-clause-part c =
    let p = c.placed-place.ensures ∙ ap (λ (a : Answer Place). a.value) c.place-answer.ensures in
    rw p (entry_at present _ _ _)

pub returns-clause-earlier : goal.returns-clause-earlier
returns-clause-earlier c = λ h. returns-clause-answer c ∙ entry_answer_same _ h _ _
