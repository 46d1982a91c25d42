-- By whether the line is valid and the span has room.
use Rattle.std.proofs.Common.{◌≡◌, refl, ℕ, List, length, ap, ◌∙◌, arith}
use Rattle.std.proofs.lemmas.Result.{err_from_is_err_and}
use Rattle.sheet.specs.Sheet.{present}
use Rattle.parking.specs.Parked.{panel, parked}
use Rattle.line.specs.declared.gauge_line.Line.{Line}
use Rattle.parking.specs.Kept.{line_by, line_kept}
use Rattle.parking.specs.inner.Numbers.{numbers_on}
use Rattle.parking.specs.inner.Told.{parts}
use Rattle.parking.specs.declared.kept.KeptLine.{KeptLine}
use Rattle.parking.specs.Parking.{parked_line}
use Rattle.parking.proofs.OffParts.{parts_on, lengths_on}
use Rattle.parking.proofs.ParkedLine.{answer_damaged, span_damaged}
use Rattle.parking.proofs.Older.{older_parked}
use Rattle.parking.proofs.Answered.{short_answer, short_span, room_answer, room_span}
use Rattle.parking.proofs.writing.park_kept.Goals as goal

pub returns-in_err-line-clause-answer : goal.returns-in_err-line-clause-answer
returns-in_err-line-clause-answer c =
    let p = err_from_is_err_and c.from_residual.result c.from_residual.ensures.1 in
    let d = c.in_err-line.ensures.damaged in
    rw (p.1, p.2, d.0) (answer_damaged (line_kept c.args.k.now) (length c.args.span.now) d.1)

pub returns-in_err-line-clause-span : goal.returns-in_err-line-clause-span
returns-in_err-line-clause-span c = span_damaged (line_kept c.args.k.now) c.args.span.now c.in_err-line.ensures.damaged.1

-- the sheet of the line as it is parked is the line's
sheet_is : (k : KeptLine) (l : Line) → l ≡ line_by (numbers_on k.numbers) k → parked present (parts l) ≡ parked_line panel (line_kept k)
unfolding parked_line
sheet_is k l e = ap (parked present) (parts_on k l e)

long : (k : KeptLine) (l : Line) (n : ℕ) → l ≡ line_by (numbers_on k.numbers) k → n ≡ length (parked present (parts l)) → n ≡ length (parked_line panel (line_kept k))
long k l n e h = h ∙ ap (λ (b : List ℕ). length b) (sheet_is k l e)

pub returns-then-span-size-clause-answer : goal.returns-then-span-size-clause-answer
returns-then-span-size-clause-answer c =
    let e = c.in_ok-line.ensures in
    let n = long c.args.k.now _ _ e.line c.sheet_len-size.ensures in
    short_answer (line_kept c.args.k.now) e.valid c.args.span.now (omega (arith, n))

pub returns-then-span-size-clause-span : goal.returns-then-span-size-clause-span
returns-then-span-size-clause-span c =
    let e = c.in_ok-line.ensures in
    let n = long c.args.k.now _ _ e.line c.sheet_len-size.ensures in
    short_span (line_kept c.args.k.now) e.valid c.args.span.now (omega (arith, n))

pub returns-clause-answer : goal.returns-clause-answer
returns-clause-answer c =
    let e = c.in_ok-line.ensures in
    room_answer (line_kept c.args.k.now) e.valid c.args.span.now c.sheet_len-size.result (long c.args.k.now _ _ e.line c.sheet_len-size.ensures) c.if-span-size.false

pub returns-clause-span : goal.returns-clause-span
returns-clause-span c =
    let e = c.in_ok-line.ensures in
    room_span (line_kept c.args.k.now) e.valid c.args.span.now c.sheet_len-size.result (long c.args.k.now _ _ e.line c.sheet_len-size.ensures) c.if-span-size.false c.put_line.new.span (c.put_line.ensures ∙ sheet_is c.args.k.now _ e.line)

pub returns-clause-older : goal.returns-clause-older
returns-clause-older c =
    let e = c.in_ok-line.ensures in
    older_parked (line_kept c.args.k.now) e.valid (lengths_on c.args.k.now _ e.line c.in_ok-line.line.fine.lengths) _ _ c.args.span.now (returns-clause-answer c) (returns-clause-span c) refl
