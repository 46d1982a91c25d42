-- By whether the line is valid.
use Rattle.std.proofs.Common.{ℕ, List, length, ap, ◌∙◌}
use Rattle.std.proofs.lemmas.Result.{err_from_is_err_and}
use Rattle.sheet.specs.Sheet.{present}
use Rattle.parking.specs.Parked.{parked}
use Rattle.parking.specs.Kept.{line_kept}
use Rattle.parking.specs.Parking.{parked_line}
use Rattle.parking.proofs.Answered.{length_damaged, length_fine}
use Rattle.parking.proofs.OffParts.{parts_on}
use Rattle.parking.proofs.writing.parked_len_kept.Goals as goal

pub returns-in_err-line : goal.returns-in_err-line
returns-in_err-line c =
    let p = err_from_is_err_and c.from_residual.result c.from_residual.ensures.1 in
    let d = c.in_err-line.ensures.damaged in
    rw (p.1, p.2, d.0) (length_damaged (line_kept c.args.k.now) d.1)

pub returns : goal.returns
unfolding parked_line
returns c =
    let e = c.in_ok-line.ensures in
    length_fine (line_kept c.args.k.now) e.valid c.sheet_len.result (c.sheet_len.ensures ∙ ap (λ (es : List (List ℕ)). length (parked present es)) (parts_on c.args.k.now _ e.line))
