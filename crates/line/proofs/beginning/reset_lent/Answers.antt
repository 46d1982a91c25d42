-- `reset_lent` meets its contract: it refuses where the line of its numbers and arrays is not valid, and else begins with the line's own settings, taps and prototype.
use Rattle.std.proofs.Common.{refl, sym, ap, ◌∙◌, true≢false, rules}
use Rattle.std.proofs.lemmas.Result.{err_from_is_err_and}
use Rattle.refusal.specs.Outcome.{Opened}
use Rattle.line.specs.Openings.{opening_of, reset}
use Rattle.line.specs.Placed.{line_on}
use Rattle.line.specs.declared.gauge_line.Line.{Line}
use Rattle.line.proofs.Starting.{reset_own}
use Rattle.line.proofs.Numbers.{tested, few_taps}
use Rattle.line.proofs.beginning.reset_lent.Goals as goal

pub returns-in_err-checked : goal.returns-in_err-checked
unfolding reset
returns-in_err-checked c =
    let p = err_from_is_err_and c.from_residual.result c.from_residual.ensures.1 in
    let bad = tested (line_on c.args.n.now c.args.lent.now) c.in_err-checked.ensures.valid refl in
    rw (p.1, p.2, c.in_err-checked.ensures.number) (record { same = search rules; answer = rw bad; accepted = λ v. absurd (true≢false (sym v ∙ bad)) })

pub begin-requires : goal.begin-requires
begin-requires c = few_taps _ (tested (line_on c.args.n.now c.args.lent.now) c.in_ok-checked.ensures.valid refl)

pub returns-clause-answer : goal.returns-clause-answer
unfolding opening_of
returns-clause-answer c =
    let l = line_on c.args.n.now c.args.lent.now in
    let v = tested l c.in_ok-checked.ensures.valid refl in
    ap {B = Opened Line} (λ (m : Line). record { number = 0; state = m }) c.begin.ensures.fresh ∙ reset_own l v c.lengths.ensures.taps c.lengths.ensures.prototype
