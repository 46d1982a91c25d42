-- `feed_lent` meets its contract: it refuses where the line of its numbers and arrays is not valid, and else does what `feed_by` does; demand 3 follows from its answer and its span.
use Rattle.std.proofs.Common.{refl, rules}
use Rattle.std.proofs.lemmas.Result.{err_from_is_err_and}
use Rattle.line.specs.Lent.{line_in}
use Rattle.line.proofs.Numbers.{tested}
use Rattle.line.proofs.Demanded.{refused, ran}
use Rattle.line.proofs.lent.feed_lent.Goals as goal

pub returns-in_err-checked : goal.returns-in_err-checked
returns-in_err-checked c =
    let a = c.args in
    let p = err_from_is_err_and c.from_residual.result c.from_residual.ensures.1 in
    let r = refused _ (tested (line_in a.n.now a.lent.now) c.in_err-checked.ensures.valid refl) a.samples.now a.out.now in
    rw (p.1, p.2, c.in_err-checked.ensures.number) (record { same = search rules; stays = (refl, refl); answer = r.0; span = r.1; demand3 = r.2 })

pub feed_by-moved-requires : goal.feed_by-moved-requires
feed_by-moved-requires c = rw c.in_ok-checked.ensures.fixed (tested (line_in c.args.n.now c.args.lent.now) c.in_ok-checked.ensures.valid refl)

pub returns : goal.returns
returns c =
    let v = tested (line_in c.args.n.now c.args.lent.now) c.in_ok-checked.ensures.valid refl in
    let r = ran _ v _ refl (rw c.in_ok-checked.ensures.fixed at c.feed_by-moved.ensures.ran) in
    record { same = c.feed_by-moved.ensures.same; stays = (refl, refl); answer = r.0; span = r.1; demand3 = r.2 }
