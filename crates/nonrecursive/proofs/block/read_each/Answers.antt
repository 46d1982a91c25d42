-- A turn reads one sample, so that it is known to be an i32.
use Rattle.std.proofs.Common.{◌≡◌, take, get_or, pos, sym, arith, take_all, refl, w32, SFits, rules}
use Rattle.std.proofs.lemmas.List.{set-get_or}
use Rattle.theory.proofs.Wrap.{wrap_id}
use Rattle.nonrecursive.proofs.OnTape.{laid_more}
use Rattle.nonrecursive.proofs.block.read_each.Goals as goal

pub loop-sample-init : goal.loop-sample-init
loop-sample-init c = refl

pub loop-sample-preserved : goal.loop-sample-preserved
loop-sample-preserved c =
    let w = c.args.samples.now in
    let i = c.loop-sample.sample-index in
    let there = c.loop-sample-test.true in
    let fits : SFits w32 (get_or w i (pos 0)) = search rules in
    rw (set-get_or w i (pos 0)) at (laid_more w w i _ there there (sym (wrap_id w32 _ fits)) c.loop-sample.invariant)

pub returns : goal.returns
returns c =
    let w = c.args.samples.now in
    let all : take c.loop-sample.sample-index w ≡ w = take_all _ w (omega (arith, c.loop-sample-test.false)) in
    rw all at (sym c.loop-sample.invariant)
