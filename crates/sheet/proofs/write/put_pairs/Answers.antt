-- One pair more a turn, right behind those that are laid.
use Rattle.std.proofs.Common.{◌≡◌, ◌≤◌, ◌+◌, ◌*◌, length, get_or, arith, refl, ◌∙◌}
use Rattle.sheet.specs.Laid.{laid}
use Rattle.sheet.specs.Sheet as S
use Rattle.sheet.proofs.Laying.{laid_none, pair_laid, sum_more, sum_take}
use Rattle.sheet.proofs.write.put_pairs.Goals as goal

pub loop-k-init : goal.loop-k-init
unfolding S.sum S.pairs_from
loop-k-init c = record { from = omega arith; pairs = laid_none 2 _ }

pub overflow_add-from : goal.overflow_add-from
overflow_add-from c =
    let l = c.args.lengths.now in
    let m = sum_more l c.loop-k.k c.loop-k-test.true in
    let t = sum_take l (c.loop-k.k + 1) in
    omega arith

pub loop-k-preserved : goal.loop-k-preserved
loop-k-preserved c =
    let l = c.args.lengths.now in
    let k = c.loop-k.k in
    let from = c.loop-k.from in
    let n = get_or l k 0 in
    let m = sum_more l k c.loop-k-test.true in
    let room : 2 + 8 * length l ≤ length c.args.span.now = omega arith in
    let laid_pair : c.put-in-loop-k.new.span ≡ laid (6 + 8 * k) (S.bytes32 n) (laid (2 + 8 * k) (S.bytes32 from) c.loop-k.span) = cc in
    record {
      from = omega arith;
      pairs = laid_pair ∙ pair_laid l c.args.span.now c.loop-k.span (S.data_from (length l)) k from n c.loop-k-test.true room c.loop-k.invariant.from refl c.loop-k.invariant.pairs;
    }
