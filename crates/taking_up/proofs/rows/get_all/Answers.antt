-- One value more a turn, right behind those that are read.
use Rattle.std.proofs.Common.{arith}
use Rattle.words.proofs.Loops.{get_first, get_one, get_last}
use Rattle.taking_up.proofs.rows.get_all.Goals as goal

pub loop-i-init : goal.loop-i-init
loop-i-init g c = get_first g.W.Word.value_at g.W.Word.SIZE c.args.bytes.now c.args.at c.args.into.now

pub loop-i-preserved : goal.loop-i-preserved
loop-i-preserved g c =
    let one = get_one g.W.Word.value_at g.W.Word.SIZE c.args.bytes.now c.args.at c.loop-i.i c.args.into.now c.loop-i.into c.loop-i.invariant c.loop-i-test.true in
    rw (c.read.ensures, c.SIZE.ensures) one

pub returns : goal.returns
returns g c = get_last g.W.Word.value_at g.W.Word.SIZE c.args.bytes.now c.args.at c.loop-i.i c.args.into.now c.loop-i.into c.loop-i.invariant (omega arith)
