-- One value more a turn, right behind those that are laid.
use Rattle.std.proofs.Common.{◌∙◌, ◌*◌, arith}
use Rattle.sheet.specs.Laid.{laid_in}
use Rattle.words.proofs.Loops.{put_first, put_one, put_done}
use Rattle.parking.proofs.put.put_all.Goals as goal

pub loop-i-init : goal.loop-i-init
loop-i-init g c = put_first g.W.Word.bytes g.W.Word.SIZE g.met.W.Word.reads_back.long c.args.xs.now c.args.span.now

pub loop-i-preserved : goal.loop-i-preserved
loop-i-preserved g c =
    let x = c.index-xs-i.result in
    let one = put_one g.W.Word.bytes g.W.Word.SIZE g.met.W.Word.reads_back.long c.loop-i.i c.args.xs.now x c.args.span.now c.loop-i.span c.loop-i.invariant c.loop-i-test.true c.requires in
    ◌∙◌ {b = laid_in (g.W.Word.SIZE * c.loop-i.i) (g.W.Word.bytes x) c.loop-i.span} (rw c.SIZE.ensures at c.lay.ensures) (rw (← c.index-xs-i.is) at one)

pub returns : goal.returns
returns g c = put_done g.W.Word.bytes g.W.Word.SIZE g.met.W.Word.reads_back.long c.loop-i.i c.args.xs.now c.args.span.now c.loop-i.span c.loop-i.invariant (omega arith) c.requires
