-- Each turn is one stage over the values that the one before made (`Going`).
use Rattle.std.proofs.Common.{arith}
use Rattle.half_band.proofs.StreamBlocks.{going_start, going_next, going_end}
use Rattle.half_band.proofs.hbf_stream_block.stages_block.Goals as goal

pub loop-k-init : goal.loop-k-init
loop-k-init c =
    let a = c.args in
    going_start a.depth c.min-k-end.result a.delays.now a.held.now a.counts.now a.n a.tape.now c.min-k-end.ensures (record { delays = omega arith; held = omega arith; counts = omega arith }) c.requires

pub loop-k-preserved : goal.loop-k-preserved
loop-k-preserved c =
    let l = c.loop-k in
    let a = c.args in
    let o = c.stage_block-m in
    going_next a.depth _ a.delays.now a.held.now a.counts.now a.n a.tape.now _ _ _ _ _ _ l.invariant c.loop-k-test.true _ _ _ _ _ o.ensures.next o.auto.tape o.ensures.outputs.0 o.ensures.outputs.1

pub returns-clause-next : goal.returns-clause-next
returns-clause-next c =
    let a = c.args in
    (going_end a.depth _ a.delays.now a.held.now a.counts.now a.n a.tape.now _ _ _ _ _ _ c.loop-k.invariant c.loop-k-test.false).0

pub returns-clause-outputs : goal.returns-clause-outputs
returns-clause-outputs c =
    let a = c.args in
    (going_end a.depth _ a.delays.now a.held.now a.counts.now a.n a.tape.now _ _ _ _ _ _ c.loop-k.invariant c.loop-k-test.false).1
