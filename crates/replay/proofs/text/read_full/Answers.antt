-- What was read is joined to what stood in front.
use Rattle.std.proofs.Common.{◌-◌, arith, length}
use Rattle.replay.proofs.Bytes.{joined}
use Rattle.replay.proofs.text.read_full.Goals as goal

pub loop-preserved : goal.loop-preserved
loop-preserved g c = record {
  within = grind arith;
  given = omega arith;
  consumed = joined _ _ _ c.loop.done (length c.loop.buf - c.loop.done) c.loop.buf c.read_some.new.buf c.in_ok-got.got c.loop.invariant.within (grind arith) c.loop.invariant.consumed c.in_ok-got.ensures.bytes.0;
}
