-- One word more a turn.
use Rattle.std.proofs.Common.{sym}
use Rattle.words.specs.Fields.{floats_at}
use Rattle.words.proofs.Loops.{every_none, every_not, every_more}
use Rattle.taking_up.proofs.rows.are_floats.Goals as goal

pub loop-i-init : goal.loop-i-init
unfolding floats_at
loop-i-init c = every_none _

pub returns-then-not-is_f32_bits : goal.returns-then-not-is_f32_bits
unfolding floats_at
returns-then-not-is_f32_bits c = sym (every_not c.args.n c.loop-i.i _ c.loop-i-test.true (cc))

pub loop-i-preserved : goal.loop-i-preserved
unfolding floats_at
loop-i-preserved c = every_more c.loop-i.i _ c.loop-i.invariant (cc)
