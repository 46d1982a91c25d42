-- `fir_block::fir_block_at` meets its contract: a block that is taken goes one of three ways, and each makes what the section makes.
use Rattle.std.proofs.Common.{arith}
use Rattle.q15.proofs.FirBlocks.{off_taken}
use Rattle.q15.proofs.fir_block.fir_block_at.Goals as goal

pub returns-then-settings-eq0-clause-state : goal.returns-then-settings-eq0-clause-state
returns-then-settings-eq0-clause-state c = (off_taken _ c.args.values.now (omega arith) c.if-settings-eq0.true).0

pub returns-then-settings-eq0-clause-outputs : goal.returns-then-settings-eq0-clause-outputs
returns-then-settings-eq0-clause-outputs c = (off_taken _ c.args.values.now (omega arith) c.if-settings-eq0.true).1.0

pub returns-then-settings-eq0-clause-cuts : goal.returns-then-settings-eq0-clause-cuts
returns-then-settings-eq0-clause-cuts c = (off_taken _ c.args.values.now (omega arith) c.if-settings-eq0.true).1.1

pub by_tape-requires : goal.by_tape-requires
by_tape-requires c = (c.is_on_tape.ensures c.if-is_on_tape.true, omega arith)
