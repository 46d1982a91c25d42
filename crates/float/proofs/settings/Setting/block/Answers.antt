-- `block` meets its contract: a run makes the feed of the state whose numbers and arrays it is lent.
use Rattle.float.specs.PolyphaseOpening.{valid}
use Rattle.float.specs.PolyphaseResamp.{state_of}
use Rattle.float.proofs.PolyphaseRange.{valid_in_limits}
use Rattle.float.proofs.PolyphaseCalls.{block_ran}
use Rattle.float.proofs.settings.Setting.block.Goals as goal

pub of-requires : goal.of-requires
unfolding valid
of-requires c =
    let a = c.args in
    valid_in_limits (state_of a.self a.mu.now a.delay.now a.prototype.now) c.in_ok-state_answer.ensures.valid

pub returns : goal.returns
unfolding valid
returns c =
    let a = c.args in
    let made = block_ran a.self a.mu.now a.delay.now a.prototype.now a.src.now a.dst.now _ _ _ _ c.in_ok-state_answer.ensures.valid (rw (c.of.ensures.1, c.of.ensures.0) at c.run.ensures) in
    record { answer = made.0; span = made.1 }
