-- `reset` meets its contract: the state is the fresh one of its own setting and of the P × T taps in front of its prototype.
use Rattle.std.proofs.Common.{◌≡◌, length, ap, arith, length-take-le, rules}
use Rattle.refusal.specs.Outcome.{Opened}
use Rattle.float.specs.PolyphaseOpening.{valid, own_taps}
use Rattle.float.specs.PolyphaseResamp.{state_of}
use Rattle.float.specs.declared.polyphase_resamp.PolyphaseResampF32.{PolyphaseResampF32}
use Rattle.float.proofs.PolyphaseOutput.{few_cells}
use Rattle.float.proofs.PolyphaseRange.{valid_limits}
use Rattle.float.proofs.PolyphaseCalls.{reset_fresh}
use Rattle.float.proofs.settings.Setting.reset.Goals as goal

pub returns : goal.returns
unfolding own_taps valid
returns c =
    let a = c.args in
    let s = state_of a.self a.mu.now a.delay.now a.cells.now in
    let v = c.in_ok-state_answer.ensures.valid in
    let long : length a.cells.now ≡ 1024 = search rules in
    let made = reset_fresh s _ v (length-take-le _ _ (omega (arith, few_cells _ _ (valid_limits s v), long)))
    (ap {B = Opened PolyphaseResampF32} (λ (n : PolyphaseResampF32). record { number = 0; state = n }) c.begin.ensures) in
    record { answer = made.0; whole = made.1 }
