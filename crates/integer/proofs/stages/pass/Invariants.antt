-- Before each turn the states and the value are those of a row of as many stages as the turns so far.
use Rattle.std.proofs.Common.{◌≡◌}
use Rattle.integer.specs.Stages.{row}
use Rattle.integer.proofs.stages.pass.Given as goal

abbrev pub invariant-loop-state : goal.invariant-loop-state
invariant-loop-state g l =
    row g.S.Stage.keep g.S.Stage.out l.state-index l.initial.front l.input ≡ record { state = l.front; val = l.val }
