-- `rows::prototype_by_phase` meets its contract: whatever the call answers, the rearrangements undo each other.
use Rattle.phase_rows.proofs.Places.{rearranges}
use Rattle.phase_rows.proofs.rows.prototype_by_phase.Goals as goal

pub returns-in_err-written-clause-rearranges : goal.returns-in_err-written-clause-rearranges
returns-in_err-written-clause-rearranges c = rearranges _ _ _

pub returns-clause-rearranges : goal.returns-clause-rearranges
returns-clause-rearranges c = rearranges _ _ _
