-- The words passed are floats.
use Rattle.std.proofs.Common.{◌≡◌, true}
use Rattle.words.specs.Fields.{floats_at}
use Rattle.taking_up.proofs.rows.are_floats.Given as goal

abbrev pub invariant-loop-i : goal.invariant-loop-i
invariant-loop-i l = floats_at l.bytes l.at l.i ≡ true
