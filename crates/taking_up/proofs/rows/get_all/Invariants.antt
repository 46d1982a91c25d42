-- The places passed hold the values that stand there.
use Rattle.std.proofs.Common.{◌≡◌}
use Rattle.sheet.specs.Laid.{laid}
use Rattle.words.specs.Fields.{values_at}
use Rattle.taking_up.proofs.rows.get_all.Given as goal

abbrev pub invariant-loop-i : goal.invariant-loop-i
invariant-loop-i g l = l.into ≡ laid 0 (values_at g.W.Word.value_at g.W.Word.SIZE l.bytes l.at l.i) l.initial.into
