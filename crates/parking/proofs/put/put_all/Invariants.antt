-- The values passed are laid.
use Rattle.std.proofs.Common.{◌≡◌, take}
use Rattle.sheet.specs.Laid.{laid}
use Rattle.words.specs.Fields.{joined}
use Rattle.parking.proofs.put.put_all.Given as goal

abbrev pub invariant-loop-i : goal.invariant-loop-i
invariant-loop-i g l = l.span ≡ laid 0 (joined g.W.Word.bytes (take l.i l.xs)) l.initial.span
