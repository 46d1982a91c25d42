-- The numbers passed are laid.
use Rattle.std.proofs.Common.{◌≡◌, take}
use Rattle.sheet.specs.Laid.{laid}
use Rattle.sheet.specs.Sheet.{bytes16}
use Rattle.words.specs.Fields.{joined}
use Rattle.parking.proofs.entries.put_numbers.Given as goal

abbrev pub invariant-loop-i : goal.invariant-loop-i
invariant-loop-i l = l.span ≡ laid 0 (joined bytes16 (take l.i l.numbers)) l.initial.span
