-- The lengths passed and what is left add up to the total.
use Rattle.std.proofs.Common.{◌≡◌, ◌+◌, take}
use Rattle.sheet.specs.Sheet.{sum}
use Rattle.sheet.proofs.write.adds_up.Given as goal

abbrev pub invariant-loop-n : goal.invariant-loop-n
invariant-loop-n l = sum (take l.n-index l.lengths) + l.left ≡ l.total
