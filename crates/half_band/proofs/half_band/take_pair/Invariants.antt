-- After i turns 2i places have moved.
use Rattle.std.proofs.Common.{◌≡◌, ◌*◌}
use Rattle.half_band.proofs.Moving.{moved}
use Rattle.half_band.proofs.half_band.take_pair.Given as goal

abbrev pub invariant-loop-i : goal.invariant-loop-i
invariant-loop-i l = l.window ≡ moved l.initial.window 2 (2 * l.i)
