-- After i turns 2i places have moved.
use Rattle.std.proofs.Common.{◌≡◌, ◌*◌}
use Rattle.half_band.proofs.Moving.{moved}
use Rattle.half_band.proofs.half_band.take_sample.Given as goal

abbrev pub invariant-loop-i : goal.invariant-loop-i
invariant-loop-i l = l.window ≡ moved l.initial.window 1 (2 * l.i)
