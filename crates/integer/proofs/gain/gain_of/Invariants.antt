-- After so many turns the product is that power of r, held.
use Rattle.std.proofs.Common.{◌≡◌, ◌^◌}
use Rattle.integer.specs.Gain.{held}
use Rattle.integer.proofs.gain.gain_of.Given as goal

abbrev pub invariant-loop : goal.invariant-loop
invariant-loop l = l.gain ≡ held (l.r ^ l.counter)
