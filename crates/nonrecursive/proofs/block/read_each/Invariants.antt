-- Wrapping leaves the samples read so far alone.
use Rattle.std.proofs.Common.{◌≡◌, take, w32}
use mathlib.Core.List.{map}
use Rattle.theory.specs.Wrap.{wrap}
use Rattle.nonrecursive.proofs.block.read_each.Given as goal

abbrev pub invariant-loop-sample : goal.invariant-loop-sample
invariant-loop-sample l = take l.sample-index l.samples ≡ map (wrap w32) (take l.sample-index l.samples)
