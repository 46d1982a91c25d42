-- Each turn the frames of a chunk more are taken, whose sums stand behind the others.
use Rattle.std.proofs.Common.{◌≡◌, ◌+◌, ◌-◌, ◌*◌, ◌≤◌, length}
use Rattle.nonrecursive.specs.NonrecursiveDecimator.{nonrecursive_of, nonrecursive}
use Rattle.nonrecursive.proofs.InParts.{Made}
use Rattle.nonrecursive.proofs.block.frames.Given as goal

abbrev pub invariant-loop-count : goal.invariant-loop-count
invariant-loop-count l =
    record {
      samples : l.taken + l.count * l.settings.r ≤ length l.src;
      places : l.written + l.count ≤ length l.dst;
      few : l.count * l.settings.r ≤ 256;
      paid : l.taken ≡ l.written * l.settings.r;
      made : Made nonrecursive (nonrecursive_of l.settings.stages l.settings.r l.initial.neighbours 0) l.src l.initial.dst l.dst
          (nonrecursive_of l.settings.stages l.settings.r l.neighbours 0) l.taken l.written;
    }

abbrev pub decreases-loop-count : goal.decreases-loop-count
decreases-loop-count l = length l.src - l.taken
