-- What is left to do from a place of the neighbours on, with those in front of it done, is all there was to do.
use Rattle.std.proofs.Common.{◌≡◌, ◌^◌, ◌≤◌, ◌<◌, length, drop}
use Rattle.nonrecursive.specs.NonrecursiveDecimator.{thinned, halvings}
use Rattle.nonrecursive.proofs.ThinSteps.{going_on}
use Rattle.nonrecursive.proofs.nonrecursive_decimator.thin.Given as goal

abbrev pub invariant-loop-left : goal.invariant-loop-left
invariant-loop-left l =
    record {
      inside : l.from ≤ length l.neighbours;
      fits : l.left < 2 ^ 64;
      rest : thinned l.stages (halvings l.r) l.initial.neighbours l.place l.input ≡ going_on l.from l.neighbours (thinned l.stages (halvings l.left) (drop l.from l.neighbours) l.at l.val);
    }

abbrev pub decreases-loop-left : goal.decreases-loop-left
decreases-loop-left l = l.left
