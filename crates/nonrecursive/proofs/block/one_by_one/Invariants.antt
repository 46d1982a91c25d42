-- Each turn is one step of the feed.
use Rattle.nonrecursive.specs.NonrecursiveDecimator.{nonrecursive_of, nonrecursive}
use Rattle.nonrecursive.proofs.OneByOne.{Done}
use Rattle.nonrecursive.proofs.block.one_by_one.Given as goal

abbrev pub invariant-loop-taken : goal.invariant-loop-taken
invariant-loop-taken l =
    Done nonrecursive (nonrecursive_of l.stages l.r l.initial.neighbours l.initial.place) l.src l.initial.dst l.dst
    (nonrecursive_of l.stages l.r l.neighbours l.place) l.taken l.written
