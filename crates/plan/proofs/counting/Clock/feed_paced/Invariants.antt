-- `Clock::feed_paced` keeps `Going`: what it has taken and written so far is what the machine that ticks has, and the clock of its places is where that machine is.
use Rattle.std.proofs.Common.{◌+◌, ◌-◌, ◌≤◌, Some}
use Rattle.plan.proofs.Going.{Going}
use Rattle.plan.proofs.counting.Clock.feed_paced.Given as goal

abbrev pub invariant-loop-written : goal.invariant-loop-written
invariant-loop-written l =
    record {
      going : Going l.fn.self l.piece l.places (record { left = l.left; period = l.period; pace = Some (record { step = l.pace.step; mu = l.mu }) }) l.taken l.written;
      left : 1 ≤ l.left;
      period : 1 ≤ l.period;
    }

abbrev pub decreases-loop-written : goal.decreases-loop-written
decreases-loop-written l = l.piece - l.taken + (l.places - l.written)
