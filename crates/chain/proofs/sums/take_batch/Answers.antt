-- `sums::take_batch` meets its contract: the sums of section 1, scaled and cut in front of an array, and these into the FIR.
use Rattle.chain.proofs.Running.{taken_within, took_batch, batch_counted}
use Rattle.chain.proofs.sums.take_batch.Goals as goal

pub returns-clause-within : goal.returns-clause-within
returns-clause-within c = (taken_within _ _ _ _ _ c.values_in-cuts.ensures.counts, c.filter-written.ensures.within.0)

pub returns-clause-counted : goal.returns-clause-counted
returns-clause-counted c =
    let thinned = c.values_in-cuts.ensures in
    batch_counted _ _ _ _ _ _ _ _ _ _ _ _ c.min-most.ensures thinned.counts thinned.cut (rw c.held_sum-clock.ensures at c.filter-written.ensures.cuts)

pub returns-clause-batched : goal.returns-clause-batched
returns-clause-batched c =
    let thinned = c.values_in-cuts.ensures in
    let on = c.filter-written.ensures in
    rw (on.counter, on.stays.integrators, on.stays.combs, on.stays.neighbours)
    (took_batch _ _ _ _ _ _ _ _ _ _ _ _ _ _ _ _ _ _ _ _ _ c.min-most.ensures thinned.counts thinned.state thinned.cut (rw c.held_sum-clock.ensures at on.cuts) on.batched)
