-- `feed_through` meets its contract: the batches and the rest take no more samples than were lent; where nothing is left and nothing is due the batches were the feed.
use Rattle.std.proofs.Common.{sym, arith}
use Rattle.line.proofs.Batching.{begun_ran_on, ran_within}
use Rattle.line.proofs.Turning.{ended_here}
use Rattle.line.proofs.feed.feed_through.Goals as goal

pub overflow_add-result : goal.overflow_add-result
overflow_add-result c =
    let w = ran_within _ _ _ _ _ _ _ c.requires (begun_ran_on _ _ _ _ _ _ _ _ _ _ _ c.feed_batches-begun.ensures.begun c.feed_singly-rest.ensures.ran) in
    omega (arith, w.0)

pub returns-then-not-due-clause-ran : goal.returns-then-not-due-clause-ran
returns-then-not-due-clause-ran c = ended_here _ _ c.feed_batches-begun.new.lent _ _ _ _ _ _ c.if-samples-begun.true (sym c.if-not-due.ensures) c.feed_batches-begun.ensures.begun
