-- `resample::resample` meets its contract: off, the levels go into their places; on, the resampler's block is the feed.
use Rattle.std.proofs.Common.{sym, arith}
use borrow.Author.Tests.{eqb-true}
use Rattle.chain.proofs.Running.{off_fits, off_batched, none_batched, moved_within, moved_batched}
use Rattle.chain.proofs.resample.resample.Goals as goal

pub returns-then-out-count-clause-batched : goal.returns-then-out-count-clause-batched
returns-then-out-count-clause-batched c v whole = absurd (omega (arith, off_fits _ _ _ c.if-setting-eq0.true v whole, c.if-out-count.true))

pub returns-then-setting-eq0-clause-batched : goal.returns-then-setting-eq0-clause-batched
returns-then-setting-eq0-clause-batched c v whole = rw c.copy_from_slice.ensures.after (off_batched _ _ _ c.if-setting-eq0.true v whole)

pub returns-clause-within : goal.returns-clause-within
returns-clause-within c = moved_within _ _ _ _ _ _ c.block-moved.ensures.answer c.unwrap_or.ensures

pub returns-clause-batched : goal.returns-clause-batched
returns-clause-batched c =
    moved_batched _ _ _ _ _ _ c.block-moved.ensures.answer c.unwrap_or.ensures _
    c.block-moved.ensures.span c.if-setting-eq0.false

pub returns-then-not-mu-clause-batched : goal.returns-then-not-mu-clause-batched
returns-then-not-mu-clause-batched c v whole = none_batched _ c.args.levels.now _ (eqb-true _ _ (sym c.if-is_empty.ensures)) c.if-not-mu.true
