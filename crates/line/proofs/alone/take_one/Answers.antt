-- `take_one` meets its contract: the sample is a turn of the feed's loop.
use Rattle.std.proofs.Common.{◌≡◌, rules, pos, get_or, w32, to_z, of_z}
use Rattle.line.proofs.Batching.{to_begun}
use Rattle.line.proofs.Turning.{alone_took, alone_both}
use Rattle.line.proofs.alone.take_one.Goals as goal

pub returns-in-None-clause-begun : goal.returns-in-None-clause-begun
returns-in-None-clause-begun c =
    let x = get_or c.args.samples.now 0 (pos 0) in
    let read : to_z w32 (of_z w32 x) ≡ x = search rules in
    to_begun _ _ _ _ _ _ _ (alone_took c.args.own.fixed c.args.clock.now c.args.lent.now _ _ c.requires.fine c.requires.one (rw read at c.sample_in-made.ensures.takes) c.in-None.is)

pub returns-in-Some-clause-begun : goal.returns-in-Some-clause-begun
returns-in-Some-clause-begun c =
    let x = get_or c.args.samples.now 0 (pos 0) in
    let read : to_z w32 (of_z w32 x) ≡ x = search rules in
    to_begun _ _ _ _ _ _ _ (alone_both c.args.own.fixed c.args.clock.now c.args.lent.now _ _ c.requires.fine c.requires.one (rw read at c.sample_in-made.ensures.takes) c.in-Some.is)
