-- `feed_by` meets its contract: samples that are only integrated are a feed, and so is one that neighbours only keep.
use Rattle.std.proofs.Common.{◌≡◌, rules, pos, get_or, w32, to_z, of_z, refl}
use Rattle.line.proofs.Turning.{rested, waited}
use Rattle.line.proofs.feed.feed_by.Goals as goal

pub returns-then-only_integrates-clause-ran : goal.returns-then-only_integrates-clause-ran
returns-then-only_integrates-clause-ran c =
    rested c.args.own.fixed c.args.clock.now c.args.lent.now _ _ _ _ c.requires (c.only_integrates.ensures c.if-only_integrates.true) c.integrate_all.ensures.counter c.integrate_all.ensures.made

pub returns-then-waits_one-clause-ran : goal.returns-then-waits_one-clause-ran
returns-then-waits_one-clause-ran c =
    let w = c.waits_one.ensures c.if-waits_one.true in
    let x = get_or c.args.samples.now 0 (pos 0) in
    let read : to_z w32 (of_z w32 x) ≡ x = search rules in
    let made = rw (read, c.sums_neighbours.ensures) at c.thin_apart-clock.ensures in
    waited c.args.own.fixed c.args.clock.now c.args.lent.now _ _ c.requires w.1 w.2 made refl refl
