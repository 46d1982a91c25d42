-- A turn is a halving more.
use Rattle.std.proofs.Common.{arith}
use Rattle.nonrecursive.proofs.TapeSteps.{thinning_starts, pairs_left, part_enough, neighbours_there, thinning_more, thinning_done}
use Rattle.nonrecursive.proofs.block.thin_tape.Goals as goal

pub loop-left-init : goal.loop-left-init
loop-left-init c = thinning_starts _ _ _ _ _ (omega (arith, c.well_formed)) c.requires.0 c.requires.1 c.requires.2

pub halve-requires : goal.halve-requires
halve-requires c =
    let l = c.loop-left in
    let more = c.loop-left-test.true in
    let e = pairs_left _ _ _ _ _ l.neighbours l.tape l.left l.from l.invariant more in
    (part_enough _ _ _ _ _ l.neighbours l.tape l.left l.from l.invariant more, omega (arith, e, l.invariant.values_left))

pub loop-left-preserved : goal.loop-left-preserved
loop-left-preserved c =
    let l = c.loop-left in
    let e = c.halve.ensures in
    thinning_more _ _ _ _ _ l.neighbours l.tape l.left l.from l.invariant c.loop-left-test.true _ _ e.0 e.1 e.2

pub returns : goal.returns
returns c =
    let l = c.loop-left in
    let d = thinning_done _ _ _ _ _ l.neighbours l.tape l.left l.from l.invariant c.loop-left-test.false in
    (d.0, d.1, l.invariant.same)

pub overflow_add-from : goal.overflow_add-from
overflow_add-from c =
    let l = c.loop-left in
    let e = neighbours_there _ _ _ _ _ l.neighbours l.tape l.left l.from l.invariant c.loop-left-test.true in
    record { fits = omega (arith, e, l.invariant.long, c.well_formed) }
