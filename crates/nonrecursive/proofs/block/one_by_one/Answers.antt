-- A turn is one sample of the feed, which ends where a sample or a place is missing.
use Rattle.std.proofs.Common.{◌≡◌, ◌<◌, inl, inr, length, get_or, pos, refl, arith, w32, to_z, of_z, rules}
use Rattle.nonrecursive.specs.NonrecursiveDecimator.{nonrecursive, fed_block}
use Rattle.nonrecursive.proofs.OneByOne.{one, ended}
use Rattle.nonrecursive.proofs.block.one_by_one.Goals as goal

pub loop-taken-preserved : goal.loop-taken-preserved
loop-taken-preserved c =
    let a = c.args in
    let l = c.loop-taken in
    let x = get_or a.src.now l.taken (pos 0) in
    let read : to_z w32 (of_z w32 x) ≡ x = search rules in
    let room : l.written < length l.dst = (let m = l.invariant in omega (arith, m.some_written, m.same, c.if-written-dst.false)) in
    let out = rw read at c.nonrecursive_at-sum.ensures.out in
    let next = rw read at c.nonrecursive_at-sum.ensures.next in
    rw (c.put_sum-written.ensures.0, c.put_sum-written.ensures.1, next) (one nonrecursive _ _ _ _ _ _ _ l.invariant room c.loop-taken-test.true x refl _ out)

pub returns-then-written-dst-clause-feed : goal.returns-then-written-dst-clause-feed
unfolding fed_block
returns-then-written-dst-clause-feed c = let m = c.loop-taken.invariant in ended nonrecursive _ _ _ _ _ _ _ m (inr (omega (arith, c.if-written-dst.true, m.same)))

pub returns-clause-feed : goal.returns-clause-feed
unfolding fed_block
returns-clause-feed c =
    let l = c.loop-taken in
    let all : l.taken ≡ length c.args.src.now = omega (arith, c.loop-taken-test.false, l.invariant.some_taken) in
    ended nonrecursive _ _ _ _ _ _ _ (rw all at l.invariant) (inl (omega arith))
