-- The pass keeps what each pair of entries is asked, so that the first entry that may not stand behind those passed is one that the definition refuses.
use Rattle.std.proofs.Common.{◌+◌, sym}
use Rattle.sheet.specs.inner.Passed.{where_full}
use Rattle.sheet.proofs.Passing.{Kept, at_start, at_end, out_of_data, cannot_follow, goes_on}
use Rattle.sheet.proofs.directory.entries_fine.Goals as goal
use Rattle.sheet.proofs.directory.entries_fine.Goals.{then-not-in_data-via-then-not-in_data, then-not-in_data-via-else-not-in_data+then-not-may_follow}

pub loop-k-init : goal.loop-k-init
loop-k-init c = at_start _ _ _

pub returns-then-not-in_data : goal.returns-then-not-in_data
returns-then-not-in_data c =
    let p = c.loop-k.passed in
    let e = c.place_at-entry in
    let b = c.args.bytes.now in
    elim c.then-not-in_data.branch [
      | then-not-in_data-via-then-not-in_data w ↦
          sym (out_of_data c.args.first b c.args.n c.loop-k.k p.last p.full p.end e.result.offset e.result.size c.loop-k-test.true c.loop-k.invariant e.ensures.offset e.ensures.size (cc))
      | then-not-in_data-via-else-not-in_data+then-not-may_follow w ↦
          sym (cannot_follow c.args.first b c.args.n c.loop-k.k p.last p.full p.end e.result.offset e.result.size c.loop-k-test.true c.loop-k.invariant e.ensures.offset e.ensures.size (cc) (cc))
    ]

pub loop-k-preserved : goal.loop-k-preserved
loop-k-preserved c =
    let p = c.loop-k.passed in
    let e = c.place_at-entry in
    let b = c.args.bytes.now in
    let k : Kept c.args.first b c.args.n (c.loop-k.k + 1) e.result.offset (where_full e.result.size e.result.offset p.full) (where_full e.result.size (e.result.offset + e.result.size) p.end) =
    goes_on c.args.first b c.args.n c.loop-k.k p.last p.full p.end e.result.offset e.result.size c.loop-k-test.true c.loop-k.invariant e.ensures.offset e.ensures.size (cc) (cc) in
    rw (c.and-passed.ensures.last, c.and-passed.ensures.full, c.and-passed.ensures.end) k

pub returns : goal.returns
returns c = let p = c.loop-k.passed in sym (at_end c.args.first c.args.bytes.now c.args.n c.loop-k.k p.last p.full p.end c.loop-k-test.false c.loop-k.invariant)
