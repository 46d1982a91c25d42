-- `room::values_for` meets its contract: a turn counts one stage more.
use Rattle.std.proofs.Common.{arith, rules}
use Rattle.chain.proofs.Leaving.{next_counted, few_counted, all_counted}
use Rattle.chain.proofs.room.values_for.Goals as goal

pub overflow_mul-values : goal.overflow_mul-values
overflow_mul-values c =
    let few = few_counted _ _ _ _ _ (omega arith) c.requires c.loop-k.invariant in
    search (rules, few)

pub overflow_add-values : goal.overflow_add-values
overflow_add-values c =
    let few = few_counted _ _ _ _ _ (omega arith) c.requires c.loop-k.invariant in
    let b = c.before_pair.ensures.1 in
    search (rules, few, b)

pub loop-k-preserved : goal.loop-k-preserved
loop-k-preserved c = next_counted _ _ _ _ _ _ c.loop-k-test.true c.before_pair.ensures.0 c.loop-k.invariant

pub returns : goal.returns
returns c = (all_counted _ _ _ _ _ c.loop-k-test.false c.loop-k.invariant, few_counted _ _ _ _ _ (omega arith) c.requires c.loop-k.invariant)
