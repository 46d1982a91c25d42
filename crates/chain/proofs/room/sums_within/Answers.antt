-- `room::sums_within` meets its contract: what it works out leaves a place.
use Rattle.std.proofs.Common.{rules}
use Rattle.chain.proofs.Leaving.{sums_leave}
use Rattle.chain.proofs.room.sums_within.Goals as goal

pub returns-clause-leaves : goal.returns-clause-leaves
returns-clause-leaves c =
    let e = c.values_for-values.ensures in
    λ mu taps fd delays held delay prototype. sums_leave c.args.f c.args.wait c.args.counts c.args.places _ _ _ _ _ _
    (record {
      long = search rules;
      stride_is = c.stride.ensures;
      levels_fit = c.levels_for-levels.ensures.0;
      values_are = e.0;
      first_is = c.held_or_one-first.ensures;
      period_is = c.held_or_one-period.ensures;
      are = c.min.ensures;
    })
    mu taps fd delays held delay prototype
