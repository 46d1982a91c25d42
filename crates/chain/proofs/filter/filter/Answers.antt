-- `filter::filter` meets its contract: the values through the FIR, and what it makes into the half-band stages.
use Rattle.std.proofs.Common.{◌∙◌, arith, refl}
use Rattle.chain.proofs.Running.{filtered_state, filtered_cuts, filtered_front, few_cuts, filter_batched}
use Rattle.chain.proofs.filter.filter.Goals as goal

pub overflow_cast-at : goal.overflow_cast-at
overflow_cast-at c = omega (arith, few_cuts _ _ _ c.requires (filtered_cuts _ _ c.requires _ c.fir_block_at-at.ensures.cuts))

pub returns-clause-within : goal.returns-clause-within
returns-clause-within c =
    (c.levels_in.ensures.within, few_cuts _ _ _ c.requires refl)

pub returns-clause-batched : goal.returns-clause-batched
returns-clause-batched c =
    let told = rw c.fir-settings.ensures at c.fir_block_at-at.ensures in
    let on = rw c.resampler-setting.ensures at c.levels_in.ensures.batched in
    let few = c.requires in
    filter_batched _ _ _ _ _ _ _ _ _ _ _ (told.state ∙ filtered_state _ c.args.values.now few) (filtered_front _ c.args.values.now few _ _ told.outputs) on
