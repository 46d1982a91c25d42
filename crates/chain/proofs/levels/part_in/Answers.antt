-- `levels::part_in` meets its contract: the levels stand at the end of a tape, the half-band stages go over it, and what they make goes into the resampler.
use lib.ListN.{replicate, length-replicate}
use Rattle.float.specs.F32.{zero32}
use Rattle.chain.proofs.Running.{levels_batched}
use Rattle.chain.proofs.levels.part_in.Goals as goal

pub returns-clause-batched : goal.returns-clause-batched
returns-clause-batched c =
    let told = c.hbf_stream_block_at-made.ensures in
    levels_batched _ _ _ _ c.args.values.now (replicate 160 zero32) c.put_levels.new.span c.hbf_stream_block_at-made.new.tape _ _ _ _ c.requires (length-replicate 160 zero32) c.put_levels.ensures
    told.next told.end c.hbf_stream_block_at-made.auto.tape c.resample.ensures.batched
