-- Each stage lies in the entry.
use Rattle.std.proofs.Common.{arith}
use Rattle.taking_up.proofs.Rooms.{stage_room}
use Rattle.taking_up.proofs.parked.Parked.stages_written.Goals as goal

pub are_floats-requires : goal.are_floats-requires
are_floats-requires c = let r = stage_room c.args.self.q.depth c.loop-k.k _ c.args.self.limits.depth c.loop-k-test.true c.args.self.long.half_band in omega arith
