-- A shift of an i32 by 31 or more leaves its sign, so bits past 31 shift no further.
use Rattle.std.proofs.Common.{◌^◌, to_z-of_z}
use Rattle.integer.proofs.Shifts.{shifted_fits, held_shift}
use Rattle.integer.proofs.gain.scaled.Goals as goal

pub returns : goal.returns
returns c =
    rw (to_z-of_z c.ranges.y, to_z-of_z (shifted_fits c.args.y (2 ^ c.min.result) c.ranges.y), c.min.ensures) (held_shift c.args.y c.args.bits c.ranges.y)
