-- What stands behind the stages stays, so those in use are all that is written back.
use Rattle.std.proofs.Common.{to_z-of_z}
use Rattle.integer.proofs.Filling.{front_filled}
use Rattle.integer.proofs.cic_interpolator.fill_of.Goals as goal

pub returns : goal.returns
returns g c =
    let filled = rw (to_z-of_z c.ranges.input) at c.fill_on.ensures in
    (rw (c.write_back.ensures, filled.0) (front_filled g.row.N c.args.integrators.now c.args.input _), filled.1)
