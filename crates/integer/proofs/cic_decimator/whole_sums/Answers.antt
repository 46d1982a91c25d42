-- A number of stages within the limits that is none of the first seven is the eighth.
use Rattle.std.proofs.Common.{◌≡◌, arith}
use Rattle.integer.proofs.cic_decimator.whole_sums.Goals as goal

pub returns-in_default : goal.returns-in_default
returns-in_default c =
    let within = c.args.settings.inside.0 in
    let eighth : c.args.settings.stages ≡ 8 = omega arith in
    rw eighth c.whole_sums_of-in_default.ensures
