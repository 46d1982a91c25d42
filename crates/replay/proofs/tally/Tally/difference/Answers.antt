-- The code stands behind what was written first.
use Rattle.std.proofs.Common.{◌++◌, codes, decimal}
use Rattle.replay.specs.Report.{eight_digits}
use Rattle.replay.proofs.Bytes.{appended_then}
use Rattle.replay.proofs.tally.Tally.difference.Goals as goal

pub returns : goal.returns
returns g c =
    appended_then c.code.result _ _ _ (codes "first difference: record " ++ (decimal c.args.self.now.first ++ codes ", operation ")) (eight_digits c.args.self.now.operation ++ codes "\n")
    c.in_ok-write.ensures.bytes c.code.ensures
