-- `lengths_fine` meets its contract: the chain tests each length.
use Rattle.std.specs.Prelude.{◌↔◌, IsTrue}
use Rattle.std.proofs.Common.{rules}
use Rattle.plan.proofs.Fine.{Fine, fine_as}
use Rattle.plan.proofs.lists.lengths_fine.Goals as goal

pub returns : goal.returns
returns c =
    let each : IsTrue c.all.result ↔ Fine c.args.lengths.now = search rules in
    fine_as c.args.lengths.now c.all.result each
