-- `keep` meets its contract: what is behind the cells kept is written over with zeros (`kept`).
use Rattle.std.proofs.Common.{rules}
use Rattle.float.proofs.Packing.{kept}
use Rattle.float.proofs.opening.keep.Goals as goal

pub returns : goal.returns
returns c = kept c.args.cells.now c.fill.new.self c.min.result c.args.count c.min.ensures (search rules) (c.fill.ensures.after (λ y e. e))
