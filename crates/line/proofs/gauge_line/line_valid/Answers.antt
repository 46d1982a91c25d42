-- `line_valid` meets its contract: the parts are tested by the numbers that they have.
use Rattle.std.proofs.Common.{◌∙◌}
use Rattle.line.proofs.Numbers.{valid_apart}
use Rattle.line.proofs.gauge_line.line_valid.Goals as goal

pub returns : goal.returns
returns c = rw c.numbers_in.ensures at c.numbers_valid.ensures ∙ valid_apart c.args.l.now
