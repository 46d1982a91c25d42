-- `rows::places` meets its contract: inside the limits the product fits.
use Rattle.std.proofs.Common.{sym, ◌∙◌, arith}
use Rattle.float.proofs.PolyphaseOutput.{limits_say, few_cells}
use Rattle.phase_rows.proofs.rows.places.Goals as goal

pub overflow_mul-phases : goal.overflow_mul-phases
overflow_mul-phases c = record { fits = omega (arith, few_cells _ _ (limits_say _ _ (sym c.in_limits.ensures ∙ c.if-not-in_limits.false))) }
