-- Row 15 is asked of the line's numbers, and a line that it takes is in its limits.
use Rattle.std.proofs.Common.{refl, sym, ◌∙◌}
use Rattle.line.proofs.Numbers.{valid_apart}
use Rattle.parking.specs.Kept.{line_kept}
use Rattle.parking.proofs.OffParts.{fine_on}
use Rattle.parking.proofs.fine_line.FineLine.of.Goals as goal

pub returns-then-not-numbers_valid-clause-damaged : goal.returns-then-not-numbers_valid-clause-damaged
returns-then-not-numbers_valid-clause-damaged c = (refl, sym (valid_apart (line_kept c.args.k.now)) ∙ sym c.numbers_valid.ensures ∙ c.if-not-numbers_valid.true)

pub returns-clause-valid : goal.returns-clause-valid
returns-clause-valid c = sym (valid_apart (line_kept c.args.k.now)) ∙ sym c.numbers_valid.ensures ∙ c.if-not-numbers_valid.false

pub invariant_of-result : goal.invariant_of-result
invariant_of-result c =
    record {
      fine = fine_on c.args.k.now (sym (valid_apart (line_kept c.args.k.now)) ∙ sym c.numbers_valid.ensures ∙ c.if-not-numbers_valid.false) _ c.parked-kept.ensures.value c.parked-kept.ensures.typed;
    }
