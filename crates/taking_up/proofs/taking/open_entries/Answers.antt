-- By the tests on the way: the lengths.
use Rattle.std.proofs.Common.{◌∙◌, sym}
use Rattle.parking.specs.inner.Told.{numbers_of}
use Rattle.taking_up.specs.inner.ByKind.{kind_in, told}
use Rattle.taking_up.specs.inner.Taking.{refused_line}
use Rattle.taking_up.proofs.Opened.{long_fits, short_by, other_by, long_opened}
use Rattle.taking_up.proofs.taking.open_entries.Goals as goal

pub returns-then-e-ne24-clause-answer : goal.returns-then-e-ne24-clause-answer
unfolding refused_line
returns-then-e-ne24-clause-answer c = short_by (told c.args.e) (kind_in c.args.e) c.if-e-ne24.true

pub returns-then-not-is_long-clause-answer : goal.returns-then-not-is_long-clause-answer
unfolding refused_line
returns-then-not-is_long-clause-answer c = other_by (told c.args.e) (kind_in c.args.e) c.if-e-ne24.false (rw c.settings_from-q.ensures.value at (sym c.is_long.ensures ∙ c.if-not-is_long.true))

pub open_parts-requires : goal.open_parts-requires
open_parts-requires c = long_fits (kind_in c.args.e) (numbers_of c.settings_from-q.result) (told c.args.e) (sym c.is_long.ensures ∙ c.if-not-is_long.false)

pub returns-clause-answer : goal.returns-clause-answer
returns-clause-answer c = c.open_parts.ensures.answer ∙ rw c.settings_from-q.ensures.value (long_opened (told c.args.e) (kind_in c.args.e) c.if-e-ne24.false (rw c.settings_from-q.ensures.value at (sym c.is_long.ensures ∙ c.if-not-is_long.false)))
