-- By the tests on the way.
use Rattle.std.proofs.Common.{sym, arith, ◌∙◌}
use borrow.Author.Tests.{eqb-true}
use Rattle.sheet.specs.Sheet as S
use Rattle.sheet.proofs.Writing.{directory_is, directory_out}
use Rattle.sheet.proofs.write.lay_directory.Goals as goal

pub returns-then-data_from-span : goal.returns-then-data_from-span
returns-then-data_from-span c = c.put_directory.ensures ∙ sym (directory_is S.present c.args.total c.args.lengths.now c.args.span.now c.if-lengths-gt-MOST_ENTRIES.false (omega arith) (eqb-true _ _ (sym (c.if-not-adds_up.ensures))) (omega arith))

pub returns-else-data_from-span : goal.returns-else-data_from-span
returns-else-data_from-span c = directory_out S.present c.args.total c.args.lengths.now c.args.span.now (omega arith)
