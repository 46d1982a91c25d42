-- A flag is the word 1 or 0.
use Rattle.std.proofs.Common.{rules}
use Rattle.records.proofs.Compares.{word}
use Rattle.records.proofs.record.Words.same_flag.Goals as goal

pub returns : goal.returns
returns c = word _ _ _ _ _ (search rules) c.same.ensures
