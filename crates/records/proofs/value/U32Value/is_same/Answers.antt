-- The value is compared as a word.
use Rattle.std.proofs.Common.{refl}
use Rattle.records.proofs.Compares.{word}
use Rattle.records.proofs.value.U32Value.is_same.Goals as goal

pub returns : goal.returns
returns c = word _ _ _ _ _ refl c.same.ensures
