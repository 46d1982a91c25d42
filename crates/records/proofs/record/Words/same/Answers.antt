-- The next word is compared, where there is one.
use Rattle.std.proofs.Common.{◌<◌, length, arith}
use Rattle.std.proofs.lemmas.Grind.{common_steps}
use Rattle.std.proofs.lemmas.List.{get_or-take}
use Rattle.records.proofs.Compares.{next, no_word}
use Rattle.records.proofs.record.Words.same.Goals as goal

pub returns-in-len1 : goal.returns-in-len1
returns-in-len1 g c =
    let h : 0 < length c.args.self.now.left.now = grind (arith, common_steps) in
    let e = rw (c.first.ensures.value, get_or-take 1 c.args.self.now.left.now 0 0 (omega arith)) at c.is_recorded_as.ensures in
    rw (← e) (next _ _ _ (omega arith) h c.first.ensures.left)

pub returns-in_default : goal.returns-in_default
returns-in_default g c = no_word _ _ _ (grind (arith, common_steps))
