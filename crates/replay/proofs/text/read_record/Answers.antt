-- A record is its header and then its words.
use Rattle.std.proofs.Common.{arith, refl}
use Rattle.std.proofs.lemmas.Grind.{common_steps}
use Rattle.replay.proofs.Bytes.{record_of}
use Rattle.replay.proofs.text.read_record.Goals as goal

pub returns-clause-spelled : goal.returns-clause-spelled
returns-clause-spelled g c =
    let n = rw c.in_ok-count.ensures.ok_part at c.parse_word.ensures in
    record_of _ _ _ c.read_full.new.buf c.in_ok-got.got c.in_ok-count.field-0 c.read_full-2.new.buf c.parse.new.words _ c.in_ok-read_full.field-0
    (grind (arith, common_steps)) c.in_ok-got.ensures.consumed n
    c.in_ok-read_full.ensures.consumed (omega arith) (grind (arith, common_steps)) (grind (arith, common_steps)) (c.if-not-parse.ensures refl)
