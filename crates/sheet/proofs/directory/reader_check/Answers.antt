-- A whole directory has few entries, and the sheet has room for it.
use Rattle.std.proofs.Common.{arith}
use Rattle.sheet.specs.Sheet.{present}
use Rattle.sheet.proofs.Answering.{whole}
use Rattle.sheet.proofs.directory.reader_check.Goals as goal

pub entries_fine-requires : goal.entries_fine-requires
entries_fine-requires c = let w = whole present c.args.bytes.now (cc) in (omega (arith, w.most), omega (arith, w.room))
