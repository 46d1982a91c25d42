-- An entry that is not refused is one of the count's, so that its pair stands in the directory.
use Rattle.std.proofs.Common.{◌≡◌, ◌<◌, sym, arith, ℕ, List}
use Rattle.sheet.specs.Sheet.{present, reader_number, entry_number}
use Rattle.sheet.proofs.Answering.{found, place_given, entry_handed}
use Rattle.sheet.proofs.tap_sheet.TapSheet.place.Goals as goal

handed : (b : List ℕ) (count k : ℕ) → 0 ≡ reader_number present b count → k < count → entry_number present b count k ≡ 0
handed b count k e h = sym (entry_handed present b count k (sym e) h)

pub place_at-requires : goal.place_at-requires
place_at-requires c = let f = found present c.args.self.bytes.now c.args.self.count c.args.k (handed _ _ _ c.in_ok-reader_check.ensures c.if-self-k.false) in omega (arith, f.few, f.below)

pub returns : goal.returns
returns c = place_given present _ _ _ c.place_at.result c.place_at.ensures.offset c.place_at.ensures.size (handed _ _ _ c.in_ok-reader_check.ensures c.if-self-k.false)
