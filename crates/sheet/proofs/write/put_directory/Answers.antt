-- The pairs stand right behind the count.
use Rattle.std.proofs.Common.{◌≡◌, ◌*◌, length, refl, arith, ◌∙◌}
use Rattle.sheet.specs.Laid.{laid}
use Rattle.sheet.specs.Sheet as S
use Rattle.sheet.proofs.Laying.{laid_behind, pairs_length}
use Rattle.sheet.proofs.write.put_directory.Goals as goal

pub returns : goal.returns
returns c =
    let l = c.args.lengths.now in
    let P = S.pairs_from (S.data_from (length l)) l in
    let n : length P ≡ 8 * length l = pairs_length (S.data_from (length l)) l in
    let e : c.put_pairs.new.span ≡ laid 2 P (laid 0 (S.bytes16 (S.count_word S.present (length l))) c.args.span.now) = cc in
    e ∙ laid_behind 0 2 (S.bytes16 (S.count_word S.present (length l))) P c.args.span.now refl (omega arith)
