-- The directory and the entries behind it are the sheet.
use Rattle.std.proofs.Common.{◌≡◌, ◌∙◌, ap, arith}
use Rattle.sheet.specs.Sheet as S
use Rattle.parking.specs.inner.Told.{count_by, all_sizes}
use Rattle.parking.specs.Kept.{line_kept}
use Rattle.parking.proofs.LineSheet.{sizes_are, sum_few, sum_is, room_by, behind_long, directory_put, line_put}
use Rattle.parking.proofs.writing.put_line.Goals as goal

pub split_at_mut-directory-requires : goal.split_at_mut-directory-requires
split_at_mut-directory-requires c = let r = room_by (line_kept c.args.line.now.kept) c.args.line.now.fine _ c.requires in omega (arith, c.data_from.ensures, c.entry_count-count.ensures)

pub total-requires : goal.total-requires
total-requires c =
    let e = sizes_are (line_kept c.args.line.now.kept) c.args.line.now.fine c.entry_count-count.result c.sizes-sizes.result _ c.entry_count-count.ensures c.sizes-sizes.ensures (c.of-q.ensures c.args.line.now.kept) in
    let m = sum_few (line_kept c.args.line.now.kept) c.args.line.now.fine _ e in
    omega arith

pub put_entries-requires : goal.put_entries-requires
put_entries-requires c =
    let l = line_kept c.args.line.now.kept in
    let q = c.of-q.ensures c.args.line.now.kept in
    let d : c.data_from.result ≡ S.data_from (count_by l.thinning) = omega (arith, c.data_from.ensures, c.entry_count-count.ensures) in
    (q, c.sizes-sizes.ensures ∙ ap (all_sizes l.thinning) q, behind_long l c.args.line.now.fine _ _ c.requires (rw d at c.split_at_mut-directory.ensures.back_len))

pub returns : goal.returns
returns c =
    let l = line_kept c.args.line.now.kept in
    let e = sizes_are l c.args.line.now.fine c.entry_count-count.result c.sizes-sizes.result _ c.entry_count-count.ensures c.sizes-sizes.ensures (c.of-q.ensures c.args.line.now.kept) in
    let d : c.data_from.result ≡ S.data_from (count_by l.thinning) = omega (arith, c.data_from.ensures, c.entry_count-count.ensures) in
    line_put l c.args.line.now.fine _ _ (directory_put l c.args.line.now.fine _ _ _ c.total.result e (c.total.ensures ∙ sum_is _) (rw d at c.split_at_mut-directory.ensures.front_len) c.lay_directory.ensures) c.put_entries.ensures
