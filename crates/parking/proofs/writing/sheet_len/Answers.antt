-- A sheet has its directory and the sizes that the settings make, which are few.
use Rattle.std.proofs.Common.{arith}
use Rattle.parking.specs.Kept.{line_kept}
use Rattle.parking.proofs.LineSheet.{sizes_are, sum_few, long_of, count_most}
use Rattle.parking.proofs.writing.sheet_len.Goals as goal

pub total-requires : goal.total-requires
total-requires c =
    let e = sizes_are (line_kept c.args.line.now.kept) c.args.line.now.fine c.entry_count-count.result c.sizes-sizes.result _ c.entry_count-count.ensures c.sizes-sizes.ensures (c.of.ensures c.args.line.now.kept) in
    let m = sum_few (line_kept c.args.line.now.kept) c.args.line.now.fine _ e in
    omega arith

pub overflow_add-result : goal.overflow_add-result
overflow_add-result c =
    let e = sizes_are (line_kept c.args.line.now.kept) c.args.line.now.fine c.entry_count-count.result c.sizes-sizes.result _ c.entry_count-count.ensures c.sizes-sizes.ensures (c.of.ensures c.args.line.now.kept) in
    let m = sum_few (line_kept c.args.line.now.kept) c.args.line.now.fine _ e in
    let k = count_most (line_kept c.args.line.now.kept) c.args.line.now.fine (line_kept c.args.line.now.kept).thinning in
    omega (arith, c.total.ensures, c.data_from.ensures, c.entry_count-count.ensures)

pub returns : goal.returns
returns c =
    let e = sizes_are (line_kept c.args.line.now.kept) c.args.line.now.fine c.entry_count-count.result c.sizes-sizes.result _ c.entry_count-count.ensures c.sizes-sizes.ensures (c.of.ensures c.args.line.now.kept) in
    let n = long_of (line_kept c.args.line.now.kept) c.args.line.now.fine _ e in
    omega (arith, c.total.ensures, c.data_from.ensures, c.entry_count-count.ensures)
