-- What was laid is read back, and an older reader answers it with 16.
use Rattle.std.proofs.Common.{◌≡◌, ◌-◌, length, arith, refl, ◌∙◌}
use Rattle.sheet.specs.Sheet as S
use Rattle.sheet.proofs.RoundTrip.{answer_reads}
use Rattle.sheet.proofs.Rules.{answer_older}
use Rattle.sheet.proofs.Writing.{writer_good, writer_size, span_kept, sheet_laid, span_written}
use Rattle.sheet.proofs.write.write_sheet.Goals as goal

pub put_directory-requires : goal.put_directory-requires
put_directory-requires c =
    let w = writer_size c.args.joined.now c.args.lengths.now c.args.span.now c.in_ok-size.size c.in_ok-size.ensures in
    let g = writer_good c.args.joined.now c.args.lengths.now (length c.args.span.now) w.0 in
    (g.few, omega (arith, g.adds, g.most), omega (arith, g.room))

pub overflow_sub-size : goal.overflow_sub-size
overflow_sub-size c =
    let w = writer_size c.args.joined.now c.args.lengths.now c.args.span.now c.in_ok-size.size c.in_ok-size.ensures in
    omega (arith, w.1)

pub put-requires : goal.put-requires
put-requires c =
    let w = writer_size c.args.joined.now c.args.lengths.now c.args.span.now c.in_ok-size.size c.in_ok-size.ensures in
    let g = writer_good c.args.joined.now c.args.lengths.now (length c.args.span.now) w.0 in
    omega (arith, w.1, g.room)

pub returns-clause-span : goal.returns-clause-span
returns-clause-span c =
    let s = c.args in
    let w = writer_size s.joined.now s.lengths.now s.span.now c.in_ok-size.size c.in_ok-size.ensures in
    let g = writer_good s.joined.now s.lengths.now (length s.span.now) w.0 in
    let at : c.in_ok-size.size - length s.joined.now ≡ S.data_from (length s.lengths.now) = omega (arith, w.1) in
    c.put.ensures ∙ rw (at, c.put_directory.ensures) (sheet_laid S.present s.joined.now s.lengths.now s.span.now g.room) ∙ span_written S.present s.joined.now s.lengths.now s.span.now w.0

pub returns-clause-reads : goal.returns-clause-reads
returns-clause-reads c = answer_reads S.present _ _ c.args.span.now _ _ c.in_ok-size.ensures (returns-clause-span c) refl

pub returns-clause-older : goal.returns-clause-older
returns-clause-older c = answer_older _ _ c.args.span.now _ _ c.in_ok-size.ensures (returns-clause-span c) refl

pub returns-in_err-size-clause-span : goal.returns-in_err-size-clause-span
returns-in_err-size-clause-span c = span_kept _ _ _ S.present _ c.in_err-size.ensures
