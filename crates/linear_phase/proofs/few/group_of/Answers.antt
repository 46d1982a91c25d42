-- `linear_phase::few::group_of` meets its contract: of the sums that are made, the first N have places in the span.
use Rattle.std.proofs.Common.{length, take, sym, ap, ◌∙◌, arith, length-take-le}
use lib.ListN.{length-replicate}
use Rattle.float.specs.F32.{zero32}
use Rattle.linear_phase.specs.inner.Lanes.{window_values}
use Rattle.linear_phase.proofs.SideBySide.{values_long, zero_sums}
use Rattle.linear_phase.proofs.Putting.{put_exact}
use Rattle.linear_phase.proofs.Groups.{values_front}
use Rattle.linear_phase.proofs.few.group_of.Goals as goal

pub outputs_at-requires : goal.outputs_at-requires
outputs_at-requires g c = (omega (arith, length-replicate g.row.L zero32, c.requires.0), zero_sums g.row.L)

pub returns : goal.returns
returns g c =
    let a = c.args in
    let o = c.outputs_at in
    let many = length-replicate g.row.L zero32 in
    let made = ap length o.ensures ∙ values_long a.fir.kind.odd a.fir.kind.antisymmetric a.fir.taps.now a.fir.long a.tape.now _ ∙ many in
    put_exact g.row.N (take g.row.N o.new.acc) a.span.now _ (length-take-le g.row.N o.new.acc (omega (arith, made, c.requires.1))) c.requires.2 c.put_group.ensures
    ∙ ap (take g.row.N) o.ensures
    ∙ sym (values_front a.fir.kind.odd a.fir.kind.antisymmetric a.fir.taps.now a.fir.long a.tape.now _ g.row.N (omega (arith, many, c.requires.1)))
    ∙ ap (window_values a.fir.kind.odd a.fir.kind.antisymmetric a.fir.taps.now a.fir.long a.tape.now) (sym c.requires.2)
