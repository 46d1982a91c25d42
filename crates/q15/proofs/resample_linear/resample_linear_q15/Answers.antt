-- `resample_linear::resample_linear_q15` meets its contract: where no row applies the ratio is above zero.
use Rattle.std.proofs.Common.{◌*◌, sym}
use lib.IntN.{nat_abs}
use mir.Facts.{to_z-of_z}
use Rattle.q15.specs.ResampleLinear.{linear_at, resampled}
use Rattle.q15.proofs.Filling.{whole_written}
use Rattle.q15.proofs.Between.{ratio_fits}
use Rattle.q15.proofs.Rows.{linear_in}
use Rattle.q15.proofs.resample_linear.resample_linear_q15.Goals as goal

pub overflow_cast-ratio_q16 : goal.overflow_cast-ratio_q16
overflow_cast-ratio_q16 c =
    let bits = to_z-of_z c.ranges.ratio_q16 in
    let in_range = linear_in _ _ _ (sym c.in_ok-linear_rows.ensures) in
    rw bits (ratio_fits c.args.ratio_q16 c.ranges.ratio_q16 (rw bits at in_range.1)).0

pub resample-requires : goal.resample-requires
resample-requires c =
    let bits = to_z-of_z c.ranges.ratio_q16 in
    let in_range = linear_in _ _ _ (sym c.in_ok-linear_rows.ensures) in
    let limits = in_range.0 in
    rw bits ((ratio_fits c.args.ratio_q16 c.ranges.ratio_q16 (rw bits at in_range.1)).1, limits.span_most)

pub invariant_of-samples : goal.invariant_of-samples
invariant_of-samples c =
    let bits = to_z-of_z c.ranges.ratio_q16 in
    let limits = (linear_in _ _ _ (sym c.in_ok-linear_rows.ensures)).0 in
    record { some = (limits.least, limits.most) }

pub returns-clause-span : goal.returns-clause-span
unfolding resampled
returns-clause-span c =
    let bits = to_z-of_z c.ranges.ratio_q16 in
    whole_written _ (λ i. linear_at c.args.src.now (i * nat_abs c.args.ratio_q16)) c.args.dst.now c.resample.new.dst (rw bits at (sym c.in_ok-linear_rows.ensures)) (rw bits at c.resample.ensures)
