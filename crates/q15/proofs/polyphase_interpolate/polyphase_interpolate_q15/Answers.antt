-- `polyphase_interpolate::polyphase_interpolate_q15` meets its contract: where no row applies, the limits keep every output inside the samples and the taps.
use Rattle.std.proofs.Common.{◌≡◌, ◌/◌, ◌%◌, length, take, sym, arith}
use native.Mathlib.Nat.{div-mul-le_self, div-le_self}
use lib.Seq.{length-take-le}
use Rattle.q15.specs.PolyphaseInterpolate.{phase_sum, phase_output, phase_sums, interpolated}
use Rattle.q15.proofs.CutFilling.{block_cut}
use Rattle.q15.proofs.Counts.{interpolated_in}
use Rattle.q15.proofs.Rows.{interpolate_in}
use Rattle.q15.proofs.polyphase_interpolate.polyphase_interpolate_q15.Goals as goal

pub nonzero_div-k : goal.nonzero_div-k
nonzero_div-k c = let b = (interpolate_in _ _ _ _ (sym c.in_ok-interpolate_rows.ensures)).0 in b.factor.least

pub interpolated_count-written-requires : goal.interpolated_count-written-requires
interpolated_count-written-requires c = let b = (interpolate_in _ _ _ _ (sym c.in_ok-interpolate_rows.ensures)).0 in (b.rest.most, b.factor.most)

pub invariant_of-by : goal.invariant_of-by
invariant_of-by c =
    let L = c.args.interpolation_factor in
    let T = length c.args.coeffs.now in
    let b = (interpolate_in _ _ _ _ (sym c.in_ok-interpolate_rows.ensures)).0 in
    record { few = (b.factor.least, b.factor.most); inside = (div-mul-le_self T L, omega (arith, b.taps.most, div-le_self T L)) }

pub interpolate-cuts-requires : goal.interpolate-cuts-requires
interpolate-cuts-requires c =
    let a = c.args in
    let L = a.interpolation_factor in
    let T = length a.coeffs.now in
    let b = (interpolate_in _ _ _ _ (sym c.in_ok-interpolate_rows.ensures)).0 in
    let written = c.interpolated_count-written in
    let n : length (take c.interpolated_count-written.result a.dst.now) ≡ c.interpolated_count-written.result = length-take-le written.result a.dst.now (omega (arith, written.ensures)) in (
      omega (arith, n, written.ensures, b.rest.span_most),
      (λ i p l. interpolated_in (T / L) L (length a.src.now) i p (omega (arith, l, n, written.ensures))),
    )

pub returns-clause-span : goal.returns-clause-span
unfolding phase_output interpolated phase_sums
returns-clause-span c =
    let a = c.args in
    (block_cut _ _ _ (λ j. phase_sum a.coeffs.now a.interpolation_factor (length a.coeffs.now / a.interpolation_factor) a.src.now (j / a.interpolation_factor) (j % a.interpolation_factor)) a.dst.now _ _ c.in_ok-interpolate_rows.ensures c.interpolated_count-written.ensures c.interpolate-cuts.ensures.span c.interpolate-cuts.ensures.cuts).0

pub returns-clause-cuts : goal.returns-clause-cuts
unfolding phase_output interpolated phase_sums
returns-clause-cuts c =
    let a = c.args in
    (block_cut _ _ _ (λ j. phase_sum a.coeffs.now a.interpolation_factor (length a.coeffs.now / a.interpolation_factor) a.src.now (j / a.interpolation_factor) (j % a.interpolation_factor)) a.dst.now _ _ c.in_ok-interpolate_rows.ensures c.interpolated_count-written.ensures c.interpolate-cuts.ensures.span c.interpolate-cuts.ensures.cuts).1
