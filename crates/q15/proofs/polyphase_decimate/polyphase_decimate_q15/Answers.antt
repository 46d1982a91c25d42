-- `polyphase_decimate::polyphase_decimate_q15` meets its contract: where no row applies, the limits keep every output inside the samples; rounding takes from each
-- sum what it takes, whatever the rows say.
use Rattle.std.proofs.Common.{◌≡◌, ◌*◌, length, take, sym, arith}
use lib.Seq.{length-take-le}
use Rattle.q15.specs.PolyphaseDecimate.{window_sum, filtered, fir_sums, decimated}
use Rattle.q15.proofs.CutFilling.{block_cut}
use Rattle.q15.proofs.Counts.{decimated_in}
use Rattle.q15.proofs.Rounding.{rounded}
use Rattle.q15.proofs.Rows.{block_in}
use Rattle.q15.proofs.polyphase_decimate.polyphase_decimate_q15.Goals as goal

pub returns-in_err-block_rows-clause-rounding : goal.returns-in_err-block_rows-clause-rounding
returns-in_err-block_rows-clause-rounding c = rounded c.args.coeffs.now c.args.decimation_factor c.args.src.now

pub decimated_count-written-requires : goal.decimated_count-written-requires
decimated_count-written-requires c = let b = block_in _ _ _ _ (sym c.in_ok-block_rows.ensures) in (b.factor.least, b.taps.least)

pub decimate-cuts-requires : goal.decimate-cuts-requires
decimate-cuts-requires c =
    let a = c.args in
    let b = block_in _ _ _ _ (sym c.in_ok-block_rows.ensures) in
    let written = c.decimated_count-written in
    let n : length (take c.decimated_count-written.result a.dst.now) ≡ c.decimated_count-written.result = length-take-le written.result a.dst.now (omega (arith, written.ensures)) in (
      b.taps.most,
      b.rest.most,
      omega (arith, n, written.ensures, b.rest.span_most),
      (λ i l. decimated_in (length a.coeffs.now) a.decimation_factor (length a.src.now) i (omega (arith, l, n, written.ensures))),
    )

pub returns-clause-span : goal.returns-clause-span
unfolding filtered fir_sums decimated
returns-clause-span c =
    let a = c.args in
    (block_cut _ _ _ (λ i. window_sum a.coeffs.now (length a.coeffs.now) a.src.now (i * a.decimation_factor)) a.dst.now _ _ c.in_ok-block_rows.ensures c.decimated_count-written.ensures c.decimate-cuts.ensures.span c.decimate-cuts.ensures.cuts).0

pub returns-clause-cuts : goal.returns-clause-cuts
unfolding filtered fir_sums decimated
returns-clause-cuts c =
    let a = c.args in
    (block_cut _ _ _ (λ i. window_sum a.coeffs.now (length a.coeffs.now) a.src.now (i * a.decimation_factor)) a.dst.now _ _ c.in_ok-block_rows.ensures c.decimated_count-written.ensures c.decimate-cuts.ensures.span c.decimate-cuts.ensures.cuts).1

pub returns-clause-rounding : goal.returns-clause-rounding
returns-clause-rounding c = rounded c.args.coeffs.now c.args.decimation_factor c.args.src.now
