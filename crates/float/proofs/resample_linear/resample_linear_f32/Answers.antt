-- `resample_linear_f32` meets its contract: past row 7 the lengths are within their limits.
use Rattle.std.proofs.Common.{sym, ◌∙◌, arith}
use Rattle.refusal.proofs.Limits.{lengths_fine_lem}
use Rattle.float.proofs.resample_linear.resample_linear_f32.Goals as goal

pub overflow_cast-i-end : goal.overflow_cast-i-end
overflow_cast-i-end c = record { fits = omega (arith, (lengths_fine_lem _ _ (sym c.samples_refused.ensures ∙ c.if-samples_refused.false)).span_most) }

pub linear_at-requires : goal.linear_at-requires
linear_at-requires c =
    let fine = lengths_fine_lem _ _ (sym c.samples_refused.ensures ∙ c.if-samples_refused.false) in
    (omega (arith, fine.span_most, c.loop-i-test.true), fine.least, fine.most)
