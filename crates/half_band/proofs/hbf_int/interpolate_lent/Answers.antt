-- Past the tests, the samples on the window are the definition's block (`Interpolators`).
use Rattle.std.proofs.Common.{List, ◌++◌, ◌*◌, drop, sym, ap, ◌∙◌, arith, Float}
use Rattle.half_band.specs.HbfInt.{int_of}
use Rattle.half_band.proofs.Choices.{not_refused}
use Rattle.half_band.proofs.Stored.{usable}
use Rattle.half_band.proofs.Interpolators.{block_answer_lem, block_span_lem}
use Rattle.half_band.proofs.hbf_int.interpolate_lent.Goals as goal

pub returns-clause-answer : goal.returns-clause-answer
returns-clause-answer c =
    let a = c.args in
    block_answer_lem (int_of a.m a.coeffs.now a.delay.now) (usable 48 a.m a.coeffs.now a.delay.now (not_refused _ c.in_ok-state_answer.ensures.number) (omega arith) (omega arith)) a.src.now a.dst.now c.min-n.result (not_refused _ c.in_ok-state_answer.ensures.number) (sym c.samples_refused.ensures ∙ c.if-samples_refused.false) c.min-n.ensures c.interpolate.new.window c.interpolate.ensures.0

pub returns-clause-span : goal.returns-clause-span
returns-clause-span c =
    let a = c.args in
    block_span_lem (int_of a.m a.coeffs.now a.delay.now) (usable 48 a.m a.coeffs.now a.delay.now (not_refused _ c.in_ok-state_answer.ensures.number) (omega arith) (omega arith)) a.src.now a.dst.now c.min-n.result (not_refused _ c.in_ok-state_answer.ensures.number) (sym c.samples_refused.ensures ∙ c.if-samples_refused.false) c.min-n.ensures _ (ap (λ (l : List Float). l ++ drop (2 * c.min-n.result) a.dst.now) c.interpolate.ensures.1)
