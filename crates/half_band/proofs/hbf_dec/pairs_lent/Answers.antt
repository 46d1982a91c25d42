-- Past the tests, the pairs on the window are the definition's block (`Decimators`).
use Rattle.std.proofs.Common.{sym, ◌∙◌, arith}
use Rattle.half_band.specs.HbfDec.{dec_of}
use Rattle.half_band.proofs.Choices.{not_refused}
use Rattle.half_band.proofs.Stored.{usable}
use Rattle.half_band.proofs.Decimators.{block_answer_lem, block_span_lem}
use Rattle.half_band.proofs.hbf_dec.pairs_lent.Goals as goal

pub returns-clause-answer : goal.returns-clause-answer
returns-clause-answer c =
    let a = c.args in
    block_answer_lem (dec_of a.m a.coeffs.now a.delay.now) (usable 96 a.m a.coeffs.now a.delay.now (not_refused _ c.in_ok-state_answer.ensures.number) (omega arith) (omega arith)) a.src.now a.dst.now c.min-n.result (not_refused _ c.in_ok-state_answer.ensures.number) (sym c.samples_refused.ensures ∙ c.if-samples_refused.false) c.min-n.ensures c.decimate.new.window c.decimate.ensures.0

pub returns-clause-span : goal.returns-clause-span
returns-clause-span c =
    let a = c.args in
    block_span_lem (dec_of a.m a.coeffs.now a.delay.now) (usable 96 a.m a.coeffs.now a.delay.now (not_refused _ c.in_ok-state_answer.ensures.number) (omega arith) (omega arith)) a.src.now a.dst.now c.min-n.result (not_refused _ c.in_ok-state_answer.ensures.number) (sym c.samples_refused.ensures ∙ c.if-samples_refused.false) c.min-n.ensures c.decimate.new.dst c.decimate.ensures.1
