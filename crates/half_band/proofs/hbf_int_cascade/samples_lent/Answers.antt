-- Past the tests, the stages over the samples taken are the definition's block.
use Rattle.std.proofs.Common.{ℕ, ◌*◌, ◌/◌, length, min, sym, ap, ◌∙◌}
use Rattle.half_band.proofs.Choices.{not_refused}
use Rattle.half_band.proofs.IntCascades.{block_answer_lem, block_span_lem}
use Rattle.half_band.specs.HbfIntCascade.{int_cascade_of}
use Rattle.half_band.proofs.hbf_int_cascade.samples_lent.Goals as goal

pub returns-clause-answer : goal.returns-clause-answer
returns-clause-answer c =
    let a = c.args in
    let s = int_cascade_of a.depth a.delays.now in
    let n = c.min-n.result in
    let f = c.rate_change-factor.result in
    block_answer_lem s a.src.now a.dst.now n (n * f) (not_refused _ c.in_ok-state_answer.ensures.number) (sym c.samples_refused.ensures ∙ c.if-samples_refused.false) c.in_ok-state_answer.ensures.inside.1
    (c.min-n.ensures ∙ ap (λ (m : ℕ). min (length a.src.now) (length a.dst.now / m)) c.rate_change-factor.ensures) (ap (λ (m : ℕ). n * m) c.rate_change-factor.ensures)
    c.expand_stages.new.delays c.expand_stages.ensures.0

pub returns-clause-span : goal.returns-clause-span
returns-clause-span c =
    let a = c.args in
    let s = int_cascade_of a.depth a.delays.now in
    let n = c.min-n.result in
    let f = c.rate_change-factor.result in
    block_span_lem s a.src.now a.dst.now n (n * f) (not_refused _ c.in_ok-state_answer.ensures.number) (sym c.samples_refused.ensures ∙ c.if-samples_refused.false) c.in_ok-state_answer.ensures.inside.1
    (c.min-n.ensures ∙ ap (λ (m : ℕ). min (length a.src.now) (length a.dst.now / m)) c.rate_change-factor.ensures) (ap (λ (m : ℕ). n * m) c.rate_change-factor.ensures)
    c.expand_stages.new.span c.expand_stages.ensures.1
