-- `LinearPhaseFir::new` meets its contract: a refused opening has the zeros, and the state of any other is what was opened.
use Rattle.std.proofs.Common.{ap, arith}
use Rattle.std.proofs.lemmas.Result.{err_from_is_err_and}
use Rattle.refusal.specs.Outcome.{Opened}
use Rattle.refusal.specs.Table.{number_of}
use Rattle.refusal.proofs.Table.{number_positive}
use Rattle.linear_phase.specs.declared.linear_phase_fir.LinearPhaseFir.{LinearPhaseFir}
use Rattle.linear_phase.proofs.Filters.{refused_zeros}
use Rattle.linear_phase.proofs.linear_phase_fir.LinearPhaseFir.new.Goals as goal

pub returns-in_err-open_at : goal.returns-in_err-open_at
returns-in_err-open_at c =
    let p = err_from_is_err_and c.from_residual.result c.from_residual.ensures.1 in
    let a = c.args in
    let q = c.in_err-open_at.field-0.0 in
    rw (p.1, p.2)
    (record {
      answer = refused_zeros a.odd a.antisymmetric a.taps.now (number_of q) (number_positive q) (ap (λ (o : Opened LinearPhaseFir). o.number) c.in_err-open_at.ensures.answer);
      streams = λ z. absurd (omega (arith, number_positive q, z));
    })
