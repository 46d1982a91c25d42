-- `linear_phase::few::few_outputs` meets its contract: a span of no places has no outputs.
use Rattle.std.proofs.Common.{ℕ, sym, ap, ◌∙◌}
use Rattle.std.proofs.lemmas.List.{nil_from_length}
use Rattle.linear_phase.specs.inner.Lanes.{window_values}
use Rattle.linear_phase.proofs.few.few_outputs.Goals as goal

pub returns-in-0 : goal.returns-in-0
unfolding window_values
returns-in-0 c =
    let f = c.args.fir.now in
    nil_from_length c.args.span.now c.in-0.is ∙ ap (λ (n : ℕ). window_values f.kind.odd f.kind.antisymmetric f.taps.now f.long c.args.tape.now n) (sym c.in-0.is)
