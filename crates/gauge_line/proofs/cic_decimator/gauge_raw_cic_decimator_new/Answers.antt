-- The state that is handed over is the opening's (`Opened`).
use Rattle.std.proofs.Common.{sym, ◌∙◌}
use Rattle.integer.specs.CicDecimator.{Streams}
use Rattle.gauge_line.proofs.Opened.{opened_meets}
use Rattle.gauge_line.proofs.cic_decimator.gauge_raw_cic_decimator_new.Goals as goal

pub returns-clause-stream : goal.returns-clause-stream
returns-clause-stream c e =
    opened_meets (Streams c.args.wanted_stages c.args.wanted_r) (λ s. s) c.fresh.result c.new-opened.result c.put_decimator.ensures c.unwrap_or-state.ensures c.new-opened.ensures.stream (sym c.number-told.ensures ∙ e)
