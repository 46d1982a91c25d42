-- The state that is handed over is the opening's (`Opened`).
use Rattle.std.proofs.Common.{sym, ◌∙◌}
use Rattle.half_band.specs.HbfStream.{StreamMeets}
use Rattle.gauge_line.proofs.Opened.{opened_meets}
use Rattle.gauge_line.proofs.hbf_stream.gauge_raw_hbf_stream_new.Goals as goal

pub returns-clause-meets : goal.returns-clause-meets
returns-clause-meets c e =
    opened_meets (StreamMeets c.args.wanted_depth) (λ s. s) c.fresh.result c.new-opened.result c.put_stream.ensures c.unwrap_or-state.ensures c.new-opened.ensures.meets (sym c.number-told.ensures ∙ e)
