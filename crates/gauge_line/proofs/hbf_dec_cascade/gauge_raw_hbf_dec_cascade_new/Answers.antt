-- The cascade that is handed over is the opening's (`Opened`).
use Rattle.std.proofs.Common.{sym, ◌∙◌}
use Rattle.half_band.specs.HbfDecCascade.{cascade_of, DecCascadeMeets}
use Rattle.gauge_line.proofs.Opened.{opened_meets}
use Rattle.gauge_line.proofs.hbf_dec_cascade.gauge_raw_hbf_dec_cascade_new.Goals as goal

pub returns-clause-meets : goal.returns-clause-meets
returns-clause-meets c e =
    opened_meets (DecCascadeMeets c.args.wanted_depth) (λ s. cascade_of s.depth s.delays) c.zeros.result c.new-opened.result (rw (c.put_cascade.ensures.0, c.put_cascade.ensures.1)) c.unwrap_or-state.ensures c.new-opened.ensures.meets (sym c.number-told.ensures ∙ e)
