-- `process` meets its contract: what lies behind the taps and the delay is not looked at, and stays.
use Rattle.linear_phase.proofs.Filters.{next_is, out_is}
use Rattle.linear_phase.proofs.kinds.Half.process.Goals as goal

pub returns : goal.returns
returns c =
    let s = c.args.self in
    let o = rw (c.folded-fir.ensures.0, c.folded-fir.ensures.2) at c.filter_one.ensures in
    record {
      delay = next_is _ _ _ _ _ s.inside c.told-taps c.told-delay _ c.folded-fir.ensures.1 c.args.x _ o.delay;
      value = out_is _ _ _ _ _ s.inside c.told-taps c.told-delay _ c.folded-fir.ensures.1 c.args.x _ o.value;
    }
