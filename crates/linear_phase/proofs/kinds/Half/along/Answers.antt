-- `along` meets its contract: what lies behind the taps and the delay is not looked at, and stays.
use Rattle.std.proofs.Common.{option_copied, refl, ap, ◌∙◌}
use Rattle.std.specs.Prelude.{unwrap_or}
use Rattle.linear_phase.specs.LinearPhaseFir.{phase_of}
use Rattle.linear_phase.proofs.Filters.{state_is, outs_are}
use Rattle.linear_phase.proofs.kinds.Half.along.Goals as goal

pub returns-then-is_short : goal.returns-then-is_short
returns-then-is_short c =
    let a = c.args in
    let s = a.self in
    let v = unwrap_or (option_copied a.src) a.span.now in
    let o = rw (c.folded-fir.ensures.0, c.folded-fir.ensures.2) at c.filter_short.ensures in
    record {
      delay =
          ap (phase_of s.m s.kind.odd s.kind.antisymmetric a.taps.now) o.delay
          ∙ state_is _ _ _ _ _ s.inside c.told-taps c.told-delay _ c.folded-fir.ensures.1 v _ refl;
      span = outs_are _ _ _ _ _ s.inside c.told-taps c.told-delay _ c.folded-fir.ensures.1 v _ o.span;
    }

pub returns : goal.returns
returns c =
    let a = c.args in
    let s = a.self in
    let v = unwrap_or (option_copied a.src) a.span.now in
    let o = rw (c.folded-fir.ensures.0, c.folded-fir.ensures.2) at c.filter.ensures in
    record {
      delay = state_is _ _ _ _ _ s.inside c.told-taps c.told-delay _ c.folded-fir.ensures.1 v _ o.delay;
      span = outs_are _ _ _ _ _ s.inside c.told-taps c.told-delay _ c.folded-fir.ensures.1 v _ o.span;
    }
