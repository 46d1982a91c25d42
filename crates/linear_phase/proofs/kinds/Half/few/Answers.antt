-- `few` meets its contract: what lies behind the taps and the delay is not looked at, and stays.
use Rattle.std.proofs.Common.{refl, ap, ◌∙◌}
use Rattle.linear_phase.specs.LinearPhaseFir.{phase_of}
use Rattle.linear_phase.proofs.Filters.{state_is, outs_are}
use Rattle.linear_phase.proofs.kinds.Half.few.Goals as goal

pub returns : goal.returns
returns c =
    let a = c.args in
    let s = a.self in
    let o = rw (c.folded-fir.ensures.0, c.folded-fir.ensures.2) at c.few_of.ensures in
    record {
      delay =
          ap (phase_of s.m s.kind.odd s.kind.antisymmetric a.taps.now) o.delay
          ∙ state_is _ _ _ _ _ s.inside c.told-taps c.told-delay _ c.folded-fir.ensures.1 a.src.now _ refl;
      span = outs_are _ _ _ _ _ s.inside c.told-taps c.told-delay _ c.folded-fir.ensures.1 a.src.now _ o.span;
    }
