-- `inplace` meets its contract: one sample is the list of it, and more go along a tape.
use Rattle.std.proofs.Common.{refl, ap, ◌∙◌}
use Rattle.linear_phase.specs.LinearPhaseFir.{phase_of}
use Rattle.linear_phase.proofs.Filters.{state_is, outs_are, one_state, one_out}
use Rattle.linear_phase.proofs.kinds.Half.inplace.Goals as goal

pub returns-then-span-eq1 : goal.returns-then-span-eq1
returns-then-span-eq1 c =
    let a = c.args in
    let d = phase_of a.self.m a.self.kind.odd a.self.kind.antisymmetric a.taps.now a.delay.now in
    let v = a.span.now in
    let one = c.if-span-eq1.true in
    record { delay = one_state d v _ one c.process.ensures.delay; span = one_out d v v _ one one c.process.ensures.value }

pub returns-then-span-le-MORE : goal.returns-then-span-le-MORE
returns-then-span-le-MORE c =
    let a = c.args in
    let s = a.self in
    let o = rw (c.folded-fir.ensures.0, c.folded-fir.ensures.2) at c.few_inplace.ensures in
    record {
      delay =
          ap (phase_of s.m s.kind.odd s.kind.antisymmetric a.taps.now) o.delay
          ∙ state_is _ _ _ _ _ s.inside c.told-taps c.told-delay _ c.folded-fir.ensures.1 a.span.now _ refl;
      span = outs_are _ _ _ _ _ s.inside c.told-taps c.told-delay _ c.folded-fir.ensures.1 a.span.now _ o.span;
    }
