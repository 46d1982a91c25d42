-- `block` meets its contract: every road makes what the filter of the taps makes with the delay as its state.
use Rattle.std.proofs.Common.{ℕ, ◌≡◌, ◌≤◌, List, refl, sym, ap, ◌∙◌, subst, arith}
use lib.Ieee.{Float}
use Rattle.theory.specs.Sections.{state, outs}
use Rattle.linear_phase.specs.LinearPhaseFir.{phase_of, phase_fir}
use Rattle.linear_phase.specs.declared.linear_phase_fir.LinearPhaseFir.{LinearPhaseFir}
use Rattle.linear_phase.proofs.Filters.{state_is, outs_are, one_state, one_out, two_states, two_outs}
use Rattle.linear_phase.proofs.kinds.Half.block.Goals as goal

pub returns-then-src-eq1 : goal.returns-then-src-eq1
returns-then-src-eq1 c =
    let a = c.args in
    let d = phase_of a.self.m a.self.kind.odd a.self.kind.antisymmetric a.taps.now a.delay.now in
    let v = a.src.now in
    let one = c.if-src-eq1.true in
    record { delay = one_state d v _ one c.process.ensures.delay; span = one_out d v a.span.now _ one (c.requires ∙ one) c.process.ensures.value }

pub returns-then-self-eq1 : goal.returns-then-self-eq1
returns-then-self-eq1 c =
    let a = c.args in
    let s = a.self in
    let v = a.src.now in
    let one : 1 ≡ s.m = sym c.if-self-eq1.true in
    let first : (1 ≤ 1) × (1 ≤ 23) = (omega arith, omega arith) in
    let o = c.filter_single.ensures in
    let by : ℕ → List Float → LinearPhaseFir = λ m w. phase_of m s.kind.odd s.kind.antisymmetric a.taps.now w in
    record {
      delay =
          subst (λ (m : ℕ). by m c.filter_single.new.delay ≡ state phase_fir (by m a.delay.now) v) one
          (ap (by 1) o.delay ∙ state_is _ _ _ _ _ first c.told-taps c.told-delay _ refl v _ refl);
      span =
          subst (λ (m : ℕ). c.filter_single.new.span ≡ outs phase_fir (by m a.delay.now) v) one
          (outs_are _ _ _ _ _ first c.told-taps c.told-delay _ refl v _ o.span);
    }

pub returns-then-is_straight : goal.returns-then-is_straight
returns-then-is_straight c =
    let a = c.args in
    let s = a.self in
    let o = c.filter_straight.ensures in
    record {
      delay =
          ap (phase_of s.m s.kind.odd s.kind.antisymmetric a.taps.now) o.delay
          ∙ state_is _ _ _ _ _ s.inside c.told-taps c.told-delay _ refl a.src.now _ refl;
      span = outs_are _ _ _ _ _ s.inside c.told-taps c.told-delay _ refl a.src.now _ o.span;
    }

pub returns-then-is_brief : goal.returns-then-is_brief
returns-then-is_brief c =
    let a = c.args in
    let s = a.self in
    let o = c.filter_brief.ensures in
    record {
      delay =
          ap (phase_of s.m s.kind.odd s.kind.antisymmetric a.taps.now) o.delay
          ∙ state_is _ _ _ _ _ s.inside c.told-taps c.told-delay _ refl a.src.now _ refl;
      span = outs_are _ _ _ _ _ s.inside c.told-taps c.told-delay _ refl a.src.now _ o.span;
    }

pub returns-then-src-eq2 : goal.returns-then-src-eq2
returns-then-src-eq2 c =
    let a = c.args in
    let d = phase_of a.self.m a.self.kind.odd a.self.kind.antisymmetric a.taps.now a.delay.now in
    let v = a.src.now in
    let two = c.if-src-eq2.true in
    let y = c.process-y.ensures in
    let z = c.process-z.ensures in
    record { delay = two_states d v _ _ two y.delay z.delay; span = two_outs d v _ a.span.now _ _ two (c.requires ∙ two) y.delay y.value z.value }
