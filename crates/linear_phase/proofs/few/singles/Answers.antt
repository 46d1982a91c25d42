-- `linear_phase::few::singles` meets its contract: a turn makes one output more.
use Rattle.std.proofs.Common.{ℕ, suc, ◌+◌, List, length, take, drop, refl, ap, ◌∙◌, add-one, arith}
use lib.Ieee.{Float}
use Rattle.q15.proofs.Filling.{next_filled, all_filled}
use Rattle.linear_phase.specs.Windows.{window_value}
use Rattle.linear_phase.specs.inner.Lanes.{window_values}
use Rattle.linear_phase.proofs.SideBySide.{rest, all_changed}
use Rattle.linear_phase.proofs.few.singles.Goals as goal

pub loop-i-preserved : goal.loop-i-preserved
loop-i-preserved c =
    let l = c.loop-i in
    let a = c.args in
    let output : ℕ → Float = λ k. window_value a.fir.kind.odd a.fir.kind.antisymmetric a.fir.taps.now (take (suc a.fir.long) (drop k a.tape.now)) in
    next_filled output a.span.now (length a.span.now) l.span l.i _ (omega (arith, c.loop-i-test.true)) (omega arith)
    (c.value_at.ensures
    ∙ ap (λ (w : List Float). window_value a.fir.kind.odd a.fir.kind.antisymmetric a.fir.taps.now (take (a.fir.long + 1) w)) (rest a.tape.now l.i)
    ∙ ap (λ (k : ℕ). window_value a.fir.kind.odd a.fir.kind.antisymmetric a.fir.taps.now (take k (drop l.i a.tape.now))) (add-one a.fir.long)) l.invariant

pub returns : goal.returns
unfolding window_values
returns c =
    let l = c.loop-i in
    let a = c.args in
    let output : ℕ → Float = λ k. window_value a.fir.kind.odd a.fir.kind.antisymmetric a.fir.taps.now (take (suc a.fir.long) (drop k a.tape.now)) in
    all_changed output a.span.now l.span (length a.span.now) refl (all_filled output a.span.now (length a.span.now) l.span l.i (omega (arith, c.loop-i-test.false)) l.invariant)
