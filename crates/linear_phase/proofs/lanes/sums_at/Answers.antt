-- `linear_phase::lanes::sums_at` meets its contract: a turn adds the next pair to each sum (`sums_next`).
use Rattle.std.proofs.Common.{◌-◌, List, length, get_or, drop, sym, ap, ap₂, ◌∙◌, arith}
use lib.Ieee.{Float, nan}
use Rattle.linear_phase.specs.inner.Lanes.{pairs_added}
use Rattle.linear_phase.proofs.SideBySide.{sums_none, sums_next, rest}
use Rattle.linear_phase.proofs.lanes.sums_at.Goals as goal

pub loop-t-init : goal.loop-t-init
loop-t-init c = let a = c.args in c.requires.1 ∙ sym (sums_none a.fir.long a.line.now (length a.acc.now) c.requires.0 a.fir.kind.antisymmetric a.fir.taps.now)

pub loop-t-preserved : goal.loop-t-preserved
loop-t-preserved c =
    let l = c.loop-t in
    let a = c.args in
    let d = a.line.now in
    c.add_pairs.ensures
    ∙ ap₂ {C = List Float} (λ (o n : List Float). pairs_added a.fir.kind.antisymmetric (get_or a.fir.taps.now l.t nan) o n l.acc) (rest d l.t) (rest d (a.fir.long - l.t))
    ∙ ap (pairs_added a.fir.kind.antisymmetric (get_or a.fir.taps.now l.t nan) (drop l.t d) (drop (a.fir.long - l.t) d)) l.invariant
    ∙ sums_next a.fir.long d (length a.acc.now) c.requires.0 a.fir.kind.antisymmetric a.fir.taps.now l.t (omega (arith, c.loop-t-test.true, c.args.fir.reach.0))
