-- `linear_phase::lanes::outputs_at` meets its contract: the sums of all pairs, and the centres behind them where there are any.
use Rattle.std.proofs.Common.{List, length, drop, sym, ap, ◌∙◌}
use lib.Ieee.{Float}
use Rattle.linear_phase.specs.inner.Lanes.{centres_added}
use Rattle.linear_phase.proofs.SideBySide.{values_plain, values_centred, rest}
use Rattle.linear_phase.proofs.lanes.outputs_at.Goals as goal

pub returns-then-has_centre : goal.returns-then-has_centre
returns-then-has_centre c =
    let a = c.args in
    let d = a.line.now in
    let m = length a.fir.taps.now in
    c.add_centres.ensures
    ∙ ap (λ (l : List Float). centres_added l c.sums_at.new.acc) (rest d m)
    ∙ ap (centres_added (drop m d)) c.sums_at.ensures
    ∙ values_centred a.fir.long d (length a.acc.now) c.requires.0 a.fir.kind.odd a.fir.kind.antisymmetric a.fir.taps.now (sym c.has_centre.ensures ∙ c.if-has_centre.true) c.args.fir.reach.0

pub returns-else-has_centre : goal.returns-else-has_centre
returns-else-has_centre c =
    let a = c.args in
    c.sums_at.ensures
    ∙ values_plain a.fir.long a.line.now (length a.acc.now) c.requires.0 a.fir.kind.odd a.fir.kind.antisymmetric a.fir.taps.now (sym c.has_centre.ensures ∙ c.if-has_centre.false)
