-- `linear_phase::few::value_at` meets its contract: the window is the first places and the sample behind them (`front_window`).
use Rattle.std.proofs.Common.{List, ap, ◌∙◌, arith}
use lib.Ieee.{Float}
use Rattle.linear_phase.specs.Windows.{window_value}
use Rattle.linear_phase.proofs.Newest.{front_window}
use Rattle.linear_phase.proofs.few.value_at.Goals as goal

pub returns : goal.returns
returns c =
    let a = c.args in
    let k = a.fir.kind in
    c.value_with.ensures
    ∙ ap (λ (w : List Float). window_value k.odd k.antisymmetric a.fir.taps.now w) (front_window a.line.now a.fir.long (omega (arith, c.requires)))
