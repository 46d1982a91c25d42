-- `linear_phase::one::move_in` meets its contract: all places have moved, and the last store makes it the slid one.
use Rattle.std.proofs.Common.{◌-◌, List, length, set, ap, ◌∙◌}
use lib.Ieee.{Float}
use Rattle.half_band.proofs.Moving.{sample_in}
use Rattle.linear_phase.proofs.one.move_in.Goals as goal

pub returns : goal.returns
returns c =
    let a = c.args in
    ap (λ (w : List Float). set w (length a.delay.now - 1) a.x) c.move_down.ensures ∙ sample_in a.delay.now a.x c.requires
