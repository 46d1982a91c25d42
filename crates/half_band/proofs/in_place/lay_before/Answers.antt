-- Window and lead are put in front, and what stands behind them stays.
use Rattle.half_band.proofs.InPlace.{lead_put}
use Rattle.half_band.proofs.in_place.lay_before.Goals as goal

pub returns-in-Some : goal.returns-in-Some
returns-in-Some c =
    let a = c.args in
    rw (c.copy_from_slice.ensures.after, c.in-Some.is) (lead_put a.window.now a.line.now c.in-Some.held (rw c.in-Some.is at c.requires))
