-- `linear_phase::lanes::add_centres` meets its contract: a turn adds a centre to one sum more.
use Rattle.std.proofs.Common.{ℕ, length, get_or, refl, ap, arith}
use lib.Ieee.{Float, nan, binary32, add}
use Rattle.q15.proofs.Filling.{next_filled, all_filled}
use Rattle.linear_phase.specs.inner.Lanes.{centres_added}
use Rattle.linear_phase.proofs.SideBySide.{not_yet, all_changed}
use Rattle.linear_phase.proofs.lanes.add_centres.Goals as goal

pub loop-j-preserved : goal.loop-j-preserved
loop-j-preserved c =
    let l = c.loop-j in
    let a = c.args in
    let d = a.acc.now in
    let with_centre : ℕ → Float = λ i. add binary32 (get_or a.acc.now i nan) (get_or a.centres.now i nan) in
    next_filled with_centre d (length d) l.acc l.j _ (omega (arith, c.loop-j-test.true)) (omega arith)
    (ap (λ (x : Float). add binary32 x (get_or a.centres.now l.j nan)) (not_yet nan with_centre d (length d) l.acc l.j l.invariant)) l.invariant

pub returns : goal.returns
unfolding centres_added
returns c =
    let l = c.loop-j in
    let a = c.args in
    let d = a.acc.now in
    let with_centre : ℕ → Float = λ i. add binary32 (get_or a.acc.now i nan) (get_or a.centres.now i nan) in
    all_changed with_centre d l.acc (length d) refl (all_filled with_centre d (length d) l.acc l.j (omega (arith, c.loop-j-test.false)) l.invariant)
