-- `linear_phase::lanes::add_pairs` meets its contract: a turn adds a pair to one sum more.
use Rattle.std.proofs.Common.{ℕ, length, get_or, refl, ap₂, arith}
use lib.Ieee.{Float, nan, binary32, add, mul}
use Rattle.q15.proofs.Filling.{next_filled, all_filled}
use Rattle.linear_phase.specs.LinearPhase.{pair}
use Rattle.linear_phase.specs.inner.Lanes.{pairs_onto}
use Rattle.linear_phase.proofs.SideBySide.{not_yet, all_changed}
use Rattle.linear_phase.proofs.lanes.add_pairs.Goals as goal

pub loop-j-preserved : goal.loop-j-preserved
loop-j-preserved c =
    let l = c.loop-j in
    let a = c.args in
    let d = a.acc.now in
    let with_pair : ℕ → Float = λ i. add binary32 (get_or a.acc.now i nan) (mul binary32 (pair a.minus (get_or a.new.now i nan) (get_or a.old.now i nan)) a.tap) in
    next_filled with_pair d (length d) l.acc l.j _ (omega (arith, c.loop-j-test.true)) (omega arith)
    (ap₂ {C = Float} (λ (x y : Float). add binary32 x (mul binary32 y a.tap)) (not_yet nan with_pair d (length d) l.acc l.j l.invariant) c.pair.ensures) l.invariant

pub returns : goal.returns
unfolding pairs_onto
returns c =
    let l = c.loop-j in
    let a = c.args in
    let d = a.acc.now in
    let with_pair : ℕ → Float = λ i. add binary32 (get_or a.acc.now i nan) (mul binary32 (pair a.minus (get_or a.new.now i nan) (get_or a.old.now i nan)) a.tap) in
    all_changed with_pair d l.acc (length d) refl (all_filled with_pair d (length d) l.acc l.j (omega (arith, c.loop-j-test.false)) l.invariant)
