-- `linear_phase::lanes::put_group` meets its contract: a turn puts one output more, at last all of them.
use Rattle.std.proofs.Common.{◌≡◌, ℕ, min, ◌++◌, length, get_or, drop, refl, ap, ◌∙◌, arith}
use lib.Ieee.{Float, nan}
use Rattle.theory.specs.Lists.{listed}
use Rattle.q15.proofs.Filling.{next_filled, all_filled}
use Rattle.linear_phase.specs.inner.Lanes.{put_in_front}
use Rattle.linear_phase.proofs.lanes.put_group.Goals as goal

pub loop-j-preserved : goal.loop-j-preserved
loop-j-preserved c =
    let l = c.loop-j in
    let a = c.args in
    next_filled (λ i. get_or a.y.now i nan) a.span.now (length a.y.now) l.span l.j _ c.loop-j-test.true c.requires refl l.invariant

pub returns : goal.returns
unfolding put_in_front
returns c =
    let l = c.loop-j in
    let a = c.args in
    let from : ℕ → Float = λ i. get_or a.y.now i nan in
    let all : length c.args.y.now ≡ min (length c.args.y.now) (length c.args.span.now) = omega (arith, c.requires) in
    all_filled from a.span.now (length a.y.now) l.span l.j c.loop-j-test.false l.invariant
    ∙ ap (λ (k : ℕ). listed k from ++ drop k a.span.now) all
