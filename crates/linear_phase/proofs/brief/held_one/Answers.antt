-- `linear_phase::brief::held_one` meets its contract: the places that hold the delay are read and stored one by one (`front_stored`).
use Rattle.std.proofs.Common.{ℕ, not, nat_eq, ◌≡◌, ◌≤◌, List, ◌++◌, length, take, drop, ap, ap₂, ◌∙◌, arith, length-take-le}
use lib.Ieee.{Float}
use Rattle.theory.specs.Sections.{state}
use Rattle.linear_phase.specs.LinearPhase.{reach}
use Rattle.linear_phase.specs.inner.Lanes.{linear_phase}
use Rattle.linear_phase.specs.declared.kinds.Kind.{Kind}
use Rattle.linear_phase.proofs.Pushing.{in_front, front_read, front_stored}
use Rattle.linear_phase.proofs.brief.held_one.Goals as goal

pub returns-clause-delay : goal.returns-clause-delay
returns-clause-delay g c =
    let a = c.args in
    let odd = not (nat_eq g.row.ODD 0) in
    let minus = not (nat_eq g.row.MINUS 0) in
    let d = a.delay.now in
    let v = a.src.now in
    let fir = c.of-fir.result in
    let o = c.of-fir.ensures in
    let k = c.of-fir.result.long in
    let one : length c.of-fir.result.taps.now ≡ 1 = ap length o.0 ∙ c.requires.0 in
    let some : 1 ≤ c.of-fir.result.long = omega (arith, c.of-fir.result.reach.0, one) in
    let few : c.of-fir.result.long ≤ 2 = omega (arith, c.of-fir.result.reach.1, one) in
    let places : 2 ≤ length c.args.delay.now = omega (arith, c.told-delay) in
    let long : length c.each.new.delay ≡ c.of-fir.result.long = c.each.auto.delay ∙ length-take-le k (in_front d) few in
    let is : k ≡ reach odd (length a.taps.now) = fir.reach.2 ∙ ap₂ {C = ℕ} (λ (t : List Float) (j : Kind). reach j.odd (length t)) o.0 o.1 in
    let made = rw (o.0, o.1) at c.each.ensures.delay in
    front_stored d c.each.new.delay k long some few places
    ∙ ap (λ (w : List Float). w ++ drop k d) (made ∙ ap (λ (w : List Float). state (linear_phase odd minus a.taps.now) w v) (front_read d k few places))
    ∙ ap (λ (n : ℕ). state (linear_phase odd minus a.taps.now) (take n d) v ++ drop n d) is
