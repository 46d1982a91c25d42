-- A turn takes the two samples of a pair through the neighbours; wrapping leaves each alone.
use Rattle.std.proofs.Common.{◌≡◌, ◌+◌, ◌*◌, ◌<◌, length, map, get_or, pos, ◌∙◌, arith, w32, SFits, to_z, of_z, rules, refl}
use Rattle.std.proofs.lemmas.List.{get_or-map}
use lib.ListN.{length-map}
use Rattle.theory.specs.Wrap.{wrap}
use Rattle.theory.proofs.Wrap.{wrap_id}
use Rattle.nonrecursive.proofs.OnTape.{handing_more, handing_done}
use Rattle.nonrecursive.proofs.first.first_on.Goals as goal

pub loop-i-init : goal.loop-i-init
loop-i-init c = record { read = refl; places = length-map _ (wrap w32) ∙ c.requires; state_left = refl; vals_left = refl }

pub loop-i-preserved : goal.loop-i-preserved
loop-i-preserved c =
    let a = c.args in
    let l = c.loop-i in
    let src = a.src.now in
    let at = 2 * l.i in
    let x = get_or src at (pos 0) in
    let y = get_or src (at + 1) (pos 0) in
    let first : to_z w32 (of_z w32 x) ≡ x = search rules in
    let second : to_z w32 (of_z w32 y) ≡ y = search rules in
    let x_fits : SFits w32 x = search rules in
    let y_fits : SFits w32 y = search rules in
    let sum : to_z w32 (of_z w32 c.sum_neighbours-second.result) ≡ c.sum_neighbours-second.result = search rules in
    let there : at + 1 < length src = omega (arith, c.requires, c.loop-i-test.true) in
    let next : 2 * (l.i + 1) ≡ at + 2 = omega arith in
    let once = rw first at c.sum_neighbours.ensures.0 in
    let twice = rw (second, once) at c.sum_neighbours-second.ensures in
    let w = map (wrap w32) src in
    let x_is : get_or w at (pos 0) ≡ x = get_or-map (wrap w32) src at (pos 0) (pos 0) (omega (arith, there)) ∙ wrap_id w32 x x_fits in
    let y_is : get_or w (at + 1) (pos 0) ≡ y = get_or-map (wrap w32) src (at + 1) (pos 0) (pos 0) there ∙ wrap_id w32 y y_fits in
    rw (next, sum) (handing_more a.stages a.neighbours.now w l.neighbours l.dst at l.i l.invariant (omega (arith, c.loop-i-test.true, l.auto.dst)) x y _ _ x_is y_is twice.0 twice.1)

pub returns : goal.returns
returns c =
    let l = c.loop-i in
    handing_done c.args.stages c.args.neighbours.now _ l.neighbours l.dst _ l.i l.invariant (omega (arith, c.loop-i-test.false, l.auto.dst))
