-- A turn takes the two values of a pair through the neighbours.
use Rattle.std.proofs.Common.{◌≡◌, ◌+◌, ◌*◌, get_or, pos, refl, ◌∙◌, add-mul, arith, w32, to_z, of_z, rules}
use Rattle.nonrecursive.proofs.OnTape.{halving_starts, halving_more, halving_done}
use Rattle.nonrecursive.proofs.block.halve_on.Goals as goal

pub loop-i-init : goal.loop-i-init
loop-i-init c = halving_starts _ _ _ _ c.requires

pub loop-i-preserved : goal.loop-i-preserved
loop-i-preserved c =
    let a = c.args in
    let l = c.loop-i in
    let x = get_or l.tape (l.i * 2) (pos 0) in
    let y = get_or l.tape (l.i * 2 + 1) (pos 0) in
    let first : to_z w32 (of_z w32 x) ≡ x = search rules in
    let second : to_z w32 (of_z w32 y) ≡ y = search rules in
    let sum : to_z w32 (of_z w32 c.sum_neighbours-second.result) ≡ c.sum_neighbours-second.result = search rules in
    let next : (l.i + 1) * 2 ≡ l.i * 2 + 2 = omega (arith, add-mul l.i 1 2) in
    let once = rw first at c.sum_neighbours.ensures.0 in
    let twice = rw (second, once) at c.sum_neighbours-second.ensures in
    rw next (halving_more a.stages a.count a.neighbours.now a.tape.now c.requires l.neighbours l.tape _ l.i l.invariant c.loop-i-test.true x y _ _ refl refl twice.0 (sum ∙ twice.1))

pub returns : goal.returns
returns c =
    let l = c.loop-i in
    let d = halving_done c.args.stages c.args.count c.args.neighbours.now c.args.tape.now c.requires l.neighbours l.tape _ l.i l.invariant (omega (arith, c.loop-i-test.false)) in
    (d.0, d.1, l.invariant.same)
