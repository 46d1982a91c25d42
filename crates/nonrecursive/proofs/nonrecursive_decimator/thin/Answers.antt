-- A turn is one halving of the definition: a first of two ends there, and a second goes on behind its neighbours.
use Rattle.std.proofs.Common.{◌≡◌, ◌+◌, sym, ap, ◌∙◌, drop, take-append-drop, arith, to_z-of_z, w32, to_z, of_z, rules}
use Rattle.nonrecursive.specs.NonrecursiveDecimator.{Thinned}
use Rattle.nonrecursive.proofs.ThinSteps.{going_on, thin_none, thin_ends, thin_turns, next_inside}
use Rattle.nonrecursive.proofs.nonrecursive_decimator.thin.Goals as goal

pub returns-then-at-eq0 : goal.returns-then-at-eq0
returns-then-at-eq0 c =
    let l = c.loop-left in
    let i = l.invariant in
    let sums = c.sum_neighbours-val.ensures in
    let t = thin_ends c.args.stages l.left l.neighbours l.from l.at _ c.loop-left-test.true i.fits i.inside _ _ sums.0 sums.1 c.if-at-eq0.true in
    let input = to_z-of_z c.ranges.input in
    (rw input at (t.0 ∙ ap (λ (q : Thinned). q.state) (sym i.rest)), rw input at (t.1 ∙ ap (λ (q : Thinned). q.out) (sym i.rest)))

pub loop-left-preserved : goal.loop-left-preserved
loop-left-preserved c =
    let l = c.loop-left in
    let i = l.invariant in
    let more = c.loop-left-test.true in
    let sums = c.sum_neighbours-val.ensures in
    let val : to_z w32 (of_z w32 c.sum_neighbours-val.result) ≡ c.sum_neighbours-val.result = search rules in
    let next = ap (λ k. l.from + k) c.min-from.ensures in
    record {
      inside = next_inside c.args.stages l.left l.neighbours l.from l.at _ more i.fits i.inside _ _ sums.0 (val ∙ sums.1) _ next;
      fits = omega (arith, i.fits);
      rest = i.rest ∙ thin_turns c.args.stages l.left l.neighbours l.from l.at _ more i.fits i.inside _ _ sums.0 (val ∙ sums.1) _ next c.if-at-eq0.false;
    }

pub returns : goal.returns
returns c =
    let l = c.loop-left in
    let e = ap (going_on l.from l.neighbours) (thin_none c.args.stages l.left (drop l.from l.neighbours) l.at _ (omega (arith, c.loop-left-test.false))) in
    let t = e ∙ sym l.invariant.rest in
    let input = to_z-of_z c.ranges.input in
    (rw input at (sym (take-append-drop l.from l.neighbours) ∙ ap (λ (q : Thinned). q.state) t), rw input at (ap (λ (q : Thinned). q.out) t))
