-- A turn's window stands as it was (`InPlace`), and its output is put before those that are there.
use Rattle.std.proofs.Common.{◌≡◌, ℕ, ◌+◌, ◌-◌, ◌*◌, length, take, drop, refl, ap, ◌∙◌, arith}
use Rattle.half_band.specs.Windows.{dec_value}
use Rattle.half_band.proofs.InPlace.{backward_start, backward_more, backward_done}
use Rattle.half_band.proofs.in_place.decimate_back.Goals as goal

pub loop-i-init : goal.loop-i-init
loop-i-init c = let a = c.args in backward_start a.taps.all.now a.line.now a.taps.few.0 c.requires _ refl

pub slice_bounds-dec_at-end : goal.slice_bounds-dec_at-end
slice_bounds-dec_at-end c = let q = c.loop-i.invariant in omega (arith, q.same, q.few, c.requires, c.loop-i-test.true)

pub bounds-line-first : goal.bounds-line-first
bounds-line-first c = let q = c.loop-i.invariant in omega (arith, q.same, q.few, c.requires, c.loop-i-test.true)

pub loop-i-preserved : goal.loop-i-preserved
loop-i-preserved c =
    let a = c.args in
    let l = c.loop-i in
    let t = a.taps.all.now in
    let back : 2 * (l.i - 1) + 2 + 4 * length t - (2 * (l.i - 1) + 2) ≡ 4 * length t = omega arith in
    backward_more t a.line.now a.taps.few.0 c.requires _ refl l.line l.i l.invariant c.loop-i-test.true c.dec_at.result
    (c.dec_at.ensures ∙ ap (λ (k : ℕ). dec_value t (take k (drop (2 * (l.i - 1) + 2) l.line))) back)

pub shape_of-line : goal.shape_of-line
shape_of-line c = c.loop-i.invariant.same

pub returns : goal.returns
returns c =
    let a = c.args in
    let l = c.loop-i in
    let z : l.i ≡ 0 = omega (arith, c.loop-i-test.false) in
    backward_done a.taps.all.now a.line.now a.taps.few.0 c.requires _ refl l.line (rw z at l.invariant)
