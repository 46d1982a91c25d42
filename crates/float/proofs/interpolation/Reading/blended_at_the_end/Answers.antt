-- `blended_at_the_end` meets its contract: all taps but the last are read before the prototype's end, where the readings are one (`last_straight`).
use Rattle.std.proofs.Common.{◌≡◌, ◌+◌, ◌-◌, ◌*◌, ◌≤◌, length, take, refl, ◌∙◌, arith, length-take-le}
use Rattle.float.proofs.PolyphaseOutput.{inside, near_inside, sum_front, cell_front, last_straight}
use Rattle.float.proofs.interpolation.Reading.blended_at_the_end.Goals as goal

pub summed-y0-requires : goal.summed-y0-requires
summed-y0-requires c =
    let r = c.args.self in
    let l = inside _ _ r.phases_inside r.taps_inside in
    let few = r.taps_inside in
    let front : length (take (r.setting.phase_taps - 1) c.args.delay.now) ≡ r.setting.phase_taps - 1 = length-take-le _ _ (omega (arith, c.requires.0)) in
    let all : length (take (r.setting.phase_taps - 1) c.args.delay.now) + 1 ≤ r.setting.phase_taps = omega (arith, few, front) in
    let most = r.phases_inside.1 in
    (omega (arith, few, front), near_inside _ _ _ _ l all (omega (arith, c.requires.1)), near_inside _ _ _ _ l all (omega (arith, c.requires.1)), omega (arith, c.requires.1, most), omega (arith, c.requires.1, most))

pub returns : goal.returns
returns c =
    let r = c.args.self in
    let p = c.args.p in
    let l = inside _ _ r.phases_inside r.taps_inside in
    let last : r.setting.phase_taps ≡ r.setting.phase_taps - 1 + 1 = omega (arith, r.taps_inside) in
    let front : length (take (r.setting.phase_taps - 1) c.args.delay.now) ≡ r.setting.phase_taps - 1 = length-take-le _ _ (omega (arith, c.requires.0)) in
    let from = (r.setting.phase_taps - 1) * r.setting.phases in
    let next : from + p + 1 ≡ from + (p + 1) = omega arith in
    let y0 = last_straight _ _ _ _ _ p _ _ _ l last (omega (arith, c.requires.1)) refl (c.summed-y0.ensures.0 ∙ sum_front _ _ _ _ front) (c.cell_at-c0.ensures ∙ cell_front _ _ _ _ c.cells-cells.ensures) in
    let y1 = last_straight _ _ _ _ _ (p + 1) _ _ _ l last (omega (arith, c.requires.1)) next (c.summed-y0.ensures.1 ∙ sum_front _ _ _ _ front) (c.cell_at-c1.ensures ∙ cell_front _ _ _ _ c.cells-cells.ensures) in
    c.blend_of.ensures ∙ rw (y0, y1)
