-- A turn's window lies a place further on the line: it is the one before with sample i in it (`moved_on`).
use Rattle.std.proofs.Common.{◌≡◌, ℕ, ◌+◌, ◌-◌, ◌*◌, ◌/◌, List, Option, Some, length, take, drop, sym, ap, ◌∙◌, arith, length-drop, Float}
use lib.Seq.{take_all}
use Rattle.theory.specs.Sections.{outs}
use Rattle.half_band.specs.HalfBand.{flat}
use Rattle.half_band.specs.Windows.{int_value, interpolator}
use Rattle.half_band.proofs.Doubling.{doubled_next}
use Rattle.half_band.proofs.SamplesAlong.{moved_on}
use Rattle.half_band.proofs.half_band.interpolate_along.Goals as goal

pub loop-i-preserved : goal.loop-i-preserved
unfolding interpolator
loop-i-preserved c =
    let l = c.loop-i in
    let t = c.args.taps.all.now in
    let v = c.args.line.now in
    let long = 2 * length t in
    let one : l.i + 1 + long - (l.i + 1) ≡ long = omega arith in
    let next = moved_on v long l.i (omega arith) (omega arith) in
    let y : c.both_at-both.result ≡ int_value t (take long (drop (l.i + 1) v)) = c.both_at-both.ensures ∙ ap {B = Float × Float} (λ (k : ℕ). int_value t (take k (drop (l.i + 1) v))) one in
    doubled_next (interpolator t) (take long v) (drop long v) (take long (drop l.i v)) l.span l.i l.invariant (omega (arith, length-drop long v)) (omega (arith, l.auto.span)) (take long (drop (l.i + 1) v))
    c.both_at-both.result.0 c.both_at-both.result.1
    next
    (ap {B = Option (Float × Float)} (λ (w : List Float). Some (int_value t w)) (sym next) ∙ ap {B = Option (Float × Float)} Some (sym y))

pub returns : goal.returns
returns c =
    let l = c.loop-i in
    let t = c.args.taps.all.now in
    let v = c.args.line.now in
    let long = 2 * length t in
    let ended : l.i ≡ length c.args.span.now / 2 = omega (arith, l.auto.i-end, c.loop-i-test.false) in
    sym (take_all (2 * l.i) l.span (omega (arith, l.auto.span, ended)))
    ∙ l.invariant.front
    ∙ ap (λ (w : List Float). flat (outs (interpolator t) (take long v) w)) (take_all l.i (drop long v) (omega (arith, length-drop long v, ended)))
