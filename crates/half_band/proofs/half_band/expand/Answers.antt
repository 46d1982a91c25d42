-- A turn takes in the next sample and stores its two outputs, behind those of the samples before.
use Rattle.std.proofs.Common.{◌≡◌, ◌+◌, ◌-◌, ◌*◌, ◌/◌, [], ◌∷◌, List, Option, Some, length, take, drop, sym, ap, ◌∙◌, arith, Float}
use Rattle.half_band.specs.Windows.{slid, int_value, interpolator}
use Rattle.half_band.proofs.Expanding.{expanded_next, read}
use Rattle.half_band.proofs.half_band.expand.Goals as goal

pub loop-i-preserved : goal.loop-i-preserved
unfolding interpolator
loop-i-preserved c =
    let a = c.args in
    let l = c.loop-i in
    let t = c.put_on-at in
    let n = length a.span.now / 2 in
    let room : length a.span.now ≡ 2 * n = omega arith in
    let w : List Float = take (length a.window.now) (drop l.at l.tape) in
    let x = read (interpolator a.taps.all.now) a.window.now a.span.now n room w l.span l.i l.invariant.so_far in
    let whole : t.result + length a.window.now - t.result ≡ length a.window.now = omega arith in
    let y = rw (whole, t.ensures.1) at c.both_at-even.ensures in
    record {
      on_tape = t.ensures.0;
      so_far = expanded_next (interpolator a.taps.all.now) a.window.now a.span.now n room w l.span l.i l.invariant.so_far (omega arith) _ c.both_at-even.result.0 c.both_at-even.result.1
          (t.ensures.1 ∙ ap (λ (v : Float). slid w (v ∷ [])) x)
          (ap {B = Option (Float × Float)} Some (sym (y ∙ ap (λ (v : Float). int_value a.taps.all.now (slid w (v ∷ []))) x)));
    }
