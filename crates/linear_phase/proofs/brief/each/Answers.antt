-- `linear_phase::brief::each` meets its contract: a turn makes the output of the next sample, and the delay takes it.
use Rattle.std.proofs.Common.{◌≤◌, ◌<◌, length, ◌∙◌, arith}
use Rattle.q15.proofs.Filling.{next_filled}
use Rattle.linear_phase.proofs.EachSample.{output, next_value, next_midway}
use Rattle.linear_phase.proofs.brief.each.Goals as goal

pub push-requires : goal.push-requires
push-requires c = omega (arith, c.args.fir.inside, c.args.fir.reach, c.requires, c.loop-i.invariant.left.long)

pub loop-i-preserved : goal.loop-i-preserved
loop-i-preserved c =
    let l = c.loop-i in
    let a = c.args in
    let k = a.fir.kind in
    let d = a.delay.now in
    let v = a.src.now in
    let some : 1 ≤ length c.args.delay.now = omega (arith, c.args.fir.inside, c.args.fir.reach, c.requires) in
    let left : l.i < length c.args.src.now = omega (arith, c.loop-i-test.true, c.requires.1) in
    record {
      made =
          next_filled (output k.odd k.antisymmetric a.fir.taps.now d v) a.span.now (length a.span.now) l.span l.i _ (omega (arith, c.loop-i-test.true)) (omega arith)
          (c.value_with-y.ensures ∙ next_value k.odd k.antisymmetric a.fir.taps.now d v l.delay l.i left l.invariant.left) l.invariant.made;
      left = next_midway k.odd k.antisymmetric a.fir.taps.now d v l.delay _ l.i left some c.push.ensures l.invariant.left;
    }
