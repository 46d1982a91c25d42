-- `take_sample` meets its contract: each turn of its loop moves two places (`two_moved_on`), and behind the last what comes in stands where the window ends.
use Rattle.std.proofs.Common.{◌+◌, ◌*◌, refl, ap, ◌∙◌, arith}
use Rattle.half_band.specs.Windows.{int_value}
use Rattle.half_band.proofs.Moving.{two_moved_on, sample_put}
use Rattle.half_band.proofs.half_band.take_sample.Goals as goal

pub loop-i-preserved : goal.loop-i-preserved
loop-i-preserved c =
    let i = c.loop-i.i in
    two_moved_on c.args.window.now c.loop-i.window 1 i (2 * i + 1) (2 * i + 1) (2 * i + 2) c.loop-i.invariant refl refl (omega arith) (omega (arith, c.requires, c.loop-i-test.true))

pub returns : goal.returns
returns c =
    let a = c.args in
    let put = sample_put a.window.now c.loop-i.window a.x (2 * c.loop-i.i) (omega (arith, c.requires, a.taps.few)) c.loop-i.invariant (omega (arith, c.requires, c.loop-i.auto, c.loop-i-test.false)) in
    (put, c.both_at.ensures ∙ ap (int_value a.taps.all.now) put)
