-- `Samples::resample` meets its contract: a turn puts one output more.
use Rattle.std.proofs.Common.{◌≡◌, ◌*◌, length, ◌∙◌, arith, rules}
use mir.Syntax.{w16}
use mir.Val.{to_z, of_z}
use Rattle.q15.specs.ResampleLinear.{linear_at}
use Rattle.q15.proofs.Filling.{next_filled, whole_filled}
use Rattle.q15.proofs.resample_linear.Samples.resample.Goals as goal

pub loop-i-preserved : goal.loop-i-preserved
loop-i-preserved c =
    let a = c.args in
    let v = c.loop-i in
    let bits : to_z w16 (of_z w16 c.linear_at.result.0) ≡ c.linear_at.result.0 = search rules in
    next_filled (λ n. linear_at a.self.all.now (n * a.ratio)) a.dst.now (length a.dst.now) v.dst v.i _ c.loop-i-test.true (omega arith) (bits ∙ c.linear_at.ensures) v.invariant

pub returns : goal.returns
returns c = whole_filled _ _ _ _ c.loop-i-test.false c.loop-i.invariant
