-- `levels::put_levels` meets its contract: a turn puts one level more.
use Rattle.std.specs.Prelude.{◌≡◌, ◌++◌, List, Float, pos}
use Rattle.std.proofs.Common.{length, drop, ap, ◌∙◌, rules}
use mir.Syntax.{w16}
use mir.Val.{to_z, of_z}
use Rattle.q15.specs.Fixed.{at}
use Rattle.q15.proofs.Filling.{next_filled, all_filled}
use Rattle.float.specs.Level.{level}
use Rattle.chain.proofs.Mapping.{listed_map}
use Rattle.chain.proofs.levels.put_levels.Goals as goal

pub loop-i-preserved : goal.loop-i-preserved
loop-i-preserved c =
    let v = c.loop-i in
    let z = at c.args.values.now v.i in
    let bits : to_z w16 (of_z w16 z) ≡ z = search rules in
    next_filled (λ k. level (at c.args.values.now k)) c.args.span.now (length c.args.values.now) v.span v.i _ c.loop-i-test.true c.requires
    (c.q15_to_f32.ensures.value ∙ ap level bits) v.invariant

pub returns : goal.returns
returns c =
    let a = c.args in
    all_filled _ _ _ _ _ c.loop-i-test.false c.loop-i.invariant
    ∙ ap (λ (l : List Float). l ++ drop (length a.values.now) a.span.now) (listed_map level (pos 0) a.values.now)
