-- Each turn is one stage over the values that the one before made (`Growing`).
use Rattle.std.proofs.Common.{refl, arith}
use Rattle.half_band.proofs.IntCascades.{doubled, lent_even, grow_next, grow_end}
use Rattle.half_band.proofs.hbf_int_cascade.expand_stages.Goals as goal

pub overflow_sub-from-in-loop-k : goal.overflow_sub-from-in-loop-k
overflow_sub-from-in-loop-k c =
    let g = c.loop-k.invariant in
    omega (arith, (doubled _ _ _ _ c.loop-k-test.true g.filled).1, g.same)

pub expand_stage-requires : goal.expand_stage-requires
expand_stage-requires c = let g = c.loop-k.invariant in (omega arith, lent_even _ _ _ _ _ _ _ g c.loop-k-test.true _ refl)

pub loop-k-preserved : goal.loop-k-preserved
loop-k-preserved c =
    let l = c.loop-k in
    let o = c.expand_stage in
    grow_next _ _ _ l.delays l.span l.n l.k _ c.requires.0 l.invariant c.loop-k-test.true refl _ o.new.delays o.new.span refl o.ensures.0 o.ensures.1

pub returns : goal.returns
returns c = grow_end _ _ _ c.loop-k.delays c.loop-k.span c.loop-k.n c.loop-k.k c.loop-k.invariant c.loop-k-test.false
