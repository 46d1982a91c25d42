-- `polyphase_interpolate::interpolate` meets its contract: a turn raises one sample more.
use Rattle.std.proofs.Common.{length, arith}
use Rattle.q15.specs.PolyphaseInterpolate.{phase_output}
use Rattle.q15.proofs.Interpolating.{begun, all_raised, few_raised, next_raised}
use Rattle.q15.proofs.polyphase_interpolate.interpolate.Goals as goal

pub slice_bounds-outputs_of-end : goal.slice_bounds-outputs_of-end
slice_bounds-outputs_of-end c =
    let b = begun c.loop-i.i (length c.args.dst.now) c.args.by.l c.args.by.few.0 (omega arith) in
    c.requires.1 c.loop-i.i 0 (omega (arith, b))

pub overflow_add-cuts : goal.overflow_add-cuts
unfolding phase_output
overflow_add-cuts c =
    let a = c.args in
    let v = c.loop-i in
    let made = c.outputs_of-more in
    let few = few_raised a.by.coeffs.now a.src.now a.dst.now a.by.l a.by.k a.by.few.0 c.requires.1 v.dst v.i v.from v.cuts (omega arith) v.auto.dst
    (record { filled = v.invariant.filled; from_is = v.invariant.from_is }) c.min-past.result c.min-past.ensures made.new.places made.result made.ensures.span made.ensures.cuts in
    omega (arith, few, c.requires.0)

pub loop-i-preserved : goal.loop-i-preserved
unfolding phase_output
loop-i-preserved c =
    let a = c.args in
    let v = c.loop-i in
    let made = c.outputs_of-more in
    let next = next_raised a.by.coeffs.now a.src.now a.dst.now a.by.l a.by.k a.by.few.0 c.requires.1 v.dst v.i v.from v.cuts (omega arith) v.auto.dst
    (record { filled = v.invariant.filled; from_is = v.invariant.from_is }) c.min-past.result c.min-past.ensures made.new.places made.result made.ensures.span made.ensures.cuts in
    record { filled = next.filled; from_is = next.from_is }

pub returns-clause-span : goal.returns-clause-span
unfolding phase_output
returns-clause-span c =
    let a = c.args in
    let v = c.loop-i in
    (all_raised a.by.coeffs.now a.src.now a.dst.now a.by.l a.by.k a.by.few.0 c.requires.1 v.dst v.i v.from v.cuts (omega arith) (record { filled = v.invariant.filled; from_is = v.invariant.from_is })).0
