-- `linear_phase::lanes::outputs_back` meets its contract: a group more is made of windows that nothing was written to (`group_written`).
use Rattle.std.proofs.Common.{◌≤◌, option_copied, arith}
use Rattle.linear_phase.proofs.Backward.{group_room, group_written, few_written}
use Rattle.linear_phase.proofs.lanes.outputs_back.Goals as goal

pub group_at-y-requires : goal.group_at-y-requires
group_at-y-requires c =
    let whole : 16 ≤ c.loop-end.end = omega (arith, c.loop-end-test.true) in
    group_room c.args.fir.now.kind.odd c.args.fir.now.kind.antisymmetric _ _ _ (option_copied c.args.src) _ _ _ (c.args.fir.now.inside.0, c.args.fir.now.reach.0, c.requires.in_bounds.0, c.requires.in_bounds.1, c.requires.in_bounds.2) c.requires.on_tape c.loop-end.invariant whole _ _ _ c.samples_of-samples.ensures c.picked-line.ensures c.window_start-from.ensures

pub loop-end-preserved : goal.loop-end-preserved
loop-end-preserved c =
    group_written _ _ _ _ _ (option_copied c.args.src) _ _ _ (c.args.fir.now.inside.0, c.args.fir.now.reach.0, c.requires.in_bounds.0, c.requires.in_bounds.1, c.requires.in_bounds.2) c.requires.on_tape c.loop-end.invariant (omega (arith, c.loop-end-test.true)) _ _ _ c.samples_of-samples.ensures c.picked-line.ensures c.window_start-from.ensures _ _ c.group_at-y.ensures c.put_all.ensures

pub returns : goal.returns
returns c = few_written _ _ _ _ _ (option_copied c.args.src) _ _ _ (c.args.fir.now.inside.0, c.args.fir.now.reach.0, c.requires.in_bounds.0, c.requires.in_bounds.1, c.requires.in_bounds.2) c.requires.on_tape c.loop-end.invariant _ c.requires.ahead (omega (arith, c.loop-end-test.false)) c.outputs_once.ensures
