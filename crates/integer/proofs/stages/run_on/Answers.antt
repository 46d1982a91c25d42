-- A turn takes one sample from the front of what is left; where nothing is left, the run is what the loop holds.
use Rattle.std.proofs.Common.{◌≡◌, get_or, pos, w32, to_z, of_z, rules}
use Rattle.integer.proofs.Run.{run_one, run_none}
use Rattle.integer.proofs.stages.run_on.Goals as goal

pub loop-sample-preserved : goal.loop-sample-preserved
loop-sample-preserved c =
    let l = c.loop-sample in
    let w = c.args.samples.now in
    let read : to_z w32 (of_z w32 (get_or w l.sample-index (pos 0))) ≡ get_or w l.sample-index (pos 0) = search rules in
    let val : to_z w32 (of_z w32 c.integrate-val.result) ≡ c.integrate-val.result = search rules in
    rw (val, c.integrate-val.ensures.1, c.integrate-val.ensures.0, read)
    (run_one c.args.stages l.integrators _ w l.sample-index c.loop-sample-test.true l.invariant)

pub returns : goal.returns
returns c =
    run_none c.args.stages _ _ c.args.samples.now _ _ c.loop-sample-test.false c.loop-sample.invariant
