-- `integrate_all` meets its contract: a run of one sample is that sample through the integrators.
use Rattle.std.proofs.Common.{◌≡◌, get_or, pos, w32, to_z, of_z, rules, arith, refl}
use Rattle.integer.proofs.Run.{run_one, run_none}
use Rattle.line.proofs.feed.integrate_all.Goals as goal

pub returns-then-samples-eq1-clause-made : goal.returns-then-samples-eq1-clause-made
returns-then-samples-eq1-clause-made c =
    let w = c.args.samples.now in
    let read : to_z w32 (of_z w32 (get_or w 0 (pos 0))) ≡ get_or w 0 (pos 0) = search rules in
    let one = run_one c.args.f.settings.stages c.args.integrators.now (pos 0) w 0 (omega arith) refl in
    rw (c.integrate.ensures.0, read) (run_none c.args.f.settings.stages _ _ w 1 _ (omega arith) one).0
