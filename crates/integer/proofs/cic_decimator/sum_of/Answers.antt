-- The run ends with the last sample, whose value the combs take.
use Rattle.std.proofs.Common.{◌≡◌, ◌-◌, length, get_or, pos, refl, w32, to_z, of_z, rules}
use Rattle.integer.proofs.Run.{run_last}
use Rattle.integer.proofs.cic_decimator.sum_of.Goals as goal

pub returns : goal.returns
returns c =
    let w = c.args.samples.now in
    let i = length w - 1 in
    let read : to_z w32 (of_z w32 (get_or w i (pos 0))) ≡ get_or w i (pos 0) = search rules in
    let val : to_z w32 (of_z w32 c.integrate-val.result) ≡ c.integrate-val.result = search rules in
    let sum : to_z w32 (of_z w32 c.comb.result) ≡ c.comb.result = search rules in
    let passed = rw (read, c.run.ensures.0) at c.integrate-val.ensures in
    let last = run_last c.args.stages c.args.integrators.now (pos 0) w i c.requires refl in
    let handed = rw (val, passed.1) at c.comb.ensures in
    rw (last.0, last.1, sum) (passed.0, handed.0, handed.1)
