-- One sum or none.
use Rattle.std.proofs.Common.{◌≡◌, refl, add-zero, w32, to_z, of_z, rules, sym}
use Rattle.nonrecursive.proofs.block.put_sum.Goals as goal

pub returns-in-Some : goal.returns-in-Some
returns-in-Some c =
    let y : to_z w32 (of_z w32 c.in-Some.y) ≡ c.in-Some.y = search rules in
    rw (c.in-Some.is, y) (refl, refl)

pub returns : goal.returns
returns c = rw c.in_default.is (refl, sym (add-zero c.args.at))
