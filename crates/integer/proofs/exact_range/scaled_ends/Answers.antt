-- The ends of the i32, scaled, are those of the definition.
use Rattle.std.proofs.Common.{◌≡◌, ◌∙◌, w32, to_z, of_z, rules}
use Rattle.integer.proofs.ExactSums.{least_scaled, greatest_scaled}
use Rattle.integer.proofs.exact_range.scaled_ends.Goals as goal

pub returns : goal.returns
returns c =
    let least : to_z w32 (of_z w32 c.scaled.result) ≡ c.scaled.result = search rules in
    let greatest : to_z w32 (of_z w32 c.scaled-2.result) ≡ c.scaled-2.result = search rules in (
      least ∙ c.scaled.ensures ∙ least_scaled c.args.bits c.requires,
      greatest ∙ c.scaled-2.ensures ∙ greatest_scaled c.args.bits c.requires,
    )
