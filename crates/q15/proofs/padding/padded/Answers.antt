-- `padding::padded` meets its contract: what is left of the zeros stands behind the values.
use Rattle.std.proofs.Common.{length, refl}
use Rattle.std.proofs.lemmas.List.{drop-replicate}
use Rattle.q15.proofs.padding.padded.Goals as goal

pub returns-then-values-clause-fits : goal.returns-then-values-clause-fits
returns-then-values-clause-fits g c fits = rw (c.copy_from_slice.ensures.after, drop-replicate (length c.args.values.now) g.row.N c.args.zero) refl
