-- What only one kind has, and then what both have.
use Rattle.std.proofs.Common.{◌∙◌, sym}
use Rattle.parking.specs.inner.Told.{numbers_of}
use Rattle.taking_up.specs.inner.ByKind.{kind_in, told}
use Rattle.taking_up.proofs.Opened.{long_is}
use Rattle.taking_up.proofs.stated.Stated.is_long.Goals as goal

pub returns-then-first_long : goal.returns-then-first_long
returns-then-first_long c = let s = c.args.self in c.rest_long.ensures ∙ (rw (sym c.first_long.ensures ∙ c.if-first_long.true) at (long_is (kind_in s.e) (numbers_of s.q) (told s.e)))

pub returns-else-first_long : goal.returns-else-first_long
returns-else-first_long c = let s = c.args.self in c.if-first_long.false ∙ (rw (sym c.first_long.ensures ∙ c.if-first_long.false) at (long_is (kind_in s.e) (numbers_of s.q) (told s.e)))
