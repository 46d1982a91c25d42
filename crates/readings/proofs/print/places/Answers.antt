-- The rest's two digits are the tens and the ones.
use Rattle.std.proofs.Common.{◌%◌, ap}
use Rattle.std.specs.Fmt.{styled_decimal}
use Rattle.readings.proofs.Hundredths.{told}
use Rattle.readings.proofs.print.places.Goals as goal

pub returns : goal.returns
returns g c = told c.write.result _ _ c.args.n (styled_decimal c.laid_out.result (c.args.n % 100)) (ap (λ s. styled_decimal s (c.args.n % 100)) c.laid_out.ensures) c.write.ensures.bytes
