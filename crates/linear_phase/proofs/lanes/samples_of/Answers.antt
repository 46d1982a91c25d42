-- `linear_phase::lanes::samples_of` meets its contract: samples that are lent are those that stand there, in either case.
use Rattle.std.proofs.Common.{◌≡◌, List, refl, ap, ◌∙◌, option_copied}
use Rattle.std.specs.Borrow.{Bor}
use Rattle.std.specs.Prelude.{Option, Some, None, unwrap_or}
use lib.Ieee.{Float}
use Rattle.linear_phase.proofs.lanes.samples_of.Goals as goal

lent_or : (src : Option (Bor (List Float))) (span : Bor (List Float)) → (unwrap_or src span).now ≡ unwrap_or (option_copied src) span.now
lent_or (Some samples) span = refl
lent_or None span = refl

pub returns : goal.returns
returns c = ap (λ (line : Bor (List Float)). line.now) c.unwrap_or.ensures ∙ lent_or c.args.src c.args.span
