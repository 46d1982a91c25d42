-- By the tests on the way: the limits, and whether parking writes such a line.
use Rattle.std.proofs.Common.{ap, ◌∙◌}
use Rattle.refusal.specs.Outcome.{Opened}
use Rattle.line.specs.declared.gauge_line.Line.{Line}
use Rattle.parking.specs.inner.Told.{numbers_of}
use Rattle.taking_up.specs.inner.ByKind.{kind_in, told}
use Rattle.taking_up.specs.inner.Taking.{refused_line}
use Rattle.taking_up.proofs.Opened.{limits_told, outside_by, unfit_by, fine_by}
use Rattle.taking_up.proofs.Read.{fine_read}
use Rattle.taking_up.proofs.taking.open_parts.Goals as goal

pub returns-then-not-in_limits-clause-answer : goal.returns-then-not-in_limits-clause-answer
unfolding refused_line
returns-then-not-in_limits-clause-answer c = outside_by (kind_in c.args.stated.e) (numbers_of c.args.stated.q) (told c.args.stated.e) (cc)

pub invariant_of-parked : goal.invariant_of-parked
invariant_of-parked c = record { limits = limits_told (numbers_of c.args.stated.q) (cc); long = c.requires }

pub returns-then-not-is_fine-clause-answer : goal.returns-then-not-is_fine-clause-answer
unfolding refused_line
returns-then-not-is_fine-clause-answer c =
    let q = numbers_of c.args.stated.q in
    let e = told c.args.stated.e in
    unfit_by (kind_in c.args.stated.e) q e (limits_told q (cc)) (fine_read _ q e.delay e.half_band e.cells e.resampler c.read-read.ensures.line c.is_fine.ensures c.if-not-is_fine.true)

pub returns-clause-answer : goal.returns-clause-answer
returns-clause-answer c =
    let q = numbers_of c.args.stated.q in
    let e = told c.args.stated.e in
    ap {B = Opened Line} (λ (l : Line). record { number = 0; state = l }) c.read-read.ensures.line
    ∙ fine_by (kind_in c.args.stated.e) q e (limits_told q (cc)) (fine_read _ q e.delay e.half_band e.cells e.resampler c.read-read.ensures.line c.is_fine.ensures c.if-not-is_fine.false)
