-- The line of the parts that were read.
use Rattle.parking.specs.inner.Told.{numbers_of}
use Rattle.taking_up.specs.inner.ByKind.{kind_in, told}
use Rattle.taking_up.proofs.Read.{line_read}
use Rattle.taking_up.proofs.parked.Parked.read.Goals as goal

pub returns-clause-line : goal.returns-clause-line
returns-clause-line c =
    let p = c.args.self in
    rw (c.f32_of_bits.ensures, c.thinning.ensures) (line_read (kind_in p.e) (numbers_of p.q) (told p.e) c.read_first-place.ensures.sums c.read_first-place.ensures.neighbours c.read_fir-wait.ensures c.read_half_band.ensures c.read_resampler-mu.ensures)
