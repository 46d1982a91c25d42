-- Each array is read in front, over zeros.
use Rattle.parking.specs.Entries.{resampler_from}
use Rattle.taking_up.proofs.parked.Parked.read_resampler.Goals as goal

pub returns : goal.returns
unfolding resampler_from
returns c = rw (c.read_values.ensures, c.read_values-2.ensures, c.clear_resampler.ensures.0, c.clear_resampler.ensures.1, c.f32_of_bits.ensures, c.le32_at.ensures)
