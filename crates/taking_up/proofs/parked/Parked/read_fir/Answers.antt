-- Each array is read in front, over zeros.
use Rattle.parking.specs.Entries.{fir_from}
use Rattle.taking_up.proofs.parked.Parked.read_fir.Goals as goal

pub returns : goal.returns
unfolding fir_from
returns c = rw (c.read_values.ensures, c.read_values-2.ensures, c.clear_fir.ensures.0, c.clear_fir.ensures.1, c.from.ensures, c.le16_at.ensures)
