-- Eight numbers of 16 bits and two of 32, one behind the other.
use Rattle.words.specs.Fields.{joined}
use Rattle.parking.specs.Parked.{settings_bytes}
use Rattle.parking.proofs.entries.put_settings.Goals as goal

pub returns : goal.returns
unfolding settings_bytes joined
returns c = rw (c.put_numbers.ensures, c.copy_from_slice.ensures.after, c.to_le_bytes.ensures, c.copy_from_slice-2.ensures.after, c.to_le_bytes-2.ensures)
