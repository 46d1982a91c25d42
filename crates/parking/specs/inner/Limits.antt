-- The numbers of a line that may be parked, as far as lengths go by them.
use Rattle.std.specs.Prelude.{◌≤◌, ◌<◌}
use Rattle.q15.specs.FirDecimator.{most_taps}
use Rattle.parking.specs.Parked.{Settings}

-- 01's limits, as far as lengths go
pub record InLimits (q : Settings) : Type 0 where
  pub stages : q.stages ≤ 8
  pub r : q.r ≤ 4096
  pub taps : q.taps ≤ most_taps
  pub depth : q.depth ≤ 5
  pub phases : q.phases ≤ 64
  pub phase_taps : q.phase_taps ≤ 16

-- numbers that fit the words of the settings entry, as far as lengths go by them
pub record InWords (q : Settings) : Type 0 where
  pub stages : q.stages < 65536
  pub taps : q.taps < 65536
  pub phases : q.phases < 65536
  pub phase_taps : q.phase_taps < 65536
