-- The places passed are turned.
use Rattle.std.proofs.Common.{◌≡◌, take, get_or}
use lib.Ieee.{nan}
use Rattle.theory.specs.Lists.{listed}
use Rattle.phase_rows.specs.PhaseRows.{place_by_tap}
use Rattle.phase_rows.proofs.rows.turn_rows.Given as goal

abbrev pub invariant-loop-i : goal.invariant-loop-i
invariant-loop-i l = take l.i l.dst ≡ listed l.i (λ k. get_or l.src (place_by_tap l.phases l.taps k) nan)
