-- The arrays of a line that are lent for a call: the same after it.
use Rattle.std.specs.Prelude.{◌≡◌}
use Rattle.chain.specs.declared.arrays.Arrays.{Arrays}

-- the references are those that were lent, so what a call wrote stands where the caller keeps it; what is lent to be read is the same
pub record Same (before after : Arrays) : Type 0 where
  pub integrators : after.integrators.ghost_name ≡ before.integrators.ghost_name
  pub combs : after.combs.ghost_name ≡ before.combs.ghost_name
  pub neighbours : after.neighbours.ghost_name ≡ before.neighbours.ghost_name
  pub taps : after.taps.now ≡ before.taps.now
  pub fir_delay : after.fir_delay.ghost_name ≡ before.fir_delay.ghost_name
  pub delays : after.delays.ghost_name ≡ before.delays.ghost_name
  pub held : after.held.ghost_name ≡ before.held.ghost_name
  pub counts : after.counts.ghost_name ≡ before.counts.ghost_name
  pub delay : after.delay.ghost_name ≡ before.delay.ghost_name
  pub prototype : after.prototype.now ≡ before.prototype.now
