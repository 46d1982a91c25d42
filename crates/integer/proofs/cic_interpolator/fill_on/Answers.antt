-- A turn writes one value more, and the next goes in as a zero.
use Rattle.std.proofs.Common.{◌≡◌, refl, to_z-of_z, w32, to_z, of_z, rules}
use Rattle.integer.proofs.Filling.{starts, goes_on, done}
use Rattle.integer.proofs.cic_interpolator.fill_on.Goals as goal

pub loop-place-init : goal.loop-place-init
loop-place-init c = starts _ _ _ _ _ refl

pub loop-place-preserved : goal.loop-place-preserved
loop-place-preserved c =
    let val : to_z w32 (of_z w32 c.integrate.result) ≡ c.integrate.result = search rules in
    rw (val, c.integrate.ensures.1, c.integrate.ensures.0) (goes_on _ _ _ _ _ _ _ _ c.loop-place-test.true c.loop-place.invariant)

pub returns : goal.returns
returns c = rw (to_z-of_z c.ranges.input) at (done _ _ _ _ _ _ _ _ c.loop-place-test.false c.loop-place.invariant)
