-- `resample_linear::between_samples` meets its contract: the value lies between its two samples, so it fits 16 bits.
use Rattle.std.proofs.Common.{◌≡◌, rules}
use lib.IntN.{◌+ℤ◌, ◌-ℤ◌}
use mir.Syntax.{w16, w64}
use mir.Val.{SFits, to_z, of_z}
use mir.Facts.{to_z-of_z, sfits_widen}
use Rattle.q15.specs.ResampleLinear.{part_of, between}
use Rattle.q15.proofs.Between.{between_fits}
use Rattle.q15.proofs.resample_linear.between_samples.Goals as goal
use Rattle.q15.proofs.resample_linear.between_samples.Goals.{After-part_of-part}

module _ (c : After-part_of-part) where
  x : to_z w64 (of_z w64 c.from-x.result) ≡ c.args.a
  x = search rules

  part : to_z w64 (of_z w64 c.part_of-part.result) ≡ part_of (c.args.b -ℤ c.args.a) c.args.frac
  part = search rules

  whole : SFits w16 (c.args.a +ℤ part_of (c.args.b -ℤ c.args.a) c.args.frac)
  unfolding between
  whole = between_fits c.args.a c.args.b c.ranges.a c.ranges.b c.args.frac c.requires

pub overflow_add-result : goal.overflow_add-result
overflow_add-result c = rw (x c, part c) (sfits_widen {w = w16} {w' = w64} tt (whole c))

pub overflow_cast-result : goal.overflow_cast-result
overflow_cast-result c = rw (x c, part c, to_z-of_z (sfits_widen {w = w16} {w' = w64} tt (whole c))) (whole c)

pub returns : goal.returns
unfolding between
returns c = rw (x c, part c, to_z-of_z (sfits_widen {w = w16} {w' = w64} tt (whole c)), to_z-of_z (whole c))
