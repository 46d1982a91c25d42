-- Each part is the taps of its stage.
use Rattle.std.proofs.Common.{◌≤◌, refl, arith}
use Rattle.half_band.specs.HbfTaps.{decimation}
use Rattle.half_band.proofs.Decimals.{patterns, taps_printed}
use Rattle.half_band.proofs.StageTables.{cut, past}
use Rattle.half_band.proofs.hbf_taps.Db140StageTable.stage.Goals as goal

pub returns-in-0 : goal.returns-in-0
unfolding decimation
returns-in-0 c = cut patterns decimation taps_printed c.args.k 0 42 3 c.in-0.is refl refl

pub returns-in-1 : goal.returns-in-1
unfolding decimation
returns-in-1 c = cut patterns decimation taps_printed c.args.k 1 38 4 c.in-1.is refl refl

pub returns-in-2 : goal.returns-in-2
unfolding decimation
returns-in-2 c = cut patterns decimation taps_printed c.args.k 2 33 5 c.in-2.is refl refl

pub returns-in-3 : goal.returns-in-3
unfolding decimation
returns-in-3 c = cut patterns decimation taps_printed c.args.k 3 23 10 c.in-3.is refl refl

pub returns-in-4 : goal.returns-in-4
unfolding decimation
returns-in-4 c = cut patterns decimation taps_printed c.args.k 4 0 23 c.in-4.is refl refl

pub returns-in_default : goal.returns-in_default
unfolding decimation
returns-in_default c = let h : 5 ≤ c.args.k = omega arith in past decimation c.args.k h
