-- Each part is the taps of its stage.
use Rattle.std.proofs.Common.{◌≤◌, refl, arith}
use Rattle.half_band.specs.HbfTaps98.{decimation98}
use Rattle.half_band.proofs.Decimals98.{patterns98, taps98_printed}
use Rattle.half_band.proofs.StageTables.{cut, past}
use Rattle.half_band.proofs.hbf_taps.Db98StageTable.stage.Goals as goal

pub returns-in-0 : goal.returns-in-0
unfolding decimation98
returns-in-0 c = cut patterns98 decimation98 taps98_printed c.args.k 0 27 2 c.in-0.is refl refl

pub returns-in-1 : goal.returns-in-1
unfolding decimation98
returns-in-1 c = cut patterns98 decimation98 taps98_printed c.args.k 1 24 3 c.in-1.is refl refl

pub returns-in-2 : goal.returns-in-2
unfolding decimation98
returns-in-2 c = cut patterns98 decimation98 taps98_printed c.args.k 2 21 3 c.in-2.is refl refl

pub returns-in-3 : goal.returns-in-3
unfolding decimation98
returns-in-3 c = cut patterns98 decimation98 taps98_printed c.args.k 3 15 6 c.in-3.is refl refl

pub returns-in-4 : goal.returns-in-4
unfolding decimation98
returns-in-4 c = cut patterns98 decimation98 taps98_printed c.args.k 4 0 15 c.in-4.is refl refl

pub returns-in_default : goal.returns-in_default
unfolding decimation98
returns-in_default c = let h : 5 ≤ c.args.k = omega arith in past decimation98 c.args.k h
