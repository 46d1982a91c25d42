-- `linear_at` meets its contract: past the end the last sample, else the two samples and their fraction (`beyond`, `inside`).
use Rattle.float.proofs.ResampleLinear.{beyond, inside}
use Rattle.float.proofs.resample_linear.linear_at.Goals as goal

pub returns-in_default : goal.returns-in_default
returns-in_default c = let a = c.args in beyond a.src.now a.ratio a.i _ c.f32_of.ensures c.in_default.ensures

pub returns : goal.returns
returns c = let a = c.args in inside a.src.now a.ratio a.i _ _ _ _ c.requires.1 c.f32_of.ensures c.in-Some.ensures c.f32_of-2.ensures c.min-next.ensures
