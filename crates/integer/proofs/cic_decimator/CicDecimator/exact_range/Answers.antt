-- The range is that of the state's settings, for which a fresh decimator makes exact sums.
use Rattle.integer.proofs.Within.{accepted, sound}
use Rattle.integer.proofs.Streaming.{streams}
use Rattle.integer.proofs.ExactSums.{exact_as, range_told}
use Rattle.integer.proofs.cic_decimator.CicDecimator.exact_range.Goals as goal

pub returns-clause-exact : goal.returns-clause-exact
returns-clause-exact c =
    let d = c.args.self.now in
    let s = sound d.stages d.r d.sample_counter (accepted _ c.in_ok-state_answer.ensures) in
    let all = streams d.stages d.r s.stages s.factor in
    range_told d.stages d.r _ _ _ (exact_as d.stages d.r _ _ all.sums_made all.scaled_made) c.range_of.ensures
