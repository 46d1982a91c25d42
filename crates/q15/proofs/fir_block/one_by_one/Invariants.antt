-- `fir_block::one_by_one`: before each turn the state, the span and the counts are those that the samples so far leave.
use Rattle.q15.specs.FirDecimator.{fir_state}
use Rattle.q15.proofs.FirBlocks.{Taken}
use Rattle.q15.proofs.fir_block.one_by_one.Given as goal

abbrev pub invariant-loop-i : goal.invariant-loop-i
invariant-loop-i l =
    Taken (fir_state l.taps l.settings.tap_count l.settings.factor l.initial.delay l.initial.wait) l.initial.values
    (fir_state l.taps l.settings.tap_count l.settings.factor l.delay l.wait) l.values l.i l.written l.cuts
