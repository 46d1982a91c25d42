-- `FirDecimator::new` meets its contract: settings that are not refused have few taps, and a stream from the opening makes section 3 of any list.
use Rattle.std.proofs.Common.{sym}
use Rattle.q15.proofs.FirOpenings.{few_taps, fresh_streams}
use Rattle.q15.proofs.fir_decimator.FirDecimator.new.Goals as goal

pub fresh_state-requires : goal.fresh_state-requires
fresh_state-requires c = few_taps c.args.taps.now c.args.factor (sym c.in_ok-answer.ensures)

pub returns-clause-stream : goal.returns-clause-stream
returns-clause-stream c = rw c.fresh_state.ensures (fresh_streams c.args.taps.now c.args.factor (sym c.in_ok-answer.ensures))
