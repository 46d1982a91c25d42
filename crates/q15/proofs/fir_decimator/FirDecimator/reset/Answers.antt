-- `FirDecimator::reset` meets its contract: a valid state has settings that are not refused.
use Rattle.std.proofs.Common.{rules}
use Rattle.q15.proofs.FirOpenings.{reset_is}
use Rattle.q15.proofs.fir_decimator.FirDecimator.reset.Goals as goal

pub returns : goal.returns
returns c = record { answer = rw c.fresh_state.ensures (reset_is c.args.self.now _ c.settings-own.ensures c.in_ok-state_row.ensures (search rules)) }
