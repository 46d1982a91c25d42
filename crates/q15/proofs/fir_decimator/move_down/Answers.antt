-- `fir_decimator::move_down` meets its contract: where the factor is above the taps, nothing is moved.
use Rattle.q15.proofs.Windows.{moved_down}
use Rattle.q15.proofs.fir_decimator.move_down.Goals as goal

pub returns : goal.returns
returns c = moved_down c.args.t c.args.factor c.min.result c.args.delay.now c.min.ensures _ c.copy_within.ensures.after
