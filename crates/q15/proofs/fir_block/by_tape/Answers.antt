-- `fir_block::by_tape` meets its contract: fewer samples than the wait are stored; else the windows are read from the tape.
use Rattle.std.proofs.Common.{◌+◌, ◌-◌, List, ℤ, length, take, arith}
use Rattle.q15.proofs.FirBlocks.{quiet_ran, tape_ran}
use Rattle.q15.proofs.fir_block.by_tape.Goals as goal

pub returns-then-n-wait : goal.returns-then-n-wait
returns-then-n-wait c =
    let a = c.args in
    let o = a.settings in
    let p = c.requires.0 in
    quiet_ran a.taps.now o.tap_count o.factor (omega (arith, p.2, p.1)) p.0 p.1 a.values.now a.delay.now a.wait.now _ c.if-n-wait.true c.store_run.ensures

pub returns : goal.returns
returns c =
    let a = c.args in
    let o = a.settings in
    let p = c.requires.0 in
    let w = c.windows_behind-more in
    let tape : List ℤ = take (o.tap_count - a.wait.now + length a.values.now) c.lay.new.tape in
    tape_ran a.taps.now o.tap_count o.factor (omega (arith, p.2, p.1)) p.0 p.1 a.delay.now a.wait.now a.values.now w.result c.told-delay p.3 p.4 w.ensures.0 w.ensures.1 tape
    c.lay.ensures p.2 _ _ _ _ c.after_last.ensures c.windows_of-cuts.ensures.span c.windows_of-cuts.ensures.cuts
