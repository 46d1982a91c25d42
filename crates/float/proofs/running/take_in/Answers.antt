-- `take_in` meets its contract: before the newest by `set_before`, and before the tape's end, where the taps then stand, by `wound_back`.
use Rattle.std.proofs.Common.{◌≡◌, ◌-◌, ◌<◌, length, arith}
use Rattle.float.proofs.Tape.{wound_back}
use Rattle.float.proofs.running.take_in.Goals as goal

pub returns-then-newest-eq0 : goal.returns-then-newest-eq0
returns-then-newest-eq0 c =
    let a = c.args in
    let long = c.told-tape in
    let room : a.taps < length a.tape.now = omega (arith, c.requires.1, long) in
    let whole : a.taps - 0 ≡ a.taps = omega arith in
    let moved = wound_back a.taps (a.taps - 0) a.x a.tape.now c.copy_within.new.self whole room c.copy_within.ensures.len (rw long c.copy_within.ensures.after) in
    (omega (arith, c.requires.1), rw c.if-newest-eq0.true (rw long at moved))
