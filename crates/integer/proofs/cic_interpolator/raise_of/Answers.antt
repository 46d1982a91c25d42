-- A turn writes the outputs of the sample that was entered, and enters the next.
use Rattle.std.proofs.Common.{◌≡◌, ◌+◌, ◌-◌, ◌<◌, ◌≤◌, length, take, drop, arith, length-take-le, length-drop, ◌∙◌, rules}
use Rattle.integer.proofs.Raising.{looked_up, room, span_kept, written_out, done}
use Rattle.integer.proofs.cic_interpolator.raise_of.Goals as goal

pub loop-taken-preserved : goal.loop-taken-preserved
loop-taken-preserved g c =
    let a = c.args in
    let l = c.loop-taken in
    let some : 0 < length a.integrators.now = search rules in
    let fits : l.written + a.r ≤ length l.dst =
    (let same = span_kept _ _ _ _ _ _ l.invariant c.requires.2 in
    let place = room a.r (length a.src.now) (length a.dst.now) l.taken l.written l.invariant.before.at c.loop-taken-test.true c.requires.2 in
    omega arith) in
    let wide : l.written + a.r - l.written ≡ a.r = omega arith in
    let long : length (take a.r (drop l.written l.dst)) ≡ a.r = length-take-le a.r (drop l.written l.dst) (omega (arith, length-drop l.written l.dst)) in
    let filled = rw (wide, long) at c.fill_on.ensures in
    let next = written_out _ _ _ _ _ _ c.requires.0 c.requires.1 some c.loop-taken-test.true l.invariant in
    let coming = c.copied-in-loop-taken.ensures ∙ looked_up _ _ _ c.get.ensures.lookup.0 c.get.ensures.lookup.1 in
    record {
      combs₁ = _;
      held₁ = _;
      before = rw (wide, filled.1, filled.0) next;
      kept = rw coming at c.enter-in-loop-taken.ensures.combs;
      summed = rw coming at c.enter-in-loop-taken.ensures.integrators;
    }

pub returns-clause-state : goal.returns-clause-state
returns-clause-state g c = rw c.write_back.ensures (done _ _ _ _ _ _ c.loop-taken-test.false c.loop-taken.invariant).0
