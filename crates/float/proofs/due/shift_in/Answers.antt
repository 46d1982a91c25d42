-- `shift_in` meets its contract: a turn stores the value held and holds the one that stood there (`DelayLine`).
use Rattle.std.proofs.Common.{◌≡◌, List, length, take, get_or, ap, ◌∙◌, le_of_lt, arith}
use lib.Ieee.{Float, nan}
use Rattle.float.proofs.DelayLine.{slide, held_next, slid_row}
use Rattle.float.proofs.due.shift_in.Goals as goal

pub loop-place-preserved : goal.loop-place-preserved
loop-place-preserved c =
    let l = c.loop-place in
    let d : List Float = take c.args.taps c.args.delay.now in
    record {
      moved = rw (c.replace-held.ensures.after, l.invariant.moved, l.invariant.next) (slide d c.args.x l.place-index c.loop-place-test.true);
      next =
          c.replace-held.ensures.value
          ∙ ap (λ (e : List Float). get_or e l.place-index nan) l.invariant.moved
          ∙ held_next d c.args.x l.place-index (le_of_lt c.loop-place-test.true);
    }

pub returns : goal.returns
returns c =
    let d = c.args.delay.now in
    let T = c.args.taps in
    let all : c.loop-place.place-index ≡ length (take T d) = omega (arith, c.loop-place-test.false) in
    rw c.loop-place.invariant.moved (slid_row T c.loop-place.place-index c.args.x d all c.if-taps-gt-MOST_PHASE_TAPS.false (omega (arith, c.told-delay)))
