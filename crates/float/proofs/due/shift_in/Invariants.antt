-- A turn stores the value held and holds the one that stood there (`DelayLine`).
use Rattle.std.proofs.Common.{◌≡◌, ◌∷◌, get_or}
use lib.Ieee.{nan}
use Rattle.float.proofs.DelayLine.{slid}
use Rattle.float.proofs.due.shift_in.Given as goal

abbrev pub invariant-loop-place : goal.invariant-loop-place
invariant-loop-place l = record {
  moved : l.place-items ≡ slid l.initial.place-items l.x l.place-index;
  next : l.held ≡ get_or (l.x ∷ l.initial.place-items) l.place-index nan;
}
