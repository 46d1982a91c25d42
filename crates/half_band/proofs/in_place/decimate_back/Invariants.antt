-- The outputs from i on stand at the line's end, and what the others read stands as it was.
use Rattle.half_band.proofs.InPlace.{Backward}
use Rattle.half_band.proofs.in_place.decimate_back.Given as goal

abbrev pub invariant-loop-i : goal.invariant-loop-i
invariant-loop-i l = Backward l.taps.all.now l.initial.line l.n l.line l.i
