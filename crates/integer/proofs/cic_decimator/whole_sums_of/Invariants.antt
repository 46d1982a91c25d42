-- After each turn r samples more are taken, of which the section makes the sums in front of the span.
use Rattle.std.proofs.Common.{◌≡◌, ◌*◌, take, drop}
use Rattle.theory.specs.Sections.{state, outs}
use Rattle.integer.specs.CicDecimator.{decimator_of, decimator}
use Rattle.integer.proofs.cic_decimator.whole_sums_of.Given as goal

abbrev pub invariant-loop-place : goal.invariant-loop-place
invariant-loop-place g l =
    let before = decimator_of g.row.N l.r l.initial.held l.initial.kept 0 in
    record {
      rest : l.left ≡ drop (l.place-index * l.r) l.src;
      sums : take l.place-index l.dst ≡ outs decimator before (take (l.place-index * l.r) l.src);
      left : decimator_of g.row.N l.r l.held l.kept 0 ≡ state decimator before (take (l.place-index * l.r) l.src);
    }
