-- The first k pairs are laid, and the next entry begins behind their entries.
use Rattle.std.proofs.Common.{◌≡◌, ◌+◌, length, take}
use Rattle.sheet.specs.Laid.{laid}
use Rattle.sheet.specs.Sheet as S
use Rattle.sheet.proofs.write.put_pairs.Given as goal

abbrev pub invariant-loop-k : goal.invariant-loop-k
invariant-loop-k l =
    record {
      from : l.from ≡ S.data_from (length l.lengths) + S.sum (take l.k l.lengths);
      pairs : l.span ≡ laid 2 (S.pairs_from (S.data_from (length l.lengths)) (take l.k l.lengths)) l.initial.span;
    }
