-- A list mapped is the listing of what its places become.
use mathlib.Core.Path.{◌≡◌, sym, ap, ◌∙◌}
use mathlib.Core.List.{List, map}
use native.Mathlib.Omega.{arith}
use lib.ListN.{length, get_or}
use lib.Seq.{take_all}
use Rattle.theory.specs.Lists.{listed}
use Rattle.theory.proofs.Listed.{map_listed}
use Rattle.q15.proofs.Filling.{listed_take}

pub listed_map : {A B : Type 0} (g : A → B) (z : A) (l : List A) → listed (length l) (λ k. g (get_or l k z)) ≡ map g l
listed_map {A} g z l =
    sym (map_listed g (length l) (λ k. get_or l k z)) ∙ ap (map g) (listed_take z (length l) l (omega arith) ∙ take_all (length l) l (omega arith))
