-- Blocks of `NonrecursiveDecimator`: a list of whole frames goes through the halvings one after the other. For the contracts of private functions; that the halvings
-- make what one sample after the other makes is shown in proofs/StageByStage.antt.
use Rattle.std.specs.Prelude.{List, [], ◌∷◌, ◌++◌, ℕ, zero, suc, ℤ, take, drop, set, Option, None, Some}
use Rattle.nonrecursive.specs.NonrecursiveDecimator.{summed}

-- the neighbours as a list leaves them, and the values that it hands on
pub record Lined : Type 0 where
  pub state : List ℤ
  pub vals : List ℤ

-- two values into a halving hand one on
unfoldable pub pairs : ℕ → List ℤ → List ℤ → Lined
pairs N s [] = record { state = s; vals = [] }
pairs N s (a ∷ []) = record { state = s; vals = [] }
pairs N s (a ∷ b ∷ w) =
    let q = summed N (summed N s a).state b in
    let r = pairs N q.state w in
    record { state = r.state; vals = q.val ∷ r.vals }

-- m halvings, each over all that the one before handed on
unfoldable pub lined : ℕ → ℕ → List ℤ → List ℤ → Lined
lined N zero s w = record { state = s; vals = w }
lined N (suc m) s w =
    let h = pairs N s w in
    let q = lined N m (drop N h.state) h.vals in
    record { state = take N h.state ++ q.state; vals = q.vals }

-- a value, where there is one, at its place of a span
abbrev pub put : List ℤ → ℕ → Option ℤ → List ℤ
put out w None = out
put out w (Some y) = set out w y
