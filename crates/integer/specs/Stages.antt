-- 01, section 1: "Every integrator and comb wraps modulo 2^32". N stages in a row: each has a state, takes a value, keeps a new state and hands a value on.
use Rattle.std.specs.Prelude.{ℕ, zero, suc, List, [], ◌∷◌, ℤ, ◌+ℤ◌, ◌-ℤ◌}
use Rattle.std.specs.Int.{w32}
use Rattle.theory.specs.Wrap.{wrap}

-- the stages as a value leaves them, and the value that comes out
pub record Passed (A : Type 0) : Type 0 where
  pub state : List A
  pub val : A

-- the first n stages of a row: `keep a v` is the new state of a stage in state a that takes v, and `out a v` what it hands on
abbrev pub row : {A : Type 0} → (A → A → A) → (A → A → A) → ℕ → List A → A → Passed A
row keep out zero s v = record { state = s; val = v }
row keep out (suc n) [] v = record { state = []; val = v }
row keep out (suc n) (a ∷ s) v = record { state = keep a v ∷ (row keep out n s (out a v)).state; val = (row keep out n s (out a v)).val }

-- an integrator adds, and hands the sum on
abbrev pub sum32 : ℤ → ℤ → ℤ
sum32 a v = wrap w32 (a +ℤ v)

unfoldable pub integrated : ℕ → List ℤ → ℤ → Passed ℤ
integrated = row sum32 sum32

-- a comb keeps the value, and hands on by how much it differs from the one before
abbrev pub kept : ℤ → ℤ → ℤ
kept a v = v

abbrev pub difference32 : ℤ → ℤ → ℤ
difference32 a v = wrap w32 (v -ℤ a)

unfoldable pub combed : ℕ → List ℤ → ℤ → Passed ℤ
combed = row kept difference32

-- the integrators after all of a list, and the last value that came out, v where the list is empty
unfoldable pub ran : ℕ → List ℤ → ℤ → List ℤ → Passed ℤ
ran n s v [] = record { state = s; val = v }
ran n s v (x ∷ w) = ran n (integrated n s x).state (integrated n s x).val w
