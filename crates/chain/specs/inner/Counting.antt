-- How far the next value of a section is, from its numbers: it makes one of every so many.
use Rattle.std.specs.Prelude.{cond, List, ℕ, zero, suc, ◌+◌, ◌-◌, ◌*◌, eqb, get_or}

-- a FIR without taps hands each value on
abbrev pub or_one : ℕ → ℕ → ℕ
or_one T n = cond (eqb T 0) 1 n

-- the half-band stages: of n from stage k on, each holds none and wants two values, or holds one and wants one
abbrev pub stages_left : ℕ → ℕ → List ℕ → ℕ
stages_left zero k c = 1
stages_left (suc n) k c = cond (eqb (get_or c k 0) 0) 2 1 + (stages_left n (suc k) c - 1) * 2
