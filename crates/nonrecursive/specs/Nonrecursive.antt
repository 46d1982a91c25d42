-- 02, §13, of a whole list: "N times add each value to the one before, drop every first of two, and repeat until the factor is used up". The factor is 2^m.
use Rattle.std.specs.Prelude.{List, ℕ, ◌+◌, ◌*◌, ◌/◌, ◌^◌, ℤ, ◌+ℤ◌, length}
use Rattle.std.specs.Int.{w32}
use Rattle.theory.specs.Lists.{listed}
use Rattle.theory.specs.Wrap.{wrap}
use Rattle.integer.specs.MovingSums.{Signal, signal_of, delay, fold}

-- "add each value to the one before"; "Samples before the start are zero"
abbrev pub paired : Signal → Signal
paired f t = f t +ℤ delay f t

-- "drop every first of two"
abbrev pub seconds : Signal → Signal
seconds f k = f (2 * k + 1)

-- one halving: "N times add .., drop every first of two"
abbrev pub halved : ℕ → Signal → Signal
halved N f = seconds (fold N paired f)

-- m halvings, modulo 2^32 as i32; a list of n samples has floor(n / 2^m) outputs
unfoldable pub nonrecursive_sums : ℕ → ℕ → List ℤ → List ℤ
nonrecursive_sums N m w = listed (length w / 2 ^ m) (λ k. wrap w32 (fold m (halved N) (signal_of w) k))
