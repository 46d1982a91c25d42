-- 01, section 6, "Next piece".
use Rattle.std.specs.Prelude.{cond, List, ℕ, ltb, ℤ, length, drop}

-- the untaken rest of the piece last fed, or the waiting piece where none is left
abbrev pub next_piece : List ℤ → ℕ → List ℤ → List ℤ
next_piece last taken waiting = cond (ltb taken (length last)) (drop taken last) waiting
