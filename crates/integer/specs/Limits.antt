-- 01, section 1: "Stages N 1 to 8, factor r 1 to 4,096".
use Rattle.std.specs.Prelude.{ℕ, Bool, ◌&&◌, nat_le}

abbrev pub most_stages : ℕ
most_stages = 8

abbrev pub most_factor : ℕ
most_factor = 4096

-- x is 1 to most
abbrev pub one_to : ℕ → ℕ → Bool
one_to most x = nat_le 1 x && nat_le x most

unfoldable pub stages_ok : ℕ → Bool
stages_ok N = one_to most_stages N

unfoldable pub factor_ok : ℕ → Bool
factor_ok r = one_to most_factor r
