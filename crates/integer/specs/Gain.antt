-- 01, section 1: "Gain is r^N, held at 2^64−1. Gain bits are 0 for gain 1, else the least g with 2^g ≥ gain; a held gain gives 64."
use Rattle.std.specs.Prelude.{ℕ, zero, suc, ◌+◌, ◌^◌, ◌<◌, ◌≤◌, min, cond, nat_le}
use Rattle.refusal.specs.Outcome.{Answer}

abbrev pub held : ℕ → ℕ
held n = min n 18446744073709551615

-- the gain of n stages of factor r
abbrev pub gain_of : ℕ → ℕ → ℕ
gain_of n r = held (r ^ n)

-- the first b of `from`, `from` + 1, .. with gain ≤ 2 ^ b, after at most `steps` of them
abbrev pub bits_from : ℕ → ℕ → ℕ → ℕ
bits_from zero from gain = from
bits_from (suc steps) from gain = cond (nat_le gain (2 ^ from)) from (bits_from steps (from + 1) gain)

unfoldable pub bits_of : ℕ → ℕ
bits_of gain = bits_from 64 0 gain

-- what makes b the gain bits: it is the least with 2^b ≥ gain
pub record Least (gain b : ℕ) : Type 0 where
  pub reaches : gain ≤ 2 ^ b
  pub least : (k : ℕ) → k < b → 2 ^ k < gain

abbrev pub gain_bits : ℕ → ℕ → ℕ
gain_bits n r = bits_of (gain_of n r)

-- "for g up to 31"
abbrev pub most_bits : ℕ
most_bits = 31

-- the bits by which a sum is scaled; row 3, "gain bits over 31"
unfoldable pub scaling_bits : ℕ → ℕ → Answer ℕ
scaling_bits n r =
    cond (nat_le (gain_bits n r) most_bits) (record { number = 0; value = gain_bits n r }) (record { number = 3; value = 0 })
