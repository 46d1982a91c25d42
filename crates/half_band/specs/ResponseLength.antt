-- 01, section 7, "`hbf_dec_response_length`, depth 0 to 5: 0, 23, 28, 29, 29, 29; `hbf_int_response_length`: 0, 46, 112, 234, 476, 958".
use Rattle.std.specs.Prelude.{cond, List, [], ◌∷◌, ℕ, ltb, get_or}
use Rattle.refusal.specs.Outcome.{Answer}
use Rattle.half_band.specs.Limits.{most_depth}

abbrev pub dec_lengths : List ℕ
dec_lengths = 0 ∷ 23 ∷ 28 ∷ 29 ∷ 29 ∷ 29 ∷ []

abbrev pub int_lengths : List ℕ
int_lengths = 0 ∷ 46 ∷ 112 ∷ 234 ∷ 476 ∷ 958 ∷ []

-- 11: "depth over 5"
abbrev pub length_at : List ℕ → ℕ → Answer ℕ
length_at lengths depth = cond (ltb most_depth depth) (record { number = 11; value = 0 }) (record { number = 0; value = get_or lengths depth 0 })
