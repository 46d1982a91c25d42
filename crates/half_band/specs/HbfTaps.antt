-- 01, section 4: "with the `HBF_TAPS` of those lengths, each tap the f32 nearest to its printed decimal".
use Rattle.std.specs.Prelude.{List, [], ◌∷◌, Bool, true, false, ℕ, ◌^◌, get_or, take, drop, Float}
use Rattle.std.specs.Float.{binary32}
use Rattle.std.specs.Float.Ieee.{round}

-- the f32 nearest to n / 10 ^ k, below zero where `negative`
unfoldable pub printed : Bool → ℕ → ℕ → Float
printed negative n k = round binary32 negative n (10 ^ k)

-- the taps as the Rust prints them: 23 from 0 on, 10 from 23, 5 from 33, 4 from 38, 3 from 42
unfoldable pub hbf_taps : List Float
hbf_taps =
    printed false 760375795 15
    ∷ printed true 377494111 14
    ∷ printed false 126458559 13
    ∷ printed true 343188253 13
    ∷ printed false 810687478 13
    ∷ printed true 172971467 12
    ∷ printed false 340845059 12
    ∷ printed true 629522864 12
    ∷ printed false 110128831 11
    ∷ printed true 183933299 11
    ∷ printed false 295124926 11
    ∷ printed true 457290964 11
    ∷ printed false 687374176 11
    ∷ printed true 100656257 10
    ∷ printed false 144199840 10
    ∷ printed true 203025100 10
    ∷ printed false 282462332 10
    ∷ printed true 391128509 10
    ∷ printed false 544795658 10
    ∷ printed true 777002672 10
    ∷ printed false 117523452 9
    ∷ printed true 206185388 9
    ∷ printed false 634588695 9
    ∷ printed true 112811343 13
    ∷ printed false 112724671 12
    ∷ printed true 607439343 12
    ∷ printed false 231904511 11
    ∷ printed true 700322950 11
    ∷ printed false 178225473 10
    ∷ printed true 401209836 10
    ∷ printed false 843315989 10
    ∷ printed true 183189521 9
    ∷ printed false 626346521 9
    ∷ printed false 7686 7
    ∷ printed true 768669 8
    ∷ printed false 386536 7
    ∷ printed true 14002434 8
    ∷ printed false 60828885 8
    ∷ printed true 261331 8
    ∷ printed false 2476858 8
    ∷ printed true 12112638 8
    ∷ printed false 59897111 8
    ∷ printed false 1186105 8
    ∷ printed true 9808109 8
    ∷ printed false 58622005 8
    ∷ []

-- a cascade's stages, as where each stage's taps begin in a table and how many they are
pub record Table : Type 0 where
  pub taps : List Float
  pub starts : List ℕ
  pub lengths : List ℕ

-- the taps of stage k
unfoldable pub stage_taps : Table → ℕ → List Float
stage_taps t k = take (get_or t.lengths k 0) (drop (get_or t.starts k 0) t.taps)

-- "`HbfDecCascade` of depth d runs the first d of M = 3, 4, 5, 10, 23"
unfoldable pub decimation : Table
decimation = record { taps = hbf_taps; starts = 42 ∷ 38 ∷ 33 ∷ 23 ∷ 0 ∷ []; lengths = 3 ∷ 4 ∷ 5 ∷ 10 ∷ 23 ∷ [] }

-- "`HbfIntCascade` runs M = 23, 10, 5, 4, 3"
unfoldable pub interpolation : Table
interpolation = record { taps = hbf_taps; starts = 0 ∷ 23 ∷ 33 ∷ 38 ∷ 42 ∷ []; lengths = 23 ∷ 10 ∷ 5 ∷ 4 ∷ 3 ∷ [] }
