-- 02, request 6, with what requests 7, 9 and 13 ask of it: a parked line as entries of a tap sheet, and the number with which a panel answers it. A panel is a parameter:
-- an older one is the same definition at other limits.
use Rattle.std.specs.Prelude.{Bool, true, false, cond, ◌&&◌, List, [], ◌∷◌, ◌++◌, ℕ, ◌+◌, ◌*◌, min, eqb, length, get_or}
use Rattle.theory.specs.Lists.{listed}
use Rattle.nonrecursive.specs.NonrecursiveDecimator.{halvings}
use Rattle.sheet.specs.Sheet.{Rule, former, present, le16, le32, count_of, sheet_number, part_at, bytes16, bytes32, written}

-- what a panel knows: the line's FIR limit (request 7), the rule of its sheets (request 9), and whether it thins without integrators (request 13)
pub record Panel : Type 0 where
  pub most_taps : ℕ
  pub rule : Rule
  pub thinning : Bool

abbrev pub at6 : Panel
at6 = record { most_taps = 64; rule = former; thinning = false }

abbrev pub at7 : Panel
at7 = record { most_taps = 128; rule = former; thinning = false }

abbrev pub at9 : Panel
at9 = record { most_taps = 128; rule = present; thinning = false }

abbrev pub at13 : Panel
at13 = record { most_taps = 128; rule = present; thinning = true }

-- the panel whose code this is
abbrev pub panel : Panel
panel = at13

-- ---- entry 0, "settings with the cut count"

pub record Settings : Type 0 where
  pub stages : ℕ
  pub r : ℕ
  pub taps : ℕ
  pub factor : ℕ
  pub depth : ℕ
  pub phases : ℕ
  pub phase_taps : ℕ
  pub straight : ℕ
  pub step : ℕ
  pub cuts : ℕ

unfoldable pub settings_bytes : Settings → List ℕ
settings_bytes s =
    bytes16 s.stages ++ (bytes16 s.r ++ (bytes16 s.taps ++ (bytes16 s.factor ++ (bytes16 s.depth ++ (bytes16 s.phases ++ (bytes16 s.phase_taps ++ (bytes16 s.straight ++ (bytes32 s.step ++ bytes32 s.cuts))))))))

unfoldable pub settings_of : List ℕ → Settings
settings_of e =
    record {
      stages = le16 e 0;
      r = le16 e 2;
      taps = le16 e 4;
      factor = le16 e 6;
      depth = le16 e 8;
      phases = le16 e 10;
      phase_taps = le16 e 12;
      straight = le16 e 14;
      step = le32 e 16;
      cuts = le32 e 20;
    }

-- ---- "Each entry is exactly as long as the settings entry's numbers make it, even where such a number is past its limit"

-- stages of 6 + 16M bytes, M = 3, 4, 5, 10, 23; "a depth over 5 counts as 5"
unfoldable pub half_band_bytes : ℕ → ℕ
half_band_bytes depth = get_or (0 ∷ 54 ∷ 124 ∷ 210 ∷ 376 ∷ 750 ∷ []) (min depth 5) 0

unfoldable pub sizes : Settings → List ℕ
sizes s =
    24 ∷ (2 + 8 * s.stages) ∷ (2 * s.taps) ∷ (2 + 2 * s.taps) ∷ half_band_bytes s.depth ∷ (4 * (s.phases * s.phase_taps)) ∷ (4 + 4 * s.phase_taps) ∷ []

-- request 13: "parked in eight entries, the CIC one empty, the last holding its place and then N neighbours for each halving of the factor, rounded down, that leaves at
-- least 1"
unfoldable pub neighbour_count : ℕ → ℕ → ℕ
neighbour_count N r = N * halvings r

unfoldable pub thin_sizes : Settings → List ℕ
thin_sizes s =
    24 ∷ 0 ∷ (2 * s.taps) ∷ (2 + 2 * s.taps) ∷ half_band_bytes s.depth ∷ (4 * (s.phases * s.phase_taps)) ∷ (4 + 4 * s.phase_taps) ∷ (2 + 4 * neighbour_count s.stages s.r) ∷ []

-- ---- the sheet

-- two lists of lengths are one
unfoldable pub same : List ℕ → List ℕ → Bool
same [] [] = true
same [] (n ∷ ns) = false
same (m ∷ ms) [] = false
same (m ∷ ms) (n ∷ ns) = eqb m n && same ms ns

unfoldable pub flat : List (List ℕ) → List ℕ
flat [] = []
flat (e ∷ es) = e ++ flat es

unfoldable pub lengths_of : List (List ℕ) → List ℕ
lengths_of [] = []
lengths_of (e ∷ es) = length e ∷ lengths_of es

-- a parked sheet of its entries
unfoldable pub parked : Rule → List (List ℕ) → List ℕ
parked rule es = written rule (flat es) (lengths_of es)

unfoldable pub entries_of : Rule → List ℕ → List (List ℕ)
entries_of rule b = listed (count_of rule b) (part_at b)

-- "21 when a parked sheet has another entry count or an entry of the wrong length"
unfoldable pub shaped : Panel → List (List ℕ) → Bool
shaped v es =
    cond (eqb (length es) 7) (same (lengths_of es) (sizes (settings_of (get_or es 0 []))))
    (cond (v.thinning && eqb (length es) 8) (same (lengths_of es) (thin_sizes (settings_of (get_or es 0 [])))) false)

-- "after 16 and 17; then 15 as for any state, or for fields that no parking writes": `fine`, of the FIR limit and the entries
unfoldable pub take_up_number : (ℕ → List (List ℕ) → Bool) → Panel → List ℕ → ℕ
take_up_number fine v b =
    cond (eqb (sheet_number v.rule b) 0)
    (cond (shaped v (entries_of v.rule b)) (cond (fine v.most_taps (entries_of v.rule b)) 0 15) 21)
    (sheet_number v.rule b)
