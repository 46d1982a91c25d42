-- The parts that the code takes of its tables are the stages' taps: each pattern is the f32 nearest to its printed decimal. Each stage lies inside its table.
use mathlib.Core.Path.{◌≡◌, refl, sym, ap, ◌∙◌}
use mathlib.Core.List.{List, []}
use Prim.Native.Nat.{ℕ, ◌+◌, ◌-◌, ◌≤◌, ◌<◌}
use lib.Dec.{lit≤}
use lib.ListN.{length, get_or, take, drop, get_or-eq_default}
use lib.Ieee.{Float}
use Rattle.half_band.specs.HbfTaps.{Table, stage_taps, decimation, interpolation}
use Rattle.half_band.specs.HbfTaps98.{decimation98}
use Rattle.half_band.specs.inner.FiveStages.{by_five}
use Rattle.half_band.proofs.Decimals.{patterns, taps_printed}
use Rattle.half_band.proofs.Decimals98.{patterns98, taps98_printed}

-- stage k, the j-th of the table, has so many taps from so far on
pub cut : (cells : List Float) (t : Table) → cells ≡ t.taps → (k j first count : ℕ) → k ≡ j → first ≡ get_or t.starts j 0 → count ≡ get_or t.lengths j 0 → take count (drop first cells) ≡ stage_taps t k
unfolding stage_taps
cut cells t e k j first count ek ef ec =
    ap (λ (n : ℕ). take n (drop first cells)) ec
    ∙ ap (λ (n : ℕ). take (get_or t.lengths j 0) (drop n cells)) ef
    ∙ ap (λ (l : List Float). take (get_or t.lengths j 0) (drop (get_or t.starts j 0) l)) e
    ∙ ap (stage_taps t) (sym ek)

-- behind the last stage there are none
pub past : (t : Table) (k : ℕ) → length t.lengths ≤ k → [] ≡ stage_taps t k
unfolding stage_taps
past t k h = ap (λ (n : ℕ). take n (drop (get_or t.starts k 0) t.taps)) (sym (get_or-eq_default t.lengths 0 h))

-- an interpolation runs the stages of a decimation from the last to the first
pub turned : (k : ℕ) → k < 5 → stage_taps decimation (5 - 1 - k) ≡ stage_taps interpolation k
unfolding stage_taps decimation interpolation
turned = by_five (λ k. stage_taps decimation (5 - 1 - k) ≡ stage_taps interpolation k) refl refl refl refl refl

pub turned_past : (k : ℕ) → 5 ≤ k → [] ≡ stage_taps interpolation k
unfolding interpolation
turned_past k h = past interpolation k h

-- the taps of stage k lie in the table
pub record Placed (cells first count : ℕ) : Type 0 where
  pub least : 1 ≤ count
  pub most : count ≤ 23
  pub inside : first + count ≤ cells

-- a table over the code's taps
pub record Fits (cells : List Float) (t : Table) : Type 0 where
  pub cells_are : cells ≡ t.taps
  pub placed : (k : ℕ) → k < 5 → Placed (length cells) (get_or t.starts k 0) (get_or t.lengths k 0)

pub dec_fits : Fits patterns decimation
unfolding decimation
dec_fits =
    record {
      cells_are = taps_printed;
      placed = by_five (λ k. Placed 45 (get_or decimation.starts k 0) (get_or decimation.lengths k 0)) (record { least = lit≤ tt; most = lit≤ tt; inside = lit≤ tt })
          (record { least = lit≤ tt; most = lit≤ tt; inside = lit≤ tt }) (record { least = lit≤ tt; most = lit≤ tt; inside = lit≤ tt })
          (record { least = lit≤ tt; most = lit≤ tt; inside = lit≤ tt }) (record { least = lit≤ tt; most = lit≤ tt; inside = lit≤ tt });
    }

pub dec98_fits : Fits patterns98 decimation98
unfolding decimation98
dec98_fits =
    record {
      cells_are = taps98_printed;
      placed = by_five (λ k. Placed 29 (get_or decimation98.starts k 0) (get_or decimation98.lengths k 0)) (record { least = lit≤ tt; most = lit≤ tt; inside = lit≤ tt })
          (record { least = lit≤ tt; most = lit≤ tt; inside = lit≤ tt }) (record { least = lit≤ tt; most = lit≤ tt; inside = lit≤ tt })
          (record { least = lit≤ tt; most = lit≤ tt; inside = lit≤ tt }) (record { least = lit≤ tt; most = lit≤ tt; inside = lit≤ tt });
    }

pub int_fits : Fits patterns interpolation
unfolding interpolation
int_fits =
    record {
      cells_are = taps_printed;
      placed = by_five (λ k. Placed 45 (get_or interpolation.starts k 0) (get_or interpolation.lengths k 0)) (record { least = lit≤ tt; most = lit≤ tt; inside = lit≤ tt })
          (record { least = lit≤ tt; most = lit≤ tt; inside = lit≤ tt }) (record { least = lit≤ tt; most = lit≤ tt; inside = lit≤ tt })
          (record { least = lit≤ tt; most = lit≤ tt; inside = lit≤ tt }) (record { least = lit≤ tt; most = lit≤ tt; inside = lit≤ tt });
    }

-- the two tables that a decimation runs
pub fits_of : (Fits patterns decimation) × (Fits patterns98 decimation98)
fits_of = (dec_fits, dec98_fits)

-- neither is longer than the first
pub few_cells : (length patterns ≤ 45) × (length patterns98 ≤ 45)
few_cells = (lit≤ tt, lit≤ tt)
