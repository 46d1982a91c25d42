-- That the tables have five stages, each of 1 to 23 taps: for the contracts of private functions.
use Rattle.std.specs.Prelude.{List, ℕ, zero, suc, ◌≤◌, ◌<◌, length, Float}
use Rattle.std.proofs.Common.{arith, lit≤}
use Rattle.half_band.specs.HbfTaps.{hbf_taps, stage_taps, decimation, interpolation}
use Rattle.half_band.specs.HbfTaps98.{hbf_taps98, decimation98}

-- five stages, each of 1 to 23 taps
pub record FiveStages (taps : ℕ → List Float) : Type 0 where
  pub least : (k : ℕ) → k < 5 → 1 ≤ length (taps k)
  pub most : (k : ℕ) → k < 5 → length (taps k) ≤ 23

-- what holds of five numbers holds below 5
pub by_five : (P : ℕ → Type 0) → P 0 → P 1 → P 2 → P 3 → P 4 → (k : ℕ) → k < 5 → P k
by_five P a b c d e zero h = a
by_five P a b c d e (suc zero) h = b
by_five P a b c d e (suc (suc zero)) h = c
by_five P a b c d e (suc (suc (suc zero))) h = d
by_five P a b c d e (suc (suc (suc (suc zero)))) h = e
by_five P a b c d e (suc (suc (suc (suc (suc k))))) h = absurd (omega arith)

pub decimation_five : FiveStages (stage_taps decimation)
unfolding stage_taps decimation hbf_taps
decimation_five =
    record {
      least = by_five (λ k. 1 ≤ length (stage_taps decimation k)) (lit≤ tt) (lit≤ tt) (lit≤ tt) (lit≤ tt) (lit≤ tt);
      most = by_five (λ k. length (stage_taps decimation k) ≤ 23) (lit≤ tt) (lit≤ tt) (lit≤ tt) (lit≤ tt) (lit≤ tt);
    }

pub interpolation_five : FiveStages (stage_taps interpolation)
unfolding stage_taps interpolation hbf_taps
interpolation_five =
    record {
      least = by_five (λ k. 1 ≤ length (stage_taps interpolation k)) (lit≤ tt) (lit≤ tt) (lit≤ tt) (lit≤ tt) (lit≤ tt);
      most = by_five (λ k. length (stage_taps interpolation k) ≤ 23) (lit≤ tt) (lit≤ tt) (lit≤ tt) (lit≤ tt) (lit≤ tt);
    }

pub decimation98_five : FiveStages (stage_taps decimation98)
unfolding stage_taps decimation98 hbf_taps98
decimation98_five =
    record {
      least = by_five (λ k. 1 ≤ length (stage_taps decimation98 k)) (lit≤ tt) (lit≤ tt) (lit≤ tt) (lit≤ tt) (lit≤ tt);
      most = by_five (λ k. length (stage_taps decimation98 k) ≤ 23) (lit≤ tt) (lit≤ tt) (lit≤ tt) (lit≤ tt) (lit≤ tt);
    }
