-- The line's streaming FIR over a block of samples: what the section makes of them one after the other, where the block is taken.
use Rattle.std.specs.Prelude.{◌≡◌, Bool, cond, List, [], ◌∷◌, ◌++◌, ℕ, ◌-◌, ◌≤◌, leb, ℤ, length, drop}
use Rattle.std.specs.Int.{w16}
use Rattle.theory.specs.Sections.{state, outs}
use Rattle.q15.specs.Fixed.{cut_count}
use Rattle.q15.specs.FirDecimator.{most_taps, stored, summing, fir}
use Rattle.q15.specs.declared.fir_decimator.FirDecimator.{FirDecimator}
use Rattle.q15.specs.declared.block.FirBlock.{FirBlock}
use Rattle.q15.specs.declared.fir_settings.FirSettings.{FirSettings}

-- the most samples of a block
abbrev pub most_fir_block : ℕ
most_fir_block = 128

-- a block of n samples is taken whole or not at all
abbrev pub block_fits : ℕ → Bool
block_fits n = leb n most_fir_block

module _ (s : FirDecimator) (xs : List ℤ) where
  -- the state after a block
  abbrev pub fir_block_state : FirDecimator
  fir_block_state = cond (block_fits (length xs)) (state fir s xs) s

  -- its outputs
  abbrev pub fir_block_outs : List ℤ
  fir_block_outs = cond (block_fits (length xs)) (outs fir s xs) []

  -- 02, §4: how many of them were cut
  abbrev pub fir_block_cuts : ℕ
  fir_block_cuts = cond (block_fits (length xs)) (cut_count w16 (outs summing s xs)) 0

-- For the contracts of private functions: a block that is taken, from the state s to the state after; at exit its outputs stand in front of the span that held its samples
abbrev pub Ran : FirDecimator → List ℤ → FirBlock → FirDecimator → List ℤ → Type 0
Ran s xs r after span =
    (after ≡ state fir s xs) × (r.written ≡ length (outs fir s xs)) × (span ≡ outs fir s xs ++ drop r.written xs) × (r.cuts ≡ cut_count w16 (outs summing s xs))

-- windows that stand on a tape without gaps: D is not above T, and the wait is for the window in the delay
abbrev pub OnTape : ℕ → ℕ → ℕ → Type 0
OnTape T D w = (T ≤ most_taps) × (1 ≤ D) × (D ≤ T) × (1 ≤ w) × (w ≤ T)

-- samples stored one after the other, the first at the wait w
abbrev pub stored_run : ℕ → ℕ → List ℤ → List ℤ → List ℤ
stored_run T w [] d = d
stored_run T w (x ∷ xs) d = stored_run T (w - 1) xs (stored T w x d)

-- what a state was opened with
abbrev pub settings_of : FirDecimator → FirSettings
settings_of s = record { tap_count = s.tap_count; factor = s.factor }
