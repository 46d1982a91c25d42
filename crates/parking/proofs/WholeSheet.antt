-- How long the entries of a line are, which are the sizes that its settings make, and how they stand one behind the other.
use mathlib.Core.Path.{◌≡◌}
use mathlib.Core.List.{List, [], ◌++◌}
use Prim.Native.Nat.{ℕ, ◌+◌, ◌*◌, ◌≤◌, min}
use native.Mathlib.Omega.{arith}
use lib.IntN.{ℤ}
use lib.ListN.{length, length-append}
use Rattle.integer.specs.declared.cic_decimator.CicDecimator.{CicDecimator}
use Rattle.q15.specs.declared.fir_decimator.FirDecimator.{FirDecimator}
use Rattle.half_band.specs.declared.hbf_stream.HbfStream.{HbfStream}
use Rattle.float.specs.declared.polyphase_resamp.PolyphaseResampF32.{PolyphaseResampF32}
use Rattle.parking.specs.Parked.{settings_bytes, sizes, thin_sizes, neighbour_count, flat, lengths_of, half_band_bytes}
use Rattle.parking.specs.Entries.{settings_in, cic_bytes, tap_bytes, delay_bytes, stages_bytes, prototype_bytes, resampler_bytes, entries_of, neighbours_bytes, thin_entries}
use Rattle.parking.specs.inner.Limits.{InLimits}
use Rattle.parking.specs.Lengths.{ArrayLengths}
use Rattle.parking.proofs.StageLengths.{stages_long, cells_most}
use Rattle.parking.proofs.EntryLengths.{cic_long, fir_long, resampler_long, delay_long, cells_long, neighbours_long}
use Rattle.parking.proofs.Thinned.{few_neighbours}

module _ (d : CicDecimator) (f : FirDecimator) (s : HbfStream) (p : PolyphaseResampF32) (cuts : ℕ) (a : ArrayLengths d f s p) (m : InLimits (settings_in d f s.depth p cuts)) where
  few_cells : p.phases * p.taps ≤ 1024
  unfolding settings_in
  few_cells = cells_most p.phases p.taps m.phases m.phase_taps

  depth_min : min s.depth 5 ≡ s.depth
  unfolding settings_in
  depth_min = let h = m.depth in omega arith

  cic_is : length (cic_bytes d) ≡ 2 + 8 * d.stages
  unfolding settings_in
  cic_is = cic_long d m.stages a.integrators a.combs

  fir_is : length (tap_bytes f ++ delay_bytes f) ≡ 2 + 4 * f.tap_count
  unfolding settings_in
  fir_is = fir_long f m.taps a.taps a.fir_delay

  taps_is : length (tap_bytes f) ≡ 2 * f.tap_count
  taps_is = let j = delay_is in let k = fir_is in let l = length-append (tap_bytes f) (delay_bytes f) in omega arith
    where
      delay_is : length (delay_bytes f) ≡ 2 + 2 * f.tap_count
      delay_is = delay_long f (unfold settings_in in m.taps) a.fir_delay

  stages_is : length (stages_bytes s s.depth) ≡ half_band_bytes s.depth
  unfolding settings_in
  stages_is = stages_long s a.delays s.depth m.depth

  floats_is : length (prototype_bytes p ++ resampler_bytes p) ≡ 4 * (p.phases * p.taps) + (4 + 4 * p.taps)
  unfolding settings_in
  floats_is = resampler_long p m.phase_taps few_cells a.delay a.prototype

  pub lengths_of_lem : lengths_of (entries_of d f s p cuts) ≡ sizes (settings_in d f s.depth p cuts)
  unfolding lengths_of entries_of sizes settings_in settings_bytes
  lengths_of_lem =
      let x = delay_long f m.taps a.fir_delay in
      let y = cells_long p few_cells a.prototype in
      let z : length (resampler_bytes p) ≡ 4 + 4 * p.taps = let k = floats_is in let l = length-append (prototype_bytes p) (resampler_bytes p) in omega arith in
      rw (cic_is, taps_is, x, depth_min, stages_is, y, z)

  pub depth_flat : flat (entries_of d f s p cuts) ≡ settings_bytes (settings_in d f s.depth p cuts) ++ (cic_bytes d ++ (tap_bytes f ++ (delay_bytes f ++ (stages_bytes s s.depth ++ (prototype_bytes p ++ (resampler_bytes p ++ []))))))
  unfolding flat entries_of
  depth_flat = rw depth_min

  -- ---- eight entries, the last of the neighbours n

  module _ (n : List ℤ) (ln : length n ≡ 96) where
    thin_is : length (neighbours_bytes d n) ≡ 2 + 4 * neighbour_count d.stages d.r
    unfolding settings_in
    thin_is = neighbours_long d n (few_neighbours d.stages d.r m.stages m.r) ln

    pub thin_lengths : lengths_of (thin_entries d n f s p cuts) ≡ thin_sizes (settings_in d f s.depth p cuts)
    unfolding lengths_of thin_entries thin_sizes settings_in settings_bytes
    thin_lengths =
        let x = delay_long f m.taps a.fir_delay in
        let y = cells_long p few_cells a.prototype in
        let z : length (resampler_bytes p) ≡ 4 + 4 * p.taps = let k = floats_is in let l = length-append (prototype_bytes p) (resampler_bytes p) in omega arith in
        rw (taps_is, x, depth_min, stages_is, y, z, thin_is)

    pub thin_flat : flat (thin_entries d n f s p cuts) ≡ settings_bytes (settings_in d f s.depth p cuts) ++ (tap_bytes f ++ (delay_bytes f ++ (stages_bytes s s.depth ++ (prototype_bytes p ++ (resampler_bytes p ++ (neighbours_bytes d n ++ []))))))
    unfolding flat thin_entries
    thin_flat = rw depth_min

pub thin_lengths_of :
    (d : CicDecimator) (n : List ℤ) (f : FirDecimator) (s : HbfStream) (p : PolyphaseResampF32) (cuts : ℕ) → ArrayLengths d f s p → length n ≡ 96 → InLimits (settings_in d f s.depth p cuts)
    → lengths_of (thin_entries d n f s p cuts) ≡ thin_sizes (settings_in d f s.depth p cuts)
thin_lengths_of d n f s p cuts a ln m = thin_lengths d f s p cuts a m n ln
