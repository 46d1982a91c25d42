-- How long each entry is, for arrays of their length and numbers in their limits.
use mathlib.Core.Path.{◌≡◌, refl, ◌∙◌}
use mathlib.Core.List.{List, ◌++◌}
use Prim.Native.Nat.{◌+◌, ◌*◌, ◌≤◌}
use native.Mathlib.Omega.{arith}
use lib.IntN.{ℤ}
use lib.ListN.{length, take, length-append}
use Rattle.integer.specs.declared.cic_decimator.CicDecimator.{CicDecimator}
use Rattle.q15.specs.FirDecimator.{most_taps}
use Rattle.q15.specs.declared.fir_decimator.FirDecimator.{FirDecimator}
use Rattle.float.specs.declared.polyphase_resamp.PolyphaseResampF32.{PolyphaseResampF32}
use Rattle.parking.specs.Parked.{neighbour_count}
use Rattle.words.specs.Fields.{joined, i16_bytes, i32_bytes, f32_bytes}
use Rattle.parking.specs.Entries.{cic_bytes, neighbours_bytes, tap_bytes, delay_bytes, prototype_bytes, resampler_bytes}
use Rattle.words.proofs.Loops.{joined_taken}

pub cic_long : (d : CicDecimator) → d.stages ≤ 8 → length d.integrator_state ≡ 8 → length d.comb_state ≡ 8 → length (cic_bytes d) ≡ 2 + 8 * d.stages
unfolding cic_bytes
cic_long d h i j =
    let a : length (joined i32_bytes (take d.stages d.integrator_state)) ≡ 4 * d.stages = joined_taken i32_bytes 4 (λ x. refl) d.stages d.integrator_state (omega arith) in
    let b : length (joined i32_bytes (take d.stages d.comb_state)) ≡ 4 * d.stages = joined_taken i32_bytes 4 (λ x. refl) d.stages d.comb_state (omega arith) in
    let c = length-append (joined i32_bytes (take d.stages d.integrator_state)) (joined i32_bytes (take d.stages d.comb_state)) in
    omega arith

pub fir_long : (f : FirDecimator) → f.tap_count ≤ most_taps → length f.taps ≡ most_taps → length f.delay ≡ most_taps → length (tap_bytes f ++ delay_bytes f) ≡ 2 + 4 * f.tap_count
unfolding tap_bytes delay_bytes
fir_long f h i j =
    let a : length (joined i16_bytes (take f.tap_count f.taps)) ≡ 2 * f.tap_count = joined_taken i16_bytes 2 (λ x. refl) f.tap_count f.taps (omega arith) in
    let b : length (joined i16_bytes (take f.tap_count f.delay)) ≡ 2 * f.tap_count = joined_taken i16_bytes 2 (λ x. refl) f.tap_count f.delay (omega arith) in
    length-append (joined i16_bytes (take f.tap_count f.taps)) (delay_bytes f) ∙ (omega arith)

pub resampler_long : (p : PolyphaseResampF32) → p.taps ≤ 16 → p.phases * p.taps ≤ 1024 → length p.delay ≡ 16 → length p.prototype ≡ 1024
    → length (prototype_bytes p ++ resampler_bytes p) ≡ 4 * (p.phases * p.taps) + (4 + 4 * p.taps)
unfolding prototype_bytes resampler_bytes
resampler_long p h k i j =
    let a : length (joined f32_bytes (take (p.phases * p.taps) p.prototype)) ≡ 4 * (p.phases * p.taps) = joined_taken f32_bytes 4 (λ x. refl) (p.phases * p.taps) p.prototype (omega arith) in
    let b : length (joined f32_bytes (take p.taps p.delay)) ≡ 4 * p.taps = joined_taken f32_bytes 4 (λ x. refl) p.taps p.delay (omega arith) in
    length-append (joined f32_bytes (take (p.phases * p.taps) p.prototype)) (resampler_bytes p) ∙ (omega arith)

pub delay_long : (f : FirDecimator) → f.tap_count ≤ most_taps → length f.delay ≡ most_taps → length (delay_bytes f) ≡ 2 + 2 * f.tap_count
unfolding delay_bytes
delay_long f h j =
    let b : length (joined i16_bytes (take f.tap_count f.delay)) ≡ 2 * f.tap_count = joined_taken i16_bytes 2 (λ x. refl) f.tap_count f.delay (omega arith) in
    omega arith

pub cells_long : (p : PolyphaseResampF32) → p.phases * p.taps ≤ 1024 → length p.prototype ≡ 1024 → length (prototype_bytes p) ≡ 4 * (p.phases * p.taps)
unfolding prototype_bytes
cells_long p k j = joined_taken f32_bytes 4 (λ x. refl) (p.phases * p.taps) p.prototype (omega arith)

pub neighbours_long : (d : CicDecimator) (n : List ℤ) → neighbour_count d.stages d.r ≤ 96 → length n ≡ 96 → length (neighbours_bytes d n) ≡ 2 + 4 * neighbour_count d.stages d.r
unfolding neighbours_bytes
neighbours_long d n h l =
    let a : length (joined i32_bytes (take (neighbour_count d.stages d.r) n)) ≡ 4 * neighbour_count d.stages d.r = joined_taken i32_bytes 4 (λ x. refl) (neighbour_count d.stages d.r) n (omega arith) in
    omega arith
