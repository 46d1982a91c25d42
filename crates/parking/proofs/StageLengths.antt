-- How long the half-band entry is, stage by stage, for arrays of their length.
use mathlib.Core.Path.{◌≡◌, refl, sym, ap₂, ◌∙◌}
use Prim.Native.Nat.{ℕ, zero, suc, ◌+◌, ◌*◌, ◌≤◌, ◌<◌}
use native.Mathlib.Nat.{mul-le-mul}
use native.Mathlib.Omega.{arith}
use native.Mathlib.Decide.{dec_lt}
use lib.ListN.{length, take, drop, length-append, length-drop}
use Rattle.half_band.specs.declared.hbf_stream.HbfStream.{HbfStream}
use Rattle.parking.specs.Parked.{half_band_bytes}
use Rattle.words.specs.Fields.{joined, f32_bytes}
use Rattle.parking.specs.Entries.{window_of, stage_bytes, stages_bytes}
use Rattle.parking.proofs.WholeFloats.{window_most}
use Rattle.words.proofs.Loops.{joined_taken}
use Rattle.parking.proofs.Back.{bytes_more}

module _ (s : HbfStream) (l : length s.delays ≡ 480) where
  pub stage_long : (k : ℕ) → k < 5 → length (stage_bytes s k) ≡ 6 + 4 * window_of k
  unfolding stage_bytes
  stage_long k h =
      let m = window_most k h in
      let a : length (joined f32_bytes (take (window_of k) (drop (96 * k) s.delays))) ≡ 4 * window_of k =
      joined_taken f32_bytes 4 (λ x. refl) (window_of k) (drop (96 * k) s.delays) (rw (length-drop (96 * k) s.delays, l) (omega arith)) in
      omega arith

  pub stages_long : (k : ℕ) → k ≤ 5 → length (stages_bytes s k) ≡ half_band_bytes k
  unfolding stages_bytes
  stages_long zero h = unfold half_band_bytes in refl
  stages_long (suc k) h =
      let b : k < 5 = omega arith in
      length-append (stages_bytes s k) (stage_bytes s k) ∙ ap₂ {C = ℕ} (λ (a b : ℕ). a + b) (stages_long k (omega arith)) (stage_long k b) ∙ sym (bytes_more k b)

-- more stages have more bytes
pub bytes_mono : (k n : ℕ) → n ≤ 5 → k ≤ n → half_band_bytes k ≤ half_band_bytes n
bytes_mono k zero f h = let e : k ≡ 0 = omega arith in rw e (omega arith)
bytes_mono k (suc n) f h = elim (dec_lt n k) [
  | yes l ↦ (let e : k ≡ suc n = omega arith in rw e (omega arith))
  | no l ↦ (let i = bytes_mono k n (omega arith) (omega arith) in let m = bytes_more n (omega arith) in omega arith)
]

pub bytes_most : (n : ℕ) → n ≤ 5 → half_band_bytes n ≤ 750
bytes_most n h = let m = bytes_mono n 5 (omega arith) h in let e : half_band_bytes 5 ≡ 750 = unfold half_band_bytes in refl in omega arith

pub cells_most : (P T : ℕ) → P ≤ 64 → T ≤ 16 → P * T ≤ 1024
cells_most P T p t = mul-le-mul p t
