-- 01, "Gauge-board readings": the starred ones of the Q15 parts, as one list that the definitions satisfy.
use Rattle.std.specs.Prelude.{◌≡◌, [], ◌∷◌, ℤ, pos, negsuc, length}
use Rattle.q15.specs.PolyphaseDecimate.{decimated}
use Rattle.q15.specs.PolyphaseInterpolate.{interpolated}
use Rattle.q15.specs.ResampleLinear.{resampled}

pub record Hold : Type 0 where
  -- "FIR −1,−1 on taps 1,1: −2"
  pub floored_each : decimated (pos 1 ∷ pos 1 ∷ []) 1 (negsuc 0 ∷ negsuc 0 ∷ []) ≡ negsuc 1 ∷ []
  -- "−32768 on tap −32768: 32767"
  pub cut_above : decimated (negsuc 32767 ∷ []) 1 (negsuc 32767 ∷ []) ≡ pos 32767 ∷ []
  -- "n=5, T=3, D=2: two outputs; n=2: none"
  pub two_outputs : (c0 c1 c2 s0 s1 s2 s3 s4 : ℤ) → length (decimated (c0 ∷ c1 ∷ c2 ∷ []) 2 (s0 ∷ s1 ∷ s2 ∷ s3 ∷ s4 ∷ [])) ≡ 2
  pub no_output : (c0 c1 c2 s0 s1 : ℤ) → decimated (c0 ∷ c1 ∷ c2 ∷ []) 2 (s0 ∷ s1 ∷ []) ≡ []
  -- "Up L=2, taps 16384, 8192, sample 16384: 16384, 8192"
  pub up_two : interpolated (pos 16384 ∷ pos 8192 ∷ []) 2 (pos 16384 ∷ []) ≡ pos 16384 ∷ pos 8192 ∷ []
  -- "Linear 0,100 at 32768: 0, 50, 100, 100"
  pub halfway : resampled (pos 0 ∷ pos 100 ∷ []) 32768 4 ≡ pos 0 ∷ pos 50 ∷ pos 100 ∷ pos 100 ∷ []
  -- "−32768, 32767 at 65535: second output 32766"
  pub exact_product : resampled (negsuc 32767 ∷ pos 32767 ∷ []) 65535 2 ≡ negsuc 32767 ∷ pos 32766 ∷ []
