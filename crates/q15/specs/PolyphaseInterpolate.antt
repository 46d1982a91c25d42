-- 01, section 7, `polyphase_interpolate_q15`: factor L, K = taps/L, a list s of n samples.
use Rattle.std.specs.Prelude.{cond, List, ℕ, ◌+◌, ◌-◌, ◌*◌, ◌/◌, ◌%◌, min, leb, eqb, ℤ, pos, ◌*ℤ◌, length}
use Rattle.std.specs.Int.{w16}
use Rattle.refusal.specs.Outcome.{Answer}
use Rattle.theory.specs.Lists.{listed}
use Rattle.q15.specs.Fixed.{cut}
use Rattle.q15.specs.FirSum.{fir_sum}
use Rattle.refusal.specs.Rows.{first_of}
use Rattle.q15.specs.Block.{block_number, block_answer, block_span, block_cuts}

-- "L × sum over t<K of floor(s[i+t] × c[tL+p] / 32768)"
abbrev pub phase_sum : List ℤ → ℕ → ℕ → List ℤ → ℕ → ℕ → ℤ
phase_sum c L K s i p = pos L *ℤ fir_sum (λ t. t * L + p) c K s i

-- "output iL+p is the cut of" it
unfoldable pub phase_output : List ℤ → ℕ → ℕ → List ℤ → ℕ → ℕ → ℤ
phase_output c L K s i p = cut w16 (phase_sum c L K s i p)

-- "(n−K+1) × L, 0 where n < K"
abbrev pub interpolated_count : ℕ → ℕ → ℕ → ℕ
interpolated_count K L n = cond (leb K n) ((n - K + 1) * L) 0

-- the outputs of the whole list, output j = iL+p at sample i = floor(j/L) and phase p, the rest
unfoldable pub interpolated : List ℤ → ℕ → List ℤ → List ℤ
interpolated c L s = listed (interpolated_count (length c / L) L (length s)) (λ j. phase_output c L (length c / L) s (j / L) (j % L))

-- 02, §4: the sums of the whole list before they are cut
unfoldable pub phase_sums : List ℤ → ℕ → List ℤ → List ℤ
phase_sums c L s = listed (interpolated_count (length c / L) L (length s)) (λ j. phase_sum c L (length c / L) s (j / L) (j % L))

-- rows 5 to 7, and 8: "taps not a multiple of L"
unfoldable pub interpolate_number : ℕ → ℕ → ℕ → ℕ → ℕ
interpolate_number L T n m = first_of (block_number L T n m) (cond (eqb (T % L) 0) 0 8)

module _ (c : List ℤ) (L : ℕ) (s dst : List ℤ) where
  -- "Count: min(span, ..)"
  abbrev pub interpolate_answer : Answer ℕ
  interpolate_answer =
      block_answer (interpolate_number L (length c) (length s) (length dst)) (min (length dst) (interpolated_count (length c / L) L (length s)))

  abbrev pub interpolate_span : List ℤ
  interpolate_span = block_span (interpolate_number L (length c) (length s) (length dst)) (interpolated c L s) dst

  -- "the FIR sums hand that on": how many of the outputs written were cut
  abbrev pub interpolate_cuts : ℕ
  interpolate_cuts = block_cuts (interpolate_number L (length c) (length s) (length dst)) (phase_sums c L s) dst
