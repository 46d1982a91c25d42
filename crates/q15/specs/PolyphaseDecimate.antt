-- 01, section 3, `polyphase_decimate_q15`: taps c of length T, factor D, a list s of n samples.
use Rattle.std.specs.Prelude.{cond, List, ℕ, ◌+◌, ◌-◌, ◌*◌, ◌/◌, min, leb, ℤ, length}
use Rattle.std.specs.Int.{w16}
use Rattle.refusal.specs.Outcome.{Answer}
use Rattle.theory.specs.Lists.{listed}
use Rattle.q15.specs.Fixed.{cut}
use Rattle.q15.specs.FirSum.{fir_sum}
use Rattle.q15.specs.Block.{block_number, block_answer, block_span, block_cuts}

-- "the sum over t of floor(s[iD+t] × c[t] / 32768), t from 0 to T−1", for the samples from `from` = iD on
abbrev pub window_sum : List ℤ → ℕ → List ℤ → ℕ → ℤ
window_sum c T s from = fir_sum (λ t. t) c T s from

-- "the cut to 16 bits of" it
unfoldable pub filtered : List ℤ → ℕ → List ℤ → ℕ → ℤ
filtered c T s from = cut w16 (window_sum c T s from)

-- "floor((n−T)/D)+1, or 0 where n < T"
abbrev pub decimated_count : ℕ → ℕ → ℕ → ℕ
decimated_count T D n = cond (leb T n) ((n - T) / D + 1) 0

-- 02, §4: the sums of the whole list before they are cut
unfoldable pub fir_sums : List ℤ → ℕ → List ℤ → List ℤ
fir_sums c D s = listed (decimated_count (length c) D (length s)) (λ i. window_sum c (length c) s (i * D))

-- the outputs of the whole list, output i at the samples from iD on
unfoldable pub decimated : List ℤ → ℕ → List ℤ → List ℤ
decimated c D s = listed (decimated_count (length c) D (length s)) (λ i. filtered c (length c) s (i * D))

module _ (c : List ℤ) (D : ℕ) (s dst : List ℤ) where
  -- "Count: the smaller of the span and .."
  abbrev pub decimate_answer : Answer ℕ
  decimate_answer = block_answer (block_number D (length c) (length s) (length dst)) (min (length dst) (decimated_count (length c) D (length s)))

  abbrev pub decimate_span : List ℤ
  decimate_span = block_span (block_number D (length c) (length s) (length dst)) (decimated c D s) dst

  -- "the FIR sums hand that on": how many of the outputs written were cut
  abbrev pub decimate_cuts : ℕ
  decimate_cuts = block_cuts (block_number D (length c) (length s) (length dst)) (fir_sums c D s) dst
