-- 01, "Where each call is turned back", for a block of samples: "The first that applies, downward, is returned", as its number, and 0 where none applies.
use Rattle.std.specs.Prelude.{cond, List, ◌++◌, ℕ, zero, suc, ℤ, Result, length, take, drop}
use Rattle.std.specs.Int.{w16}
use Rattle.refusal.specs.declared.Refusal.{Refusal}
use Rattle.refusal.specs.Outcome.{Answer, number_in, value_in}
use Rattle.refusal.specs.Rows.{outside, most_block, samples_refused, first_of}
use Rattle.q15.specs.Fixed.{cut_count}
use Rattle.q15.specs.declared.block.FirBlock.{FirBlock}

-- the largest factor
abbrev pub most_factor : ℕ
most_factor = 4096

-- row 7 for n samples and a span of m places: "samples empty, or samples or span over 65,536"
unfoldable pub samples_number : ℕ → ℕ → ℕ
samples_number n m = cond (samples_refused n m) 7 0

-- rows 5 and 6 for a factor and T taps: "factor not 1..4,096", "taps empty or over" the most that there may be
unfoldable pub fir_number : ℕ → ℕ → ℕ → ℕ
fir_number most factor T = cond (outside factor 1 most_factor) 5 (cond (outside T 1 most) 6 0)

-- rows 5 to 7 for a factor, T taps, n samples and m places: "taps empty or over 65,536"
unfoldable pub block_number : ℕ → ℕ → ℕ → ℕ → ℕ
block_number factor T n m = first_of (fir_number most_block factor T) (samples_number n m)

-- the outputs from the front of the span, as many as it has places for, and the unwritten places as lent
unfoldable pub written : List ℤ → List ℤ → List ℤ
written outputs dst = take (length dst) outputs ++ drop (length outputs) dst

-- the answer and the span at exit of a block that writes `count` of `outputs`, or is turned back by a number: "Nothing is written", "The counts and values of
-- a refusal are 0"
abbrev pub block_answer : ℕ → ℕ → Answer ℕ
block_answer zero count = record { number = 0; value = count }
block_answer (suc q) count = record { number = suc q; value = 0 }

abbrev pub block_span : ℕ → List ℤ → List ℤ → List ℤ
block_span zero outputs dst = written outputs dst
block_span (suc q) outputs dst = dst

-- 02, §4: how many of the outputs that were written were cut, by the sums that they were cut from; "The counts .. of a refusal are 0"
abbrev pub block_cuts : ℕ → List ℤ → List ℤ → ℕ
block_cuts zero sums dst = cut_count w16 (take (length dst) sums)
block_cuts (suc q) sums dst = 0

-- a FIR block's result as that answer, and how many of its outputs were cut
abbrev pub none_written : FirBlock
none_written = record { written = 0; cuts = 0 }

abbrev pub told_block : Result FirBlock Refusal → Answer ℕ
told_block r = record { number = number_in r; value = (value_in none_written r).written }

abbrev pub told_cuts : Result FirBlock Refusal → ℕ
told_cuts r = (value_in none_written r).cuts
