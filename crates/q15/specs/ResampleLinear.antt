-- 01, section 7, `resample_linear_q15`: a list s of n samples and a ratio in 1/65536ths of a sample.
use Rattle.std.specs.Prelude.{cond, List, ℕ, ◌+◌, ◌-◌, ◌*◌, ◌/◌, ◌%◌, leb, ltb, ℤ, pos, nat_abs, ◌*ℤ◌, ◌+ℤ◌, ◌-ℤ◌, length}
use Rattle.std.specs.Int.Signed.{lt_z}
use Rattle.refusal.specs.Outcome.{Answer}
use Rattle.theory.specs.Lists.{listed}
use Rattle.theory.specs.Floor.{floor_div}
use Rattle.q15.specs.Fixed.{at}
use Rattle.refusal.specs.Rows.{first_of}
use Rattle.q15.specs.Block.{samples_number, block_answer, block_span}

-- "floor((s1−s0) × frac / 65536)", for the difference d = s1−s0
unfoldable pub part_of : ℤ → ℕ → ℤ
part_of d frac = floor_div (d *ℤ pos frac) 65536

-- "s0 + floor((s1−s0) × frac / 65536)"
unfoldable pub between : ℤ → ℤ → ℕ → ℤ
between s0 s1 frac = s0 +ℤ part_of (s1 -ℤ s0) frac

-- the index of s1, of n samples: "s1 = s0 at the last"
abbrev pub next_index : ℕ → ℕ → ℕ
next_index n i = cond (ltb (i + 1) n) (i + 1) i

-- the value at a position in 1/65536ths of a sample: "past the end the last sample", else between the samples at its whole part and after
unfoldable pub linear_at : List ℤ → ℕ → ℤ
linear_at s position =
    cond (leb (length s) (position / 65536)) (at s (length s - 1))
    (between (at s (position / 65536)) (at s (next_index (length s) (position / 65536))) (position % 65536))

-- "output i at position i × ratio / 65536", for a span of m places
unfoldable pub resampled : List ℤ → ℕ → ℕ → List ℤ
resampled s ratio m = listed m (λ i. linear_at s (i * ratio))

-- rows 7 and 9: "ratio not above zero"
unfoldable pub linear_number : ℕ → ℕ → ℤ → ℕ
linear_number n m ratio = first_of (samples_number n m) (cond (lt_z (pos 0) ratio) 0 9)

module _ (s : List ℤ) (ratio : ℤ) (dst : List ℤ) where
  -- the whole span is written
  abbrev pub linear_answer : Answer ℕ
  linear_answer = block_answer (linear_number (length s) (length dst) ratio) (length dst)

  abbrev pub linear_span : List ℤ
  linear_span = block_span (linear_number (length s) (length dst) ratio) (resampled s (nat_abs ratio) (length dst)) dst
