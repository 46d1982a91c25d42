-- 01, sections 1 and 7, moving sums of whole lists. Section 1: "Output k is made at sample (k+1)r−1 and is, modulo 2^32 as i32, the N-fold length-r moving sum there (Hogenauer 1981)."
use Rattle.std.specs.Prelude.{ℕ, zero, suc, ◌+◌, ◌-◌, ◌*◌, ◌/◌, ◌%◌, ◌^◌, cond, List, length, ℤ, pos, ◌+ℤ◌, ◌==◌, slice_index_or}
use Rattle.std.specs.Int.{w32}
use Rattle.theory.specs.Floor.{floor_div}
use Rattle.theory.specs.Lists.{listed}
use Rattle.theory.specs.Wrap.{wrap}
use Rattle.integer.specs.Gain.{gain_bits}

-- an integer for each time, counted from 0
abbrev pub Signal : Type 0
Signal = ℕ → ℤ

-- a list of samples as a signal, zero after the last
abbrev pub signal_of : List ℤ → Signal
signal_of w t = slice_index_or w t (pos 0)

-- one step later; "Samples before the start are zero"
abbrev pub delay : Signal → Signal
delay f zero = pos 0
delay f (suc t) = f t

-- f t + f (t − 1) + .., r summands
abbrev pub moving_sum : ℕ → Signal → Signal
moving_sum zero f t = pos 0
moving_sum (suc r) f t = f t +ℤ moving_sum r (delay f) t

-- g, N times over
abbrev pub fold : ℕ → (Signal → Signal) → Signal → Signal
fold zero g f = f
fold (suc N) g f = fold N g (g f)

-- output k
abbrev pub sum_at : ℕ → ℕ → Signal → ℕ → ℤ
sum_at N r x k = wrap w32 (fold N (moving_sum r) x ((k + 1) * r - 1))

-- section 6: "in section 1, floor(n/r) .. sums"
unfoldable pub sums : ℕ → ℕ → List ℤ → List ℤ
sums N r w = listed (length w / r) (sum_at N r (signal_of w))

-- "`process_sample_scaled` yields floor(sum / 2^g)"
unfoldable pub scaled_sums : ℕ → ℕ → List ℤ → List ℤ
scaled_sums N r w = listed (length w / r) (λ k. floor_div (sum_at N r (signal_of w) k) (2 ^ gain_bits N r))

-- section 7: "inputs each followed by r−1 zeros"
abbrev pub stuffed : ℕ → Signal → Signal
stuffed r f t = cond (t % r == 0) (f (t / r)) (pos 0)

-- "the N-fold length-r moving sum, modulo 2^32" of them, r outputs for each of a list's samples
unfoldable pub stuffed_sums : ℕ → ℕ → List ℤ → List ℤ
stuffed_sums N r w = listed (length w * r) (λ t. wrap w32 (fold N (moving_sum r) (stuffed r (signal_of w)) t))
