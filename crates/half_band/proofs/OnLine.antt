-- A window and values stand in a row in front of a line: behind as many places as there are values is the window left, and the line's windows give the outputs of their pairs.
use Rattle.std.proofs.Common.{◌≡◌, ℕ, ◌+◌, ◌-◌, ◌*◌, ◌≤◌, List, ◌++◌, length, take, drop, sym, ap, ap₂, ◌∙◌, arith, take_at, drop_at, Float}
use Rattle.theory.specs.Sections.{state, outs}
use Rattle.half_band.specs.Windows.{pairs}
use Rattle.half_band.specs.inner.Decimator.{decimator}
use Rattle.float.proofs.Laid.{tape_last}
use Rattle.half_band.proofs.PairsAlong.{state_along}

module _ (c line w v : List Float) (n : ℕ) (some : 1 ≤ length c) (window_long : length w ≡ 4 * length c) (values_long : length v ≡ 2 * n) (fits : length w + 2 * n ≤ length line)
    (in_a_row : take (length w + length v) line ≡ w ++ v) where
  whole : take (2 * n + length w) line ≡ w ++ v
  whole = ap (λ (k : ℕ). take k line) sum ∙ in_a_row
    where
      sum : 2 * n + length w ≡ length w + length v
      sum = omega (arith, values_long)

  pub window_left : take (2 * n + length w - 2 * n) (drop (2 * n) line) ≡ state (decimator c) w (pairs v)
  window_left =
      ap (λ (k : ℕ). take (k + length w - k) (drop k line)) (sym values_long)
      ∙ tape_last line w v (omega (arith, values_long)) in_a_row
      ∙ sym (state_along c v w n (omega arith) values_long)

  pub made : outs (decimator c) (take (4 * length c) (take (2 * n + length w) line)) (pairs (drop (4 * length c) (take (2 * n + length w) line))) ≡ outs (decimator c) w (pairs v)
  made =
      ap (λ (t : List Float). outs (decimator c) (take (4 * length c) t) (pairs (drop (4 * length c) t))) whole
      ∙ ap₂ {C = List Float} (λ (x y : List Float). outs (decimator c) x (pairs y)) (take_at w v (4 * length c) window_long) (drop_at w v (4 * length c) window_long)
