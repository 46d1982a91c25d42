-- A part of a list put back: it is found where it was put, what lies before and behind is as it was, and a part put back as it was changes nothing; of two
-- puts at one place the last stays, and two puts at places apart may change their order.
use mathlib.Core.Path.{◌≡◌, sym, ap, ◌∙◌}
use mathlib.Core.List.{List, ◌++◌, append_assoc}
use Prim.Native.Nat.{ℕ, ◌+◌, ◌-◌, ◌≤◌}
use native.Mathlib.Omega.{arith}
use lib.ListN.{length, take, drop, length-append, length-drop, take-append-drop}
use lib.Seq.{length-take-le, take_at, drop_at, take-append-le, take-append-add, drop-append-le, drop-append-add, take-take, take-add, drop-drop}
use lib.Ieee.{Float}
use Rattle.half_band.specs.Windows.{spliced}

pub splice_same : (from n : ℕ) (d : List Float) → spliced from n (take n (drop from d)) d ≡ d
splice_same from n d = ap (λ (t : List Float). take from d ++ t) (take-append-drop n (drop from d)) ∙ take-append-drop from d

module _ (from n : ℕ) (w d : List Float) (long : length w ≡ n) (room : from + n ≤ length d) where
  front : length (take from d) ≡ from
  front = length-take-le from d (omega arith)

  pub splice_found : take n (drop from (spliced from n w d)) ≡ w
  splice_found = ap (take n) (drop_at (take from d) (w ++ drop n (drop from d)) from front) ∙ take_at w (drop n (drop from d)) n long

  pub length_splice : length (spliced from n w d) ≡ length d
  length_splice =
      length-append (take from d) (w ++ drop n (drop from d))
      ∙ ap (λ (m : ℕ). length (take from d) + m) (length-append w (drop n (drop from d)) ∙ ap (λ (m : ℕ). length w + m) (length-drop n (drop from d) ∙ ap (λ (m : ℕ). m - n) (length-drop from d)))
      ∙ sum (length (take from d)) (length w) (length d) front long room
    where
      sum : (a b l : ℕ) → a ≡ from → b ≡ n → from + n ≤ l → a + (b + (l - from - n)) ≡ l
      sum a b l p q r = omega arith

  -- a part before it
  pub splice_before : (b m : ℕ) → b + m ≤ from → take m (drop b (spliced from n w d)) ≡ take m (drop b d)
  splice_before b m h = early (w ++ drop n (drop from d)) ∙ sym (early (drop from d)) ∙ ap (λ (t : List Float). take m (drop b t)) (take-append-drop from d)
    where
      early : (r : List Float) → take m (drop b (take from d ++ r)) ≡ take m (drop b (take from d))
      early r =
          ap (take m) (drop-append-le b (take from d) r (omega (arith, front)))
          ∙ take-append-le m (drop b (take from d)) r (simp length-drop (omega (arith, front)))

  -- and all behind it
  pub splice_after : (b : ℕ) → from + n ≤ b → drop b (spliced from n w d) ≡ drop b d
  splice_after b h =
      ap (drop b) (sym (append_assoc (take from d) w (drop n (drop from d))))
      ∙ ap (λ (k : ℕ). drop k ((take from d ++ w) ++ drop n (drop from d))) (place (length (take from d ++ w)) whole)
      ∙ drop-append-add (take from d ++ w) (drop n (drop from d)) (b - (from + n))
      ∙ ap (drop (b - (from + n))) (drop-drop n from d)
      ∙ drop-drop (b - (from + n)) (from + n) d
      ∙ ap (λ (k : ℕ). drop k d) back
    where
      whole : length (take from d ++ w) ≡ from + n
      whole = length-append (take from d) w ∙ ap (λ (k : ℕ). k + length w) front ∙ ap (λ (k : ℕ). from + k) long

      place : (l : ℕ) → l ≡ from + n → b ≡ l + (b - (from + n))
      place l e = omega arith

      back : from + n + (b - (from + n)) ≡ b
      back = omega arith

  -- another part in its place
  pub splice_again : (u : List Float) → spliced from n u (spliced from n w d) ≡ spliced from n u d
  splice_again u =
      ap (λ (t : List Float). t ++ (u ++ drop n (drop from (spliced from n w d)))) (take_at (take from d) (w ++ drop n (drop from d)) from front)
      ∙ ap (λ (t : List Float). take from d ++ (u ++ t)) (ap (drop n) (drop_at (take from d) (w ++ drop n (drop from d)) from front) ∙ drop_at w (drop n (drop from d)) n long)

  -- a part behind it
  pub splice_order : (b m : ℕ) (u : List Float) → from + n ≤ b → b ≤ length d → spliced b m u (spliced from n w d) ≡ spliced from n w (spliced b m u d)
  splice_order b m u behind inside =
      ap (λ (t : List Float). t ++ (u ++ drop m (drop b (spliced from n w d)))) left
      ∙ ap (λ (t : List Float). ((take from d ++ w) ++ between) ++ (u ++ drop m t)) (splice_after b behind)
      ∙ append_assoc (take from d ++ w) between rest
      ∙ append_assoc (take from d) w (between ++ rest)
      ∙ sym (ap (λ (t : List Float). t ++ (w ++ drop n (drop from (take b d ++ rest)))) first ∙ ap (λ (t : List Float). take from d ++ (w ++ t)) last)
    where
      gap : ℕ
      gap = b - (from + n)

      between : List Float
      between = take gap (drop (from + n) d)

      rest : List Float
      rest = u ++ drop m (drop b d)

      until : length (take b d) ≡ b
      until = length-take-le b d inside

      sum : b ≡ from + n + (b - (from + n))
      sum = omega arith

      place : b ≡ length (take from d ++ w) + (b - (from + n))
      place = sum ∙ ap (λ (k : ℕ). k + (b - (from + n))) (sym (length-append (take from d) w ∙ ap (λ (k : ℕ). k + length w) front ∙ ap (λ (k : ℕ). from + k) long))

      left : take b (spliced from n w d) ≡ (take from d ++ w) ++ between
      left =
          ap (take b) (sym (append_assoc (take from d) w (drop n (drop from d))))
          ∙ ap (λ (k : ℕ). take k ((take from d ++ w) ++ drop n (drop from d))) place
          ∙ take-append-add (take from d ++ w) (drop n (drop from d)) gap
          ∙ ap (λ (t : List Float). (take from d ++ w) ++ take gap t) (drop-drop n from d)

      first : take from (take b d ++ rest) ≡ take from d
      first = take-append-le from (take b d) rest (omega (arith, until)) ∙ take-take from b d (omega arith)

      middle : drop (from + n) (take b d) ≡ between
      middle =
          ap (λ (k : ℕ). drop (from + n) (take k d)) sum
          ∙ ap (drop (from + n)) (take-add (from + n) gap d)
          ∙ drop_at (take (from + n) d) between (from + n) (length-take-le (from + n) d (omega arith))

      last : drop n (drop from (take b d ++ rest)) ≡ between ++ rest
      last = drop-drop n from (take b d ++ rest) ∙ drop-append-le (from + n) (take b d) rest (omega (arith, until)) ∙ ap (λ (t : List Float). t ++ rest) middle
