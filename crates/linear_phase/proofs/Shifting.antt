-- A delay moved down by n places, whole groups first and then the rest by its two ends: at each step it is what a loop over places would have made (`moved`).
use mathlib.Core.Path.{◌≡◌, sym, ap, ap₂, ◌∙◌}
use mathlib.Core.List.{List, ◌++◌, append-nil, append_assoc}
use Prim.Native.Nat.{ℕ, ◌+◌, ◌-◌, ◌≤◌}
use native.Mathlib.Nat.{add_comm}
use native.Mathlib.Omega.{arith}
use lib.ListN.{length, take, drop, length-drop, take-append-drop, drop_of_length-le}
use lib.Seq.{length-take-le, take_at, take-add, take_all, drop_at, drop-drop}
use lib.Ieee.{Float}
use Rattle.half_band.proofs.Moving.{moved}
use Rattle.linear_phase.specs.inner.Lanes.{put_in_front}
use Rattle.linear_phase.proofs.SideBySide.{rest}
use Rattle.linear_phase.proofs.Putting.{put_from}
use Rattle.linear_phase.proofs.Groups.{two_parts}

-- d with the sixteen places from `to` on moved
abbrev pub group_moved : List Float → ℕ → ℕ → List Float
group_moved d n to = take to d ++ (take 16 (drop (to + n) d) ++ drop (to + 16) d)

pub group_put : (d y part : List Float) (n to : ℕ) → to + n + 16 ≤ length d → y ≡ take 16 (take (length d - (to + n)) (drop (to + n) d)) → part ≡ put_in_front y (take (length d - to) (drop to d))
    → take to d ++ (part ++ drop (length d - to) (drop to d)) ≡ group_moved d n to
group_put d y part n to h e p = put_from 16 d y (drop (to + n) d) part to (e ∙ ap (take 16) (rest d (to + n))) (simp length-drop (omega arith)) (omega arith) p

-- so many places that N at each end are all of them
pub ends_down : (N n : ℕ) (r y z p : List Float) → N + n ≤ length r → length r ≤ N + N + n → y ≡ take N (take (length r - n) (drop n r))
    → z ≡ take N (take (length r - (length r - N)) (drop (length r - N) r)) → p ≡ take (length (take (length r - n) r) - length z) y ++ z → p ≡ drop n r
ends_down N n r y z p h g ey ez ep =
    ep
    ∙ ap₂ {C = List Float} (λ (a b : ℕ). take (a - b) y ++ z) (length-take-le (length r - n) r (omega arith)) (ap length z_is ∙ length-take-le N (drop (length r - n - N) (drop n r)) (simp length-drop (omega arith)))
    ∙ ap₂ {C = List Float} (λ (a b : List Float). take (length r - n - N) a ++ b) (ey ∙ ap (take N) (rest r n)) z_is
    ∙ two_parts (drop n r) (length r - n) N (omega arith) (omega arith)
    ∙ take_all (length r - n) (drop n r) (simp length-drop (omega arith))
  where
    z_is : z ≡ take N (drop (length r - n - N) (drop n r))
    z_is =
        let k : length r - N ≡ n + (length r - n - N) = omega arith in
        ez
        ∙ ap (take N) (rest r (length r - N))
        ∙ ap (λ (m : ℕ). take N (drop m r)) k
        ∙ ap (take N) (sym (drop-drop (length r - n - N) n r))

module _ (d : List Float) (n i : ℕ) (within : i + n ≤ length d) where
  front : length (take i (drop n d)) ≡ i
  front = length-take-le i (drop n d) (simp length-drop (omega arith))

  -- what lies from place i on is as it was
  behind : (k : ℕ) → drop (i + k) (moved d n i) ≡ drop (i + k) d
  behind k =
      sym (drop-drop k i (moved d n i))
      ∙ ap (drop k) (drop_at (take i (drop n d)) (drop i d) i front)
      ∙ drop-drop k i d

  pub group_next : group_moved (moved d n i) n i ≡ moved d n (i + 16)
  group_next =
      ap (λ (l : List Float). l ++ (take 16 (drop (i + n) (moved d n i)) ++ drop (i + 16) (moved d n i))) (take_at (take i (drop n d)) (drop i d) i front)
      ∙ ap₂ {C = List Float} (λ (l r : List Float). take i (drop n d) ++ (take 16 l ++ r)) (behind n ∙ sym later) (behind 16)
      ∙ sym (append_assoc (take i (drop n d)) (take 16 (drop i (drop n d))) (drop (i + 16) d))
      ∙ ap (λ (l : List Float). l ++ drop (i + 16) d) (sym (take-add i 16 (drop n d)))
    where
      later : drop i (drop n d) ≡ drop (i + n) d
      later = drop-drop i n d ∙ ap (λ (k : ℕ). drop k d) (add_comm n i)

  -- the rest moved too
  pub all_down : (part : List Float) → let e = moved d n i in let s = take (length e - i) (drop i e) in part ≡ drop n s ++ drop (length s - n) s
      → take i e ++ (part ++ drop (length e - i) (drop i e)) ≡ drop n d ++ drop (length d - n) d
  all_down part p =
      ap (λ (l : List Float). l ++ (part ++ drop (length e - i) (drop i e))) (take_at (take i (drop n d)) (drop i d) i front)
      ∙ ap₂ {C = List Float} (λ (l r : List Float). take i (drop n d) ++ (l ++ r)) here (drop_of_length-le (drop i e) {i = length e - i} (omega (arith, length-drop i e)))
      ∙ ap (λ (l : List Float). take i (drop n d) ++ l) (append-nil (drop (i + n) d ++ drop (length d - n) d))
      ∙ sym (append_assoc (take i (drop n d)) (drop (i + n) d) (drop (length d - n) d))
      ∙ ap (λ (l : List Float). l ++ drop (length d - n) d) (ap (λ (l : List Float). take i (drop n d) ++ l) (sym later) ∙ take-append-drop i (drop n d))
    where
      e : List Float
      e = moved d n i

      tail : take (length (moved d n i) - i) (drop i (moved d n i)) ≡ drop i d
      tail = rest (moved d n i) i ∙ drop_at (take i (drop n d)) (drop i d) i front

      last : i + (length (drop i d) - n) ≡ length d - n
      last = omega (arith, length-drop i d)

      here : part ≡ drop (i + n) d ++ drop (length d - n) d
      here =
          p
          ∙ ap (λ (s : List Float). drop n s ++ drop (length s - n) s) tail
          ∙ ap₂ {C = List Float} ◌++◌ (drop-drop n i d) (drop-drop (length (drop i d) - n) i d ∙ ap (λ (k : ℕ). drop k d) last)

      later : drop i (drop n d) ≡ drop (i + n) d
      later = drop-drop i n d ∙ ap (λ (k : ℕ). drop k d) (add_comm n i)
