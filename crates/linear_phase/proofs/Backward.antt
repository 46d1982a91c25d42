-- Outputs made from the last group on: the windows of a group lie on the tape or among the samples, and in place nothing that they read is written yet.
use mathlib.Core.Path.{◌≡◌, refl, sym, ap, ap₂, ◌∙◌}
use mathlib.Core.Bool.{Bool, true, false}
use mathlib.Core.List.{List, ◌++◌, append-nil}
use Prim.Native.Nat.{ℕ, suc, ◌+◌, ◌-◌, ◌≤◌, ◌<◌, min}
use native.Mathlib.Omega.{arith}
use borrow.Author.Tests.{ltb-true, ltb-false}
use lib.Dec.{ltb}
use Rattle.std.specs.Prelude.{Option, Some, None, unwrap_or}
use lib.ListN.{length, get_or, take, drop, length-append, length-drop, drop_of_length-le}
use lib.Seq.{length-take-le, take-add, take-take, take-append-le, take-append-add, drop_at, drop-append-add, drop-drop}
use lib.Ieee.{Float, nan}
use Rattle.theory.specs.Lists.{listed}
use Rattle.theory.proofs.Listed.{length_listed}
use Rattle.q15.proofs.Filling.{listed_more, listed_ext}
use Rattle.linear_phase.specs.Windows.{window_value}
use Rattle.linear_phase.specs.inner.Lanes.{window_values, put_in_front, picked, window_start, OnTape}
use Rattle.linear_phase.proofs.SideBySide.{output_at, values_long}
use Rattle.linear_phase.proofs.Tapes.{taken_from}

-- as many samples as r stand on the tape behind the delay
module _ (long : ℕ) (tape v : List Float) (r : ℕ) (room : long + r ≤ length tape) (enough : r ≤ length v) (same : take r (drop long tape) ≡ take r v) where
  in_front : length (take long tape) ≡ long
  in_front = length-take-le long tape (omega arith)

  -- a window that begins before them
  window_on : (i : ℕ) → i < r → take (suc long) (drop i tape) ≡ take (suc long) (drop i (take long tape ++ v))
  window_on i h =
      sym (taken_from tape (long + r) i (suc long) (omega arith) room)
      ∙ ap (λ (l : List Float). take (suc long) (drop i l)) front
      ∙ taken_from (take long tape ++ v) (long + r) i (suc long) (omega arith) (omega (arith, length-append (take long tape) v, in_front))
    where
      front : take (long + r) tape ≡ take (long + r) (take long tape ++ v)
      front =
          take-add long r tape
          ∙ ap (λ (l : List Float). take long tape ++ l) same
          ∙ sym (take-append-add (take long tape) v r)
          ∙ ap (λ (k : ℕ). take (k + r) (take long tape ++ v)) in_front

  -- the outputs of windows that all begin there
  few_values : (odd antisymmetric : Bool) (c : List Float) (end : ℕ) → end ≤ r
      → window_values odd antisymmetric c long tape end ≡ listed end (λ i. window_value odd antisymmetric c (take (suc long) (drop i (take long tape ++ v))))
  unfolding window_values
  few_values odd antisymmetric c end h =
      listed_ext end (λ i. window_value odd antisymmetric c (take (suc long) (drop i tape))) (λ i. window_value odd antisymmetric c (take (suc long) (drop i (take long tape ++ v))))
      (λ i l. ap (window_value odd antisymmetric c) (window_on i (omega arith)))

module _ (long : ℕ) (tape v : List Float) (n : ℕ) (room : long + min n (long + 16) ≤ length tape) (on : OnTape long tape v n) where
  -- delay and samples
  abbrev line : List Float
  line = take long tape ++ v

  delay_long : length (take long tape) ≡ long
  delay_long = length-take-le long tape (omega arith)

  -- a window that begins in the delay
  on_tape : (i : ℕ) → i < n → i < long + 16 → take (suc long) (drop i tape) ≡ take (suc long) (drop i line)
  on_tape i h g = window_on long tape v (min n (long + 16)) room (omega (arith, on.all)) on.same i (omega arith)

  -- and one among the samples
  among : (i : ℕ) → drop i v ≡ drop (long + i) line
  among i = sym (drop-append-add (take long tape) v i) ∙ ap (λ (k : ℕ). drop (k + i) line) delay_long

  -- the k-th window of the group before `end`, which begins at output `at`; of the span e the places before `end` are as they were
  module _ (front : Bool) (src : Option (List Float)) (at end : ℕ) (e : List Float) (is_front : front ≡ ltb at long) (begins : at ≡ end - 16) (whole : 16 ≤ end) (most : end ≤ n)
      (source : (s : List Float) → src ≡ Some s → s ≡ v) (unwritten : src ≡ None → take end e ≡ take end v) (same : length e ≡ n) where
    early : front ≡ true → at < long
    early f = ltb-true at long (sym is_front ∙ f)

    late : front ≡ false → long ≤ at
    late f = ltb-false at long (sym is_front ∙ f)

    group_window : (k : ℕ) → k < end - at → take (suc long) (drop (window_start front at long + k) (picked front tape (unwrap_or src e))) ≡ take (suc long) (drop (at + k) line)
    unfolding window_start picked
    group_window k l = cases front src refl refl
      where
        later : long ≤ at → take (suc long) (drop (at - long + k) v) ≡ take (suc long) (drop (at + k) line)
        later h =
            let i : long + (at - long + k) ≡ at + k = omega arith in
            ap (take (suc long)) (among (at - long + k)) ∙ ap (λ (j : ℕ). take (suc long) (drop j line)) i

        cases : (f : Bool) (o : Option (List Float)) → front ≡ f → src ≡ o → take (suc long) (drop (window_start f at long + k) (picked f tape (unwrap_or o e))) ≡ take (suc long) (drop (at + k) line)
        cases true o p q = let h = early p in on_tape (at + k) (omega arith) (omega arith)
        cases false (Some s) p q = ap (λ (s : List Float). take (suc long) (drop (at - long + k) s)) (source s q) ∙ later (late p)
        cases false None p q =
            let h = late p in
            sym (taken_from e end (at - long + k) (suc long) (omega arith) (omega arith))
            ∙ ap (λ (s : List Float). take (suc long) (drop (at - long + k) s)) (unwritten q)
            ∙ taken_from v end (at - long + k) (suc long) (omega arith) (omega (arith, on.all))
            ∙ later h

    -- a whole group of windows fits
    group_fits : 1 ≤ long → window_start front at long + (long + 16) ≤ length (picked front tape (unwrap_or src e))
    unfolding window_start picked
    group_fits some_delay = cases front src refl refl
      where
        cases : (f : Bool) (o : Option (List Float)) → front ≡ f → src ≡ o → window_start f at long + (long + 16) ≤ length (picked f tape (unwrap_or o e))
        cases true o p q = let h = early p in omega arith
        cases false (Some s) p q = let h = late p in omega (arith, ap length (source s q), on.all)
        cases false None p q = let h = late p in omega arith

-- ---- a span d whose places from `end` on are written: they are outputs g
abbrev from : (ℕ → Float) → List Float → ℕ → List Float
from g d end = listed (length d - end) (λ k. g (end + k))

pub record Written (g : ℕ → Float) (d e : List Float) (end : ℕ) : Type 0 where
  pub most : end ≤ length d
  pub is : e ≡ take end d ++ from g d end

module _ (g : ℕ → Float) (d e : List Float) (end : ℕ) (w : Written g d e end) where
  front_long : length (take end d) ≡ end
  front_long = length-take-le end d w.most

  back_long : length e ≡ length d
  back_long = ap length w.is ∙ length-append (take end d) (from g d end) ∙ omega (arith, w.most, front_long, length_listed (length d - end) (λ k. g (end + k)))

  still : take end e ≡ take end d
  still = ap (take end) w.is ∙ take-append-le end (take end d) (from g d end) (omega (arith, front_long)) ∙ take-take end end d (omega arith)

  written_behind : drop end e ≡ from g d end
  written_behind = ap (drop end) w.is ∙ drop_at (take end d) (from g d end) end front_long

  -- a group more
  group_back : (y part : List Float) (at : ℕ) → at ≤ end → end - at ≤ length y → ((k : ℕ) → k < end - at → get_or y k nan ≡ g (at + k))
      → part ≡ put_in_front y (take (end - at) (drop at e)) → Written g d (take at e ++ (part ++ drop (end - at) (drop at e))) at
  unfolding put_in_front
  group_back y part at before enough each p =
      record {
        most = omega (arith, w.most);
        is =
            ap (λ (l : List Float). l ++ (part ++ drop (end - at) (drop at e))) (sym (take-take at end e before) ∙ ap (take at) still ∙ take-take at end d before)
            ∙ ap (λ (l : List Float). take at d ++ (part ++ l)) behind
            ∙ ap (λ (l : List Float). take at d ++ (l ++ from g d end)) written
            ∙ ap (λ (l : List Float). take at d ++ l) joined;
      }
    where
      places : length (take (end - at) (drop at e)) ≡ end - at
      places = length-take-le (end - at) (drop at e) (simp length-drop (omega (arith, w.most, back_long)))

      behind : drop (end - at) (drop at e) ≡ from g d end
      behind =
          drop-drop (end - at) at e
          ∙ ap (λ (k : ℕ). drop k e) (up at end before)
          ∙ written_behind
        where
          up : (a b : ℕ) → a ≤ b → a + (b - a) ≡ b
          up a b h = omega arith

      few : min (length y) (length (take (end - at) (drop at e))) ≡ end - at
      few = omega (arith, places)

      written : part ≡ listed (end - at) (λ k. g (at + k))
      written =
          p
          ∙ ap (λ (k : ℕ). listed k (λ k. get_or y k nan) ++ drop k (take (end - at) (drop at e))) few
          ∙ ap (λ (l : List Float). listed (end - at) (λ k. get_or y k nan) ++ l) (drop_of_length-le (take (end - at) (drop at e)) {i = end - at} (omega (arith, places)))
          ∙ append-nil (listed (end - at) (λ k. get_or y k nan))
          ∙ listed_ext (end - at) (λ k. get_or y k nan) (λ k. g (at + k)) each

      joined : listed (end - at) (λ k. g (at + k)) ++ from g d end ≡ from g d at
      joined =
          ap (λ (l : List Float). listed (end - at) (λ k. g (at + k)) ++ l)
          (listed_ext (length d - end) (λ k. g (end + k)) (λ k. g (at + (end - at + k))) (λ k l. ap g (let i : end + k ≡ at + (end - at + k) = omega arith in i)))
          ∙ listed_more (λ k. g (at + k)) (end - at) (length d - end)
          ∙ ap (λ (k : ℕ). listed k (λ k. g (at + k))) (let i : end - at + (length d - end) ≡ length d - at = omega (arith, w.most) in i)

  -- the rest of them, in front
  all_back : (part : List Float) → part ≡ listed end g → part ++ drop end e ≡ listed (length d) g
  all_back part p =
      let k : end + (length d - end) ≡ length d = omega (arith, w.most) in
      ap (λ (l : List Float). part ++ l) written_behind
      ∙ ap (λ (l : List Float). l ++ from g d end) p
      ∙ listed_more g end (length d - end)
      ∙ ap (λ (m : ℕ). listed m g) k

-- ---- the outputs of `outputs_back`: of the samples src, or, where none are lent, of the span d itself
abbrev pub output : Bool → Bool → List Float → ℕ → List Float → Option (List Float) → List Float → ℕ → Float
output odd antisymmetric c long tape src d i = window_value odd antisymmetric c (take (suc long) (drop i (take long tape ++ unwrap_or src d)))

module _ (odd antisymmetric : Bool) (c : List Float) (long : ℕ) (tape : List Float) (src : Option (List Float)) (d e : List Float) (end : ℕ)
    (b : (1 ≤ length c) × (length c ≤ long) × (long + min (length d) (long + 16) ≤ length tape) × (long + 32 ≤ length tape) × (16 ≤ length d)) (on : OnTape long tape (unwrap_or src d) (length d))
    (w : Written (output odd antisymmetric c long tape src d) d e end) where
  abbrev g : ℕ → Float
  g = output odd antisymmetric c long tape src d

  source : (s : List Float) → src ≡ Some s → s ≡ unwrap_or src d
  source s q = sym (ap (λ (o : Option (List Float)). unwrap_or o d) q)

  unwritten : src ≡ None → take end e ≡ take end (unwrap_or src d)
  unwritten q = still g d e end w ∙ ap (λ (o : Option (List Float)). take end (unwrap_or o d)) (sym q)

  -- the group before `end`: the line that it reads, and where its first window begins there
  module _ (whole : 16 ≤ end) (samples line : List Float) (start : ℕ) (samples_are : samples ≡ unwrap_or src e) (line_read : line ≡ picked (ltb (end - 16) long) tape samples)
      (start_is : start ≡ window_start (ltb (end - 16) long) (end - 16) long) where
    line_is : line ≡ picked (ltb (end - 16) long) tape (unwrap_or src e)
    line_is = line_read ∙ ap (picked (ltb (end - 16) long) tape) samples_are

    -- its windows lie on the line
    pub group_room : start + (long + 16) ≤ length line
    group_room =
        let fit = group_fits long tape (unwrap_or src d) (length d) b.2 on (ltb (end - 16) long) src (end - 16) end e refl refl whole w.most source unwritten (back_long g d e end w) (omega (arith, b)) in
        omega (arith, start_is, ap length line_is, fit)

    -- and its outputs are written
    pub group_written : (y part : List Float) → y ≡ window_values odd antisymmetric c long (drop start line) 16 → part ≡ put_in_front y (take (end - (end - 16)) (drop (end - 16) e))
        → Written g d (take (end - 16) e ++ (part ++ drop (end - (end - 16)) (drop (end - 16) e))) (end - 16)
    group_written y part q p =
        group_back g d e end w y part (end - 16) (omega arith) (omega (arith, whole, ap length q, values_long odd antisymmetric c long (drop start line) 16))
        (λ k i. ap (λ (l : List Float). get_or l k nan) q
        ∙ output_at odd antisymmetric c long line 16 start k (omega (arith, i, whole))
        ∙ ap (window_value odd antisymmetric c)
        (ap₂ {C = List Float} (λ (f : ℕ) (l : List Float). take (suc long) (drop (f + k) l)) start_is line_is
        ∙ group_window long tape (unwrap_or src d) (length d) b.2 on (ltb (end - 16) long) src (end - 16) end e refl refl whole w.most source unwritten (back_long g d e end w) k i))
        p

  -- and those in front
  pub few_written : (part : List Float) → (let k = min (length d) 32 in take k (drop long tape) ≡ take k (unwrap_or src d)) → end < 32 → part ≡ window_values odd antisymmetric c long tape (length (take end e))
      → part ++ drop end e ≡ window_values odd antisymmetric c long (take long tape ++ unwrap_or src d) (length d)
  unfolding window_values
  few_written part ahead few p =
      let n : length (take end e) ≡ end = length-take-le end e (omega (arith, w.most, back_long g d e end w)) in
      all_back g d e end w part
      (p
      ∙ ap (window_values odd antisymmetric c long tape) n
      ∙ few_values long tape (unwrap_or src d) (min (length d) 32) (omega (arith, b)) (omega (arith, on.all)) ahead odd antisymmetric c end (omega (arith, w.most, few)))

-- ---- the outputs of `groups_back`, along one line
abbrev pub output_along : Bool → Bool → List Float → ℕ → List Float → ℕ → Float
output_along odd antisymmetric c long line i = window_value odd antisymmetric c (take (suc long) (drop i line))

module _ (odd antisymmetric : Bool) (c : List Float) (long : ℕ) (line d e : List Float) (end : ℕ) (w : Written (output_along odd antisymmetric c long line) d e end) where
  -- the group before `end` is written
  pub group_along : 16 ≤ end → (y part : List Float) → y ≡ window_values odd antisymmetric c long (drop (end - 16) line) 16 → part ≡ put_in_front y (take (end - (end - 16)) (drop (end - 16) e))
      → Written (output_along odd antisymmetric c long line) d (take (end - 16) e ++ (part ++ drop (end - (end - 16)) (drop (end - 16) e))) (end - 16)
  group_along whole y part q p =
      group_back (output_along odd antisymmetric c long line) d e end w y part (end - 16) (omega arith) (omega (arith, whole, ap length q, values_long odd antisymmetric c long (drop (end - 16) line) 16))
      (λ k i. ap (λ (l : List Float). get_or l k nan) q ∙ output_at odd antisymmetric c long line 16 (end - 16) k (omega (arith, i, whole))) p

  -- and those in front
  pub all_along : (part : List Float) → part ≡ window_values odd antisymmetric c long line (length (take end e)) → part ++ drop end e ≡ window_values odd antisymmetric c long line (length d)
  unfolding window_values
  all_along part p =
      all_back (output_along odd antisymmetric c long line) d e end w part
      (p ∙ ap (window_values odd antisymmetric c long line) (length-take-le end e (omega (arith, w.most, back_long (output_along odd antisymmetric c long line) d e end w))))
