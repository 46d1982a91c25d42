-- A stage in place: its outputs are made from the last one back, and each is written behind the windows of those before it. So what these read stands as it was, and what is
-- written are the last outputs.
use mathlib.Core.Path.{◌≡◌, refl, sym, ap, ap₂, ◌∙◌, subst}
use mathlib.Core.List.{List, [], ◌∷◌, ◌++◌, append_assoc, append-nil}
use Rattle.std.specs.Prelude.{Option, None, Some}
use Rattle.std.specs.Option.{is_some}
use Prim.Native.Nat.{ℕ, zero, suc, ◌+◌, ◌-◌, ◌*◌, ◌/◌, ◌≤◌, ◌<◌}
use native.Mathlib.Omega.{arith}
use borrow.Rule.Slice.PartMut.{mid_of, put_mid}
use lib.ListN.{length, get_or, set, take, drop, length-set, length-append, length-drop, drop_of_length-le, take-append-drop}
use lib.Seq.{length-take-le, take_all, take_at, take-take, drop_at, drop-cons, drop-append-le, drop-append-add, drop-drop, set_at}
use Rattle.std.proofs.lemmas.List.{take-set, drop-set, drop-take}
use lib.Ieee.{Float, nan}
use mir.Val.{bool_byte}
use Rattle.theory.specs.Sections.{Section, onto, state, outs}
use Rattle.theory.proofs.Sections.{outs_append}
use Rattle.half_band.specs.Windows.{slid, dec_value, pairs}
use Rattle.half_band.specs.inner.Decimator.{decimator}
use Rattle.half_band.proofs.Blocks.{state_next, outs_length}
use Rattle.half_band.proofs.PairsAlong.{moved_on, state_along}
use Rattle.half_band.proofs.StageRuns.{front_pairs}
use Rattle.half_band.proofs.WholeLists.{length_pairs}
use Rattle.half_band.proofs.Frames.{made_count}

-- a lead behind a window that was put in front of a line
pub lead_put : (w line : List Float) (x : Float) → length w + 1 ≤ length line → set (w ++ drop (length w) line) (length w) x ≡ w ++ (x ∷ drop (length w + 1) line)
lead_put w line x h =
    let more : suc (length w) ≡ length w + 1 = omega arith in
    ap (λ (l : List Float). set (w ++ l) (length w) x) (drop-cons line (length w) nan (omega arith))
    ∙ set_at w (get_or line (length w) nan) (drop (suc (length w)) line) x (length w) refl
    ∙ ap (λ (k : ℕ). w ++ (x ∷ drop k line)) more

-- values put at the end of a list, from `at` on
pub end_put : (m at : ℕ) (l y : List Float) → length l ≡ m → at ≤ m → length y ≡ m - at → (length (put_mid at (m - at) l y) ≡ m) × (drop at (put_mid at (m - at) l y) ≡ y)
end_put m at l y e h long =
    let front : length (take at l) ≡ at = length-take-le at l (omega (arith, e)) in
    let is : put_mid at (m - at) l y ≡ take at l ++ y =
    ap (λ (t : List Float). take at l ++ (y ++ t)) (drop_of_length-le (drop at l) {i = m - at} (omega (arith, length-drop at l, e))) ∙ ap (λ (t : List Float). take at l ++ t) (append-nil y)
    in
    (ap length is ∙ length-append (take at l) y ∙ omega (arith, front, long, h), ap (drop at) is ∙ drop_at (take at l) y at front)

-- places of a list that are places of its front
pub places_in : (n a m : ℕ) (l : List Float) → a + n ≤ m → take n (drop a l) ≡ take n (drop a (take m l))
places_in n a m l h =
    let sum : a + (m - a) ≡ m = omega arith in
    sym (take-take n (m - a) (drop a l) (omega arith)) ∙ ap (take n) (sym (drop-take a (m - a) l) ∙ ap (λ (k : ℕ). drop a (take k l)) sum)

-- a section that makes an output of every value: the outputs from the i-th on
module _ {S A B : Type 0} (f : Section S A B) (made : S → A → B) (every : (s : S) (a : A) → f.out s a ≡ Some (made s a)) (s : S) (v : List A) where
  outs_from : (i : ℕ) → i ≤ length v → drop i (outs f s v) ≡ outs f (state f s (take i v)) (drop i v)
  outs_from i h =
      ap (λ (l : List A). drop i (outs f s l)) (sym (take-append-drop i v))
      ∙ ap (drop i) (outs_append f s (take i v) (drop i v))
      ∙ drop_at (outs f s (take i v)) (outs f (state f s (take i v)) (drop i v)) i (outs_length f made every s (take i v) ∙ length-take-le i v h)

  outs_at : (i : ℕ) (z : A) → i < length v → drop i (outs f s v) ≡ made (state f s (take i v)) (get_or v i z) ∷ drop (i + 1) (outs f s v)
  outs_at i z h =
      outs_from i (omega arith)
      ∙ ap (outs f t) (drop-cons v i z h)
      ∙ ap (λ (o : Option B). onto o (outs f (f.next t x) (drop (suc i) v))) (every t x)
      ∙ ap (λ (l : List B). made t x ∷ l)
      (ap (λ (k : ℕ). outs f (f.next t x) (drop k v)) more
      ∙ ap (λ (u : S). outs f u (drop (i + 1) v)) (sym (state_next f s v i z h))
      ∙ sym (outs_from (i + 1) (omega arith)))
    where
      t : S
      t = state f s (take i v)

      x : A
      x = get_or v i z

      more : suc i ≡ i + 1
      more = omega arith

-- what the stage with the taps c makes of a line v, its window in front
abbrev pub made : List Float → List Float → List Float
made c v = outs (decimator c) (take (4 * length c) v) (pairs (drop (4 * length c) v))

-- the line where the outputs before the i-th are still to come, of n
pub record Backward (c v : List Float) (n : ℕ) (line : List Float) (i : ℕ) : Type 0 where
  pub few : i ≤ n
  pub same : length line ≡ length v
  pub ahead : take (length v - n + i) line ≡ take (length v - n + i) v
  pub behind : drop (length v - n + i) line ≡ drop i (made c v)

module _ (c v : List Float) (some : 1 ≤ length c) (room : 4 * length c ≤ length v) where
  abbrev long : ℕ
  long = 4 * length c

  abbrev w₀ : List Float
  w₀ = take long v

  abbrev both : List (Float × Float)
  both = pairs (drop long v)

  abbrev all : List Float
  all = made c v

  abbrev value : List Float → Float × Float → Float
  value w p = dec_value c (slid w (p.0 ∷ p.1 ∷ []))

  every : (w : List Float) (p : Float × Float) → (decimator c).out w p ≡ Some (value w p)
  unfolding decimator
  every w p = refl

  both_long : length both ≡ (length v - long) / 2
  both_long = length_pairs (drop long v) ∙ ap (λ (k : ℕ). k / 2) (length-drop long v)

  pub made_long : length all ≡ (length v - long) / 2
  made_long = outs_length (decimator c) value every w₀ both ∙ both_long

  -- the window after i pairs stands further on by two places for each
  windows : (i : ℕ) → i ≤ length both → state (decimator c) w₀ (take i both) ≡ take long (drop (2 * i) v)
  unfolding decimator
  windows zero h = refl
  windows (suc i) h =
      let more : suc i ≡ i + 1 = omega arith in
      let on : 2 * i + 2 ≡ 2 * suc i = omega arith in
      let l = both_long in
      let p = get_or both i (nan, nan) in
      ap (λ (k : ℕ). state (decimator c) w₀ (take k both)) more
      ∙ state_next (decimator c) w₀ both i (nan, nan) (omega arith)
      ∙ ap (λ (u : List Float). slid u (p.0 ∷ p.1 ∷ [])) (windows i (omega arith))
      ∙ sym (moved_on v long i (omega arith) (omega arith))
      ∙ ap (λ (k : ℕ). take long (drop k v)) on

  -- output i is that at the window after its pair
  made_at : (i : ℕ) → i < length both → drop i all ≡ dec_value c (take long (drop (2 * i + 2) v)) ∷ drop (i + 1) all
  made_at i h =
      let p = get_or both i (nan, nan) in
      let l = both_long in
      outs_at (decimator c) value every w₀ both i (nan, nan) h
      ∙ ap (λ (u : List Float). dec_value c (slid u (p.0 ∷ p.1 ∷ [])) ∷ drop (i + 1) all) (windows i (omega arith))
      ∙ ap (λ (u : List Float). dec_value c u ∷ drop (i + 1) all) (sym (moved_on v long i (omega arith) (omega arith)))

  module _ (n : ℕ) (counted : n ≡ (length v - long) / 2) where
    pub backward_start : Backward c v n v n
    backward_start =
        record {
          few = omega arith;
          same = refl;
          ahead = refl;
          behind = drop_of_length-le v (omega (arith, counted)) ∙ sym (drop_of_length-le all (omega (arith, made_long, counted)));
        }

    module _ (line : List Float) (i : ℕ) (q : Backward c v n line (i + 1)) where
      abbrev at : ℕ
      at = length v - n + i

      -- what it reads stands as it was
      read : take long (drop (2 * i + 2) line) ≡ take long (drop (2 * i + 2) v)
      read = from line (q.same) ∙ ap (λ (l : List Float). take long (drop (2 * i + 2) l)) q.ahead ∙ sym (from v refl)
        where
          fits : (2 * i + 2) + long ≤ length v - n + (i + 1)
          fits = let f = q.few in omega (arith, counted)

          from : (l : List Float) → length l ≡ length v → take long (drop (2 * i + 2) l) ≡ take long (drop (2 * i + 2) (take (length v - n + (i + 1)) l))
          from l e = places_in long (2 * i + 2) (length v - n + (i + 1)) l fits

      one_more : (y : Float) → y ≡ dec_value c (take long (drop (2 * i + 2) line)) → Backward c v n (set line at y) i
      one_more y e =
          let f = q.few in
          let s = q.same in
          let more : at + 1 ≡ length v - n + (i + 1) = omega arith in
          let there : at < length line = omega (arith, counted) in
          record {
            few = omega arith;
            same = length-set line at y ∙ q.same;
            ahead = take-set line at y ∙ sym (take-take at (length v - n + (i + 1)) line (omega arith)) ∙ ap (take at) q.ahead ∙ take-take at (length v - n + (i + 1)) v (omega arith);
            behind =
                drop-set line at y there
                ∙ ap (λ (k : ℕ). y ∷ drop k line) more
                ∙ ap₂ (λ (a : Float) (l : List Float). a ∷ l) (e ∙ ap (dec_value c) read) q.behind
                ∙ sym (made_at i (omega (arith, both_long, counted)));
          }

    -- a turn of the loop, whose number is the end that is left
    pub backward_more : (line : List Float) (j : ℕ) → Backward c v n line j → 0 < j → (y : Float) → y ≡ dec_value c (take long (drop (2 * (j - 1) + 2) line))
        → Backward c v n (set line (length v - n + (j - 1)) y) (j - 1)
    backward_more line j q some y e =
        let less : j ≡ j - 1 + 1 = omega arith in
        one_more line (j - 1) (subst (λ (k : ℕ). Backward c v n line k) less q) y e

    pub backward_done : (line : List Float) → Backward c v n line 0 → drop (length v - length all) line ≡ all
    backward_done line q =
        let z : length v - n + 0 ≡ length v - n = omega arith in
        let m : length v - length all ≡ length v - n = omega (arith, made_long, counted) in
        ap (λ (k : ℕ). drop k line) (m ∙ sym z) ∙ q.behind

-- window, lead and values in a row are the line
module _ (c w led : List Float) (some : 1 ≤ length c) (wide : length w ≡ 4 * length c) where
  abbrev n : ℕ
  n = length led / 2

  abbrev v : List Float
  v = take (2 * n) led

  v_long : length v ≡ 2 * n
  v_long = length-take-le (2 * n) led (let h : 2 * (length led / 2) ≤ length led = omega arith in h)

  pairs_are : pairs v ≡ pairs led
  pairs_are = front_pairs (length led) led (omega arith) ∙ ap pairs (take_all (length led) led (omega arith))

  -- the window left
  pub row_window : take (length w) (drop (2 * n) (w ++ led)) ≡ state (decimator c) w (pairs led)
  row_window =
      ap (λ (l : List Float). take (length w) (drop (2 * n) (w ++ l))) (sym (take-append-drop (2 * n) led))
      ∙ ap (λ (l : List Float). take (length w) (drop (2 * n) l)) (sym (append_assoc w v (drop (2 * n) led)))
      ∙ ap (take (length w)) (drop-append-le (2 * n) (w ++ v) (drop (2 * n) led) (omega (arith, length-append w v, v_long)))
      ∙ take_at (drop (2 * n) (w ++ v)) (drop (2 * n) led) (length w) (omega (arith, length-drop (2 * n) (w ++ v), length-append w v, v_long))
      ∙ ap (λ (k : ℕ). drop k (w ++ v)) (sym v_long)
      ∙ sym (state_along c v w n (omega arith) v_long)
      ∙ ap (state (decimator c) w) pairs_are

  -- and what is made of the line
  pub row_made : outs (decimator c) (take (4 * length c) (w ++ led)) (pairs (drop (4 * length c) (w ++ led))) ≡ outs (decimator c) w (pairs led)
  row_made = ap₂ {C = List Float} (λ (a b : List Float). outs (decimator c) a (pairs b)) (take_at w led (4 * length c) wide) (drop_at w led (4 * length c) wide)

-- how many values a lead is
pub lead_counts : (o : Option Float) → bool_byte (is_some o) ≡ length (onto o [])
lead_counts None = refl
lead_counts (Some x) = refl

lead_few : (o : Option Float) → length (onto o []) ≤ 1
lead_few None = omega arith
lead_few (Some x) = omega arith

led_long : (o : Option Float) (v : List Float) → length (onto o v) ≡ length (onto o []) + length v
led_long None v = omega arith
led_long (Some x) v = omega arith

no_pair : (l : List Float) → length l < 2 → pairs l ≡ []
no_pair [] h = refl
no_pair (a ∷ []) h = refl
no_pair (a ∷ b ∷ l) h = absurd (omega arith)

-- the lead o, of `before` values, and the last n values of a tape
module _ (c w : List Float) (o : Option Float) (tape : List Float) (n before : ℕ) (few : (1 ≤ length c) × (length c ≤ 23)) (wide : length w ≡ 4 * length c) (room : n + 96 ≤ length tape)
    (counted : before ≡ length (onto o [])) where
  abbrev led : List Float
  led = onto o (drop (length tape - n) tape)

  led_is_long : length led ≡ before + n
  led_is_long = led_long o (drop (length tape - n) tape) ∙ omega (arith, length-drop (length tape - n) tape, counted, room)

  made_few : length (outs (decimator c) w (pairs led)) ≡ (before + n) / 2
  made_few = made_count c w (pairs led) ∙ length_pairs led ∙ ap (λ (k : ℕ). k / 2) led_is_long

  -- none or one
  pub none_in : before + n < 2 → (w ≡ state (decimator c) w (pairs led)) × (drop (length tape - length (outs (decimator c) w (pairs led))) tape ≡ outs (decimator c) w (pairs led))
  none_in h =
      let z = no_pair led (omega (arith, led_is_long)) in
      rw z (refl, drop_of_length-le tape (omega arith))

  abbrev from : ℕ
  from = length tape - n - before - length w

  whole_line : mid_of from (length tape - from) tape ≡ drop from tape
  whole_line = take_all (length tape - from) (drop from tape) (omega (arith, length-drop from tape))

  -- they stand behind the places for window and lead
  pub led_is : onto o (drop (length w + length (onto o [])) (mid_of from (length tape - from) tape)) ≡ led
  led_is =
      let f = lead_few o in
      let sum : from + (length w + length (onto o [])) ≡ length tape - n = omega (arith, few, counted, wide, room) in
      ap (λ (l : List Float). onto o (drop (length w + length (onto o [])) l)) whole_line
      ∙ ap (onto o) (drop-drop (length w + length (onto o [])) from tape ∙ ap (λ (k : ℕ). drop k tape) (omega (arith, sum)))

  -- and what is put at the line's end stands at the tape's
  pub end_is : (line made : List Float) → drop (length (mid_of from (length tape - from) tape) - length (outs (decimator c) w (pairs led))) line ≡ made
      → drop (length tape - length (outs (decimator c) w (pairs led))) (put_mid from (length tape - from) tape line) ≡ made
  end_is line made e =
      let f = lead_few o in
      let m = made_few in
      let l : length (mid_of from (length tape - from) tape) ≡ length tape - from = ap length whole_line ∙ length-drop from tape in
      let front : length (take from tape) ≡ from = length-take-le from tape (omega arith) in
      let k = length (outs (decimator c) w (pairs led)) in
      let left = length (mid_of from (length tape - from) tape) - k in
      let sum : length tape - k ≡ from + left = omega (arith, few, counted, wide, room) in
      ap (λ (t : List Float). drop (length tape - k) (take from tape ++ (line ++ t))) (drop_of_length-le (drop from tape) {i = length tape - from} (omega (arith, length-drop from tape)))
      ∙ ap (λ (t : List Float). drop (length tape - k) (take from tape ++ t)) (append-nil line)
      ∙ ap (λ (j : ℕ). drop j (take from tape ++ line)) (sum ∙ ap (λ (j : ℕ). j + left) (sym front))
      ∙ drop-append-add (take from tape) line left
      ∙ e
