-- One stage over a list: its pairs are those of the held sample, if there is one, and the list, and an odd last one is held; since a sample that is held makes
-- a pair with the first that comes, and then nothing is held.
use mathlib.Core.Path.{◌≡◌, refl, sym, ap, ◌∙◌}
use mathlib.Core.Bool.{Bool, cond}
use mathlib.Core.List.{List, [], ◌∷◌, ◌++◌}
use Rattle.std.specs.Prelude.{Option, None, Some}
use Prim.Native.Nat.{ℕ, zero, suc, ◌+◌, ◌-◌, ◌*◌, ◌/◌, ◌%◌, ◌≤◌, min}
use native.Mathlib.Omega.{arith}
use borrow.Author.Tests.{ne_eqb}
use lib.Dec.{eqb}
use lib.ListN.{length, get_or, take}
use lib.Seq.{length-take-le, take-take}
use lib.Ieee.{Float, nan}
use Rattle.theory.specs.Sections.{onto, state, outs}
use Rattle.float.specs.F32.{zero32}
use Rattle.half_band.specs.Windows.{slid, dec_value, pairs}
use Rattle.half_band.specs.inner.Decimator.{decimator}
use Rattle.half_band.specs.HbfStream.{Half, half}
use Rattle.half_band.proofs.Streaming.{half_pairs}

-- ---- the sample that is in no pair, zero where all are
abbrev pub odd_one : List Float → Float
odd_one [] = zero32
odd_one (a ∷ []) = a
odd_one (a ∷ b ∷ w) = odd_one w

pub odd_none : (w : List Float) → length w % 2 ≡ 0 → odd_one w ≡ zero32
odd_none [] h = refl
odd_none (a ∷ []) h = absurd (omega arith)
odd_none (a ∷ b ∷ w) h = odd_none w (omega arith)

odd_last : (w : List Float) (p : ℕ) → length w ≡ 2 * p + 1 → odd_one w ≡ get_or w (2 * p) nan
odd_last [] p h = absurd (omega arith)
odd_last (a ∷ []) zero h = refl
odd_last (a ∷ []) (suc p) h = absurd (omega arith)
odd_last (a ∷ b ∷ w) zero h = absurd (omega arith)
odd_last (a ∷ b ∷ w) (suc p) h = odd_last w p (omega arith) ∙ ap (λ (n : ℕ). get_or (a ∷ b ∷ w) n nan) more
  where
    more : suc (suc (2 * p)) ≡ 2 * suc p
    more = omega arith

-- by the number of samples
pub odd_is : (w : List Float) (t : ℕ) (x : Float) → length w ≡ t → get_or w (t - 1) nan ≡ x → cond (eqb (t % 2) 0) zero32 x ≡ odd_one w
odd_is w t x l e = by_rest (t % 2) refl
  where
    by_rest : (m : ℕ) → t % 2 ≡ m → cond (eqb (t % 2) 0) zero32 x ≡ odd_one w
    by_rest zero h = ap (λ (m : ℕ). cond (eqb m 0) zero32 x) h ∙ sym (odd_none w (ap (λ (m : ℕ). m % 2) l ∙ h))
    by_rest (suc m) h =
        let one : t % 2 ≡ 1 = omega arith in
        let twice : length w ≡ 2 * (t / 2) + 1 = omega arith in
        let place : t - 1 ≡ 2 * (t / 2) = omega arith in
        ap (λ (m : ℕ). cond (eqb m 0) zero32 x) one ∙ sym e ∙ ap (λ (i : ℕ). get_or w i nan) place ∙ sym (odd_last w (t / 2) twice)

-- ---- the pairs of a list are those of its even front
pairs_even : (w : List Float) (p : ℕ) → p ≡ length w / 2 → pairs (take (2 * p) w) ≡ pairs w
pairs_even [] zero h = refl
pairs_even [] (suc p) h = absurd (omega arith)
pairs_even (a ∷ []) zero h = refl
pairs_even (a ∷ []) (suc p) h = absurd (omega arith)
pairs_even (a ∷ b ∷ w) zero h = absurd (omega arith)
pairs_even (a ∷ b ∷ w) (suc p) h =
    ap (λ (n : ℕ). pairs (take n (a ∷ b ∷ w))) more ∙ ap (λ (l : List (Float × Float)). (a, b) ∷ l) (pairs_even w p (omega arith))
  where
    more : 2 * suc p ≡ suc (suc (2 * p))
    more = omega arith

pub front_pairs : (n : ℕ) (w : List Float) → n ≤ length w → pairs (take (2 * (n / 2)) w) ≡ pairs (take n w)
front_pairs n w h =
    let fewer : 2 * (n / 2) ≤ n = omega arith in
    ap pairs (sym (take-take (2 * (n / 2)) n w fewer)) ∙ pairs_even (take n w) (n / 2) (ap (λ (m : ℕ). m / 2) (sym (length-take-le n w h)))

-- ---- a stage with the window w after the list v, before which it held nothing
abbrev pub rested : List Float → List Float → List Float → Half
rested c w v = record { window = state (decimator c) w (pairs v); held = odd_one v; count = length v % 2 }

two_more : (n : ℕ) → n % 2 ≡ suc (suc n) % 2
two_more n = omega arith

pub half_rest : (c w v : List Float) → state (half c) (record { window = w; held = zero32; count = 0 }) v ≡ rested c w v
unfolding half decimator
half_rest c w [] = refl
half_rest c w (a ∷ []) = refl
half_rest c w (a ∷ b ∷ v) =
    half_rest c (slid w (a ∷ b ∷ [])) v
    ∙ ap {B = Half} (λ (n : ℕ). record { window = state (decimator c) (slid w (a ∷ b ∷ [])) (pairs v); held = odd_one v; count = n }) (two_more (length v))

-- whatever is in the place of the held sample, if a sample comes
half_from : (c w : List Float) (y : Float) (v : List Float) → 1 ≤ length v → state (half c) (record { window = w; held = y; count = 0 }) v ≡ rested c w v
unfolding half decimator
half_from c w y [] h = absurd (omega arith)
half_from c w y (a ∷ []) h = refl
half_from c w y (a ∷ b ∷ v) h =
    half_rest c (slid w (a ∷ b ∷ [])) v
    ∙ ap {B = Half} (λ (n : ℕ). record { window = state (decimator c) (slid w (a ∷ b ∷ [])) (pairs v); held = odd_one v; count = n }) (two_more (length v))

-- ---- a stage with the window w that holds the sample y, if its count is not 0
module _ (c w : List Float) (y : Float) where
  abbrev with_count : ℕ → Half
  with_count n = record { window = w; held = y; count = n }

  -- the held sample before the list
  abbrev pub led : ℕ → List Float → List Float
  led n v = take (min n 1) (y ∷ []) ++ v

  module _ (n : ℕ) (x : Float) where
    holds : suc n ≡ 0 → ⊥
    holds = omega arith

    one : 1 ≡ min (suc n) 1
    one = omega arith

    pair_next : (half c).next (with_count (suc n)) x ≡ record { window = slid w (y ∷ x ∷ []); held = zero32; count = 0 }
    unfolding half
    pair_next =
        ap {B = Half} (λ (b : Bool). cond b (record { window = w; held = x; count = 1 }) (record { window = slid w (y ∷ x ∷ []); held = zero32; count = 0 })) (ne_eqb (suc n) 0 holds)

    pair_out : (half c).out (with_count (suc n)) x ≡ Some (dec_value c (slid w (y ∷ x ∷ [])))
    unfolding half
    pair_out = ap (λ (b : Bool). cond b None (Some (dec_value c (slid w (y ∷ x ∷ []))))) (ne_eqb (suc n) 0 holds)

  no_one : 0 ≡ min 0 1
  no_one = omega arith

  pub half_run : (n : ℕ) (v : List Float) → 1 ≤ length v → state (half c) (with_count n) v ≡ rested c w (led n v)
  unfolding decimator
  half_run zero v h = half_from c w y v h ∙ ap (λ (m : ℕ). rested c w (take m (y ∷ []) ++ v)) no_one
  half_run (suc n) [] h = absurd (omega arith)
  half_run (suc n) (x ∷ v) h =
      ap (λ (g : Half). state (half c) g v) (pair_next n x)
      ∙ half_rest c (slid w (y ∷ x ∷ [])) v
      ∙ ap {B = Half} (λ (j : ℕ). record { window = state (decimator c) (slid w (y ∷ x ∷ [])) (pairs v); held = odd_one v; count = j }) (two_more (length v))
      ∙ ap (λ (m : ℕ). rested c w (take m (y ∷ []) ++ (x ∷ v))) (one n x)

  pub half_made : (n : ℕ) (v : List Float) → outs (half c) (with_count n) v ≡ outs (decimator c) w (pairs (led n v))
  unfolding decimator
  half_made zero v = half_pairs c w y v ∙ ap (λ (m : ℕ). outs (decimator c) w (pairs (take m (y ∷ []) ++ v))) no_one
  half_made (suc n) [] = ap (λ (m : ℕ). outs (decimator c) w (pairs (take m (y ∷ []) ++ []))) (one n y)
  half_made (suc n) (x ∷ v) =
      ap (λ (o : Option Float). onto o (outs (half c) ((half c).next (with_count (suc n)) x) v)) (pair_out n x)
      ∙ ap (λ (g : Half). dec_value c (slid w (y ∷ x ∷ [])) ∷ outs (half c) g v) (pair_next n x)
      ∙ ap (λ (l : List Float). dec_value c (slid w (y ∷ x ∷ [])) ∷ l) (half_pairs c (slid w (y ∷ x ∷ [])) zero32 v)
      ∙ ap (λ (m : ℕ). outs (decimator c) w (pairs (take m (y ∷ []) ++ (x ∷ v)))) (one n x)
