-- Parts of one list at equal distances, each no longer than the distance: a part put in is the part found, and the others are as they were.
use mathlib.Core.Path.{◌≡◌, refl, ap, ◌∙◌}
use mathlib.Core.List.{List, [], ◌∷◌}
use Prim.Native.Nat.{ℕ, zero, suc, ◌+◌, ◌*◌, ◌≤◌, ◌<◌}
use native.Mathlib.Nat.{mul-le-mul_left, mul-suc}
use native.Mathlib.Omega.{arith}
use native.Mathlib.Decide.{dec_lt}
use lib.ListN.{length, take, drop, length-drop}
use lib.Seq.{length-take-le}
use lib.Ieee.{Float}
use Rattle.half_band.specs.Windows.{spliced}
use Rattle.half_band.proofs.Splicing.{splice_found, splice_before, splice_after, length_splice}

-- what `part` gives of s for n numbers from k on
abbrev pub parts_from : {S A : Type 0} → (ℕ → S → A) → ℕ → ℕ → S → List A
parts_from part zero k s = []
parts_from part (suc n) k s = part k s ∷ parts_from part n (suc k) s

pub same_parts : {S A : Type 0} (part : ℕ → S → A) (n k : ℕ) (s t : S) → ((j : ℕ) → k ≤ j → j < k + n → part j s ≡ part j t) → parts_from part n k s ≡ parts_from part n k t
same_parts part zero k s t e = refl
same_parts {S} {A} part (suc n) k s t e =
    ap (λ (a : A). a ∷ parts_from part n (suc k) s) (e k (omega arith) (omega arith))
    ∙ ap (λ (l : List A). part k t ∷ l) (same_parts part n (suc k) s t (λ j p q. e j (omega arith) (omega arith)))

-- `size k` places from `distance` × k on, for five k
module _ (distance : ℕ) (size : ℕ → ℕ) (fits : (k : ℕ) → k < 5 → size k ≤ distance) where
  abbrev pub part_of : ℕ → List Float → List Float
  part_of k d = take (size k) (drop (distance * k) d)

  abbrev pub with_part : ℕ → List Float → List Float → List Float
  with_part k w d = spliced (distance * k) (size k) w d

  -- the places of one part end before those of the next
  apart : (j k : ℕ) → j < 5 → j < k → distance * j + size j ≤ distance * k
  apart j k l h = let a = mul-le-mul_left distance h in let f = fits j l in omega (arith, mul-suc distance j)

  module _ (d : List Float) (long : length d ≡ distance * 5) (k : ℕ) (in_range : k < 5) where
    room : distance * k + size k ≤ length d
    room = let a = apart k 5 in_range in_range in omega arith

    pub part_long : length (part_of k d) ≡ size k
    part_long = length-take-le (size k) (drop (distance * k) d) (simp length-drop (omega (arith, room)))

    module _ (w : List Float) (e : length w ≡ size k) where
      pub part_found : part_of k (with_part k w d) ≡ w
      part_found = splice_found (distance * k) (size k) w d e room

      pub length_with : length (with_part k w d) ≡ length d
      length_with = length_splice (distance * k) (size k) w d e room

      pub part_elsewhere : (j : ℕ) → j < 5 → (j ≡ k → ⊥) → part_of j (with_part k w d) ≡ part_of j d
      part_elsewhere j l q = go (dec_lt j k)
        where
          go : Dec (j < k) → part_of j (with_part k w d) ≡ part_of j d
          go (yes p) = splice_before (distance * k) (size k) w d e room (distance * j) (size j) (apart j k l p)
          go (no p) = let b : k < j = omega arith in ap (take (size j)) (splice_after (distance * k) (size k) w d e room (distance * j) (apart k j in_range b))
