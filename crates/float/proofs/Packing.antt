-- A list in front of zeros, as many of it as there are places: laid into an array of its own, or kept in the array that it stands in, of which the rest is written over.
use Rattle.std.proofs.Common.{◌≡◌, ℕ, ◌<◌, ◌-◌, min, Bool, true, false, ltb, List, ◌++◌, ◌≤◌, length, take, drop, replicate, sym, refl, ap, ◌∙◌, ap₂, arith, take_all, ltb-true, ltb-false, append-nil, length-take, take-take}
use borrow.Rule.Slice.PartMut.{mid_of, put_mid}
use lib.ListN.{length-drop, drop_of_length-le}
use lib.Ieee.{Float}
use Rattle.float.specs.F32.{zero32}
use Rattle.float.specs.PolyphaseOpening.{packed}

pub packed_front : (h front : List Float) (n : ℕ) → n ≡ min (length h) 1024 → front ≡ take n h → front ++ replicate (1024 - n) zero32 ≡ packed h
unfolding packed
packed_front h front n e f =
    let left : 1024 - n ≡ 1024 - length h = omega (arith, e) in
    ap₂ {C = List Float} (λ a b. a ++ b) (f ∙ same (ltb 1024 (length h)) refl) (ap (λ (k : ℕ). replicate k zero32) left)
  where
    same : (b : Bool) → ltb 1024 (length h) ≡ b → take n h ≡ take 1024 h
    same true g = let all : n ≡ 1024 = omega (arith, e, ltb-true _ _ g) in ap (λ (k : ℕ). take k h) all
    same false g = take_all n h (omega (arith, e, ltb-false _ _ g)) ∙ sym (take_all 1024 h (omega (arith, ltb-false _ _ g)))

-- what stands in front of an array's zeros
pub kept : (d zs : List Float) (n k : ℕ) → n ≡ min k 1024 → length d ≡ 1024 → zs ≡ replicate (length (mid_of n (1024 - n) d)) zero32 → put_mid n (1024 - n) d zs ≡ packed (take k d)
kept d zs n k e long z =
    let count : length (take k d) ≡ min k (length d) = length-take k d in
    let places : length (mid_of n (1024 - n) d) ≡ 1024 - n = omega (arith, length-take (1024 - n) (drop n d), length-drop n d, long, e) in
    let behind : length (drop n d) ≤ 1024 - n = omega (arith, length-drop n d, long) in
    let at : n ≡ min (length (take k d)) 1024 = omega (arith, count, long, e) in
    let front : take n d ≡ take n (take k d) = sym (take-take n k d (omega (arith, e))) in
    ap₂ {C = List Float} (λ (a b : List Float). take n d ++ (a ++ b)) (z ∙ ap (λ (m : ℕ). replicate m zero32) places) (drop_of_length-le (drop n d) behind)
    ∙ ap (λ (a : List Float). take n d ++ a) (append-nil (replicate (1024 - n) zero32))
    ∙ packed_front (take k d) (take n d) n at front

-- as many as a product held at the greatest usize says
pub kept_held : (d : List Float) (n k : ℕ) → n ≡ min k 18446744073709551615 → length d ≡ 1024 → packed (take n d) ≡ packed (take k d)
kept_held d n k e long = ap packed (go (ltb 1024 k) refl)
  where
    go : (b : Bool) → ltb 1024 k ≡ b → take n d ≡ take k d
    go true b =
        let few : 1024 < k = ltb-true _ _ b in
        take_all n d (omega (arith, e, few, long)) ∙ sym (take_all k d (omega (arith, few, long)))
    go false b =
        let many : n ≡ k = omega (arith, e, ltb-false _ _ b) in
        ap (λ (m : ℕ). take m d) many
