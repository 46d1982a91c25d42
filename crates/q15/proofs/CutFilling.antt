-- A span that is filled with sums, cut, from the front, and the count of those that were cut: it is the count of the sums so far, which a list joined to another adds to.
use mathlib.Core.Path.{◌≡◌, refl, sym, ap, ap₂, ◌∙◌}
use mathlib.Core.Bool.{Bool, true, false, cond}
use mathlib.Core.List.{List, [], ◌∷◌, ◌++◌}
use Prim.Native.Nat.{ℕ, suc, ◌+◌, ◌≤◌, ◌<◌, min}
use native.Mathlib.Nat.{add_assoc, add-zero}
use native.Mathlib.Numerals.{add-one}
use native.Mathlib.Omega.{arith}
use lib.IntN.{ℤ}
use lib.ListN.{length, set, take, drop}
use lib.Seq.{length-take-le}
use mir.Syntax.{w16}
use mir.Val.{bool_byte}
use borrow.Rule.Slice.PartMut.{put_mid}
use Rattle.theory.specs.Lists.{listed}
use Rattle.theory.proofs.Listed.{length_listed}
use Rattle.q15.specs.Fixed.{cut, is_cut, cut_one, cut_count}
use Rattle.q15.specs.Block.{block_span, block_cuts}
use Rattle.q15.proofs.Filling.{Filled, next_filled, all_filled, whole_filled, more_filled, listed_more, least_listed, block_filled}

-- a list joined to another
pub count_append : (k l : List ℤ) → cut_count w16 (k ++ l) ≡ cut_count w16 k + cut_count w16 l
count_append [] l = let q : cut_count w16 l ≡ 0 + cut_count w16 l = omega arith in q
count_append (z ∷ k) l = ap (λ (n : ℕ). cut_one w16 z + n) (count_append k l) ∙ sym (add_assoc (cut_one w16 z) (cut_count w16 k) (cut_count w16 l))

-- no more are cut than there are
pub count_few : (l : List ℤ) → cut_count w16 l ≤ length l
count_few [] = omega arith
count_few (z ∷ l) = go (is_cut w16 z) (count_few l)
  where
    go : (b : Bool) → cut_count w16 l ≤ length l → cond b 1 0 + cut_count w16 l ≤ suc (length l)
    go true h = omega arith
    go false h = omega arith

-- a flag as a number
pub byte_one : (b : Bool) → bool_byte b ≡ cond b 1 0
byte_one true = refl
byte_one false = refl

pub byte_most : (b : Bool) → bool_byte b ≤ 1
byte_most true = omega arith
byte_most false = omega arith

-- sums by index: no more are cut than there are, one more of them, m more
pub listed_few : (n : ℕ) (g : ℕ → ℤ) → cut_count w16 (listed n g) ≤ n
listed_few n g = omega (arith, count_few (listed n g), length_listed n g)

listed_next : (n : ℕ) (g : ℕ → ℤ) → cut_count w16 (listed (n + 1) g) ≡ cut_count w16 (listed n g) + cut_one w16 (g n)
listed_next n g =
    ap (λ (k : ℕ). cut_count w16 (listed k g)) (add-one n)
    ∙ count_append (listed n g) (g n ∷ [])
    ∙ ap (λ (k : ℕ). cut_count w16 (listed n g) + k) (add-zero (cut_one w16 (g n)))

pub listed_joined : (i m : ℕ) (g : ℕ → ℤ) → cut_count w16 (listed (i + m) g) ≡ cut_count w16 (listed i g) + cut_count w16 (listed m (λ k. g (i + k)))
listed_joined i m g =
    ap (cut_count w16) (sym (listed_more g i m)) ∙ count_append (listed i g) (listed m (λ k. g (i + k)))

-- the sums g over the span d
module _ (g : ℕ → ℤ) (d : List ℤ) where
  -- i of them stand in front of it, cut, and so many of those were
  pub record CutFilled (count : ℕ) (e : List ℤ) (i cuts : ℕ) : Type 0 where
    pub filled : Filled (λ k. cut w16 (g k)) d count e i
    pub counted : cuts ≡ cut_count w16 (listed i g)

  -- no more were cut than stand there
  pub few_cut : (count : ℕ) (e : List ℤ) (i cuts : ℕ) → CutFilled count e i cuts → cuts ≤ i
  few_cut count e i cuts f = omega (arith, f.counted, listed_few i g)

  pub next_cut :
      (count : ℕ) (e : List ℤ) (i cuts : ℕ) (v : ℤ) (b : Bool) (more : ℕ) → i < count → count ≤ length d → v ≡ cut w16 (g i) → b ≡ is_cut w16 (g i)
      → more ≡ cuts + cond b 1 0 → CutFilled count e i cuts → CutFilled count (set e i v) (i + 1) more
  next_cut count e i cuts v b more l m q h n f =
      record {
        filled = next_filled (λ k. cut w16 (g k)) d count e i v l m q f.filled;
        counted = n ∙ ap (λ (x : Bool). cuts + cond x 1 0) h ∙ ap (λ (k : ℕ). k + cut_one w16 (g i)) f.counted ∙ sym (listed_next i g);
      }

  -- the same, where a flag is added as a number
  pub few_flagged : (count : ℕ) (e : List ℤ) (i cuts : ℕ) (b : Bool) → CutFilled count e i cuts → cuts + bool_byte b ≤ i + 1
  few_flagged count e i cuts b f = let h : bool_byte b ≤ 1 = byte_most b in omega (arith, h, few_cut count e i cuts f)

  pub next_flagged :
      (count : ℕ) (e : List ℤ) (i cuts : ℕ) (v : ℤ) (b : Bool) (k : ℕ) → i < count → count ≤ length d → v ≡ cut w16 (g i) → b ≡ is_cut w16 (g i)
      → k ≡ bool_byte b → CutFilled count e i cuts → CutFilled count (set e i v) (i + 1) (cuts + k)
  next_flagged count e i cuts v b k l m q h n f = next_cut count e i cuts v b (cuts + k) l m q h (ap (λ (x : ℕ). cuts + x) (n ∙ byte_one b)) f

  -- m more go in behind those that stand there
  pub more_cut :
      (count : ℕ) (e : List ℤ) (i m cuts : ℕ) (part : List ℤ) (k : ℕ) → i + m ≤ count → count ≤ length d → part ≡ listed m (λ k. cut w16 (g (i + k)))
      → k ≡ cut_count w16 (listed m (λ k. g (i + k))) → CutFilled count e i cuts → CutFilled count (put_mid i m e part) (i + m) (cuts + k)
  more_cut count e i m cuts part k l n q h f =
      record {
        filled = more_filled (λ k. cut w16 (g k)) d count e i m part l n f.filled q;
        counted = ap₂ {C = ℕ} (λ (x y : ℕ). x + y) f.counted h ∙ sym (listed_joined i m g);
      }

  pub all_cut :
      (count : ℕ) (e : List ℤ) (i cuts : ℕ) → count ≤ i → CutFilled count e i cuts
      → (e ≡ listed count (λ k. cut w16 (g k)) ++ drop count d) × (cuts ≡ cut_count w16 (listed count g))
  all_cut count e i cuts l f =
      let q : i ≡ count = omega (arith, f.filled.within) in
      (all_filled (λ k. cut w16 (g k)) d count e i l f.filled, f.counted ∙ ap (λ (n : ℕ). cut_count w16 (listed n g)) q)

  -- the whole span
  pub whole_cut :
      (e : List ℤ) (i cuts : ℕ) → length d ≤ i → CutFilled (length d) e i cuts
      → (e ≡ listed (length d) (λ k. cut w16 (g k))) × (cuts ≡ cut_count w16 (listed (length d) g))
  whole_cut e i cuts l f = (whole_filled (λ k. cut w16 (g k)) d e i l f.filled, (all_cut (length d) e i cuts l f).1)

-- the span and the count of a block that no row turned back, whose first k places were lent to be filled
pub block_cut :
    (number n k : ℕ) (g : ℕ → ℤ) (d part : List ℤ) (cuts : ℕ) → 0 ≡ number → k ≡ min (length d) n
    → part ≡ listed (length (take k d)) (λ i. cut w16 (g i)) → cuts ≡ cut_count w16 (listed (length (take k d)) g)
    → (part ++ drop k d ≡ block_span number (listed n (λ i. cut w16 (g i))) d) × (cuts ≡ block_cuts number (listed n g) d)
block_cut number n k g d part cuts z m h q =
    let l : length (take k d) ≡ k = length-take-le k d (omega (arith, m)) in (
      block_filled number n k (λ i. cut w16 (g i)) d part (sym z) m (h ∙ ap (λ (i : ℕ). listed i (λ j. cut w16 (g j))) l),
      rw (← z) (q ∙ ap (λ (i : ℕ). cut_count w16 (listed i g)) (l ∙ m) ∙ ap (cut_count w16) (sym (least_listed g (length d) n))),
    )
