-- The two rearrangements of a prototype are one, with P and T exchanged: a place is a number of two digits, to the bases P and T, and is written anew with the digits exchanged.
use mathlib.Core.Path.{◌≡◌, refl, sym, ap, ap₂, ◌∙◌, subst}
use mathlib.Core.Bool.{Bool, true, false, ◌&&◌}
use mathlib.Core.List.{List, [], ◌∷◌, ◌++◌}
use Prim.Native.Nat.{ℕ, zero, suc, ◌+◌, ◌*◌, ◌/◌, ◌%◌, ◌≤◌, ◌<◌}
use native.Mathlib.Nat.{mul_comm, mul-zero, mod-lt, div-add-mod', div-lt_iff_lt-mul}
use native.Mathlib.Omega.{arith}
use borrow.Author.Tests.{ltb-true, ltb-false, eqb-true}
use lib.Dec.{ltb, eqb}
use lib.Arith.{digits_lt, digits_div, digits_mod}
use lib.ListN.{length, get_or, take, get_or-append}
use lib.Seq.{take-suc, take_all, get_or_at}
use lib.Ieee.{Float, nan}
use Rattle.float.specs.PolyphaseOpening.{in_limits}
use Rattle.float.proofs.PolyphaseOutput.{limits_say}
use Rattle.theory.specs.Lists.{listed}
use Rattle.theory.proofs.Listed.{length_listed}
use Rattle.std.proofs.lemmas.Bool.{and_parts}
use Rattle.phase_rows.specs.PhaseRows.{place_by_tap, by_phase, InRows, Reordered, Rearranges, lengths_fit}

-- ---- lists by index
get_d_listed : {A : Type 0} (n : ℕ) (g : ℕ → A) (i : ℕ) (d : A) → i < n → get_or (listed n g) i d ≡ g i
get_d_listed zero g i d h = absurd (omega arith)
get_d_listed {A} (suc n) g i d h = go (ltb i n) refl (λ l. get_d_listed n g i d l)
  where
    go : (b : Bool) → ltb i n ≡ b → (i < n → get_or (listed n g) i d ≡ g i) → get_or (listed n g ++ (g n ∷ [])) i d ≡ g i
    go true e ih =
        let l = ltb-true i n e in
        get_or-append (listed n g) (g n ∷ []) d i (omega (arith, length_listed n g)) ∙ ih l
    go false e ih =
        let l = ltb-false i n e in
        let q : i ≡ n = omega arith in
        ap (λ (k : ℕ). get_or (listed n g ++ (g n ∷ [])) k d) q ∙ get_or_at (listed n g) (g n) [] d n (length_listed n g) ∙ ap g (sym q)

listed_of : {A : Type 0} (n : ℕ) (g : ℕ → A) (l : List A) (d : A) → length l ≡ n → ((i : ℕ) → i < n → g i ≡ get_or l i d) → listed n g ≡ l
listed_of {A} n g l d e h = ap {B = List A} (λ (k : ℕ). listed k g) (sym e) ∙ go (length l) (omega arith) ∙ take_all (length l) l (omega arith)
  where
    go : (k : ℕ) → k ≤ length l → listed k g ≡ take k l
    go zero q = refl
    go (suc k) q =
        ap₂ {C = List A} (λ (v : List A) (a : A). v ++ (a ∷ [])) (go k (omega arith)) (h k (omega arith)) ∙ sym (take-suc l k d q)

-- ---- places
module _ (P T : ℕ) where
  pub inside : (i : ℕ) → i < P * T → place_by_tap P T i < P * T
  inside i h = go P T h
    where
      go : (P T : ℕ) → i < P * T → place_by_tap P T i < P * T
      go P zero h = absurd (omega (arith, mul-zero P))
      go P (suc T) h =
          let t : i % suc T < suc T = mod-lt i (omega arith) in
          let p : i / suc T < P = (div-lt_iff_lt-mul {k = suc T} {x = i} {y = P} (omega arith)).1 h in
          subst (λ (n : ℕ). place_by_tap P (suc T) i < n) (mul_comm (suc T) P) (digits_lt t p)

  there_and_back : (i : ℕ) → i < P * T → place_by_tap T P (place_by_tap P T i) ≡ i
  there_and_back i h = go P T h
    where
      go : (P T : ℕ) → i < P * T → place_by_tap T P (place_by_tap P T i) ≡ i
      go P zero h = absurd (omega (arith, mul-zero P))
      go P (suc T) h =
          let p : i / suc T < P = (div-lt_iff_lt-mul {k = suc T} {x = i} {y = P} (omega arith)).1 h in
          ap₂ {C = ℕ} (λ (a b : ℕ). a * suc T + b) (digits_mod (i % suc T) p) (digits_div (i % suc T) p) ∙ div-add-mod' i (suc T)

below : (P T i : ℕ) → i < P * T → i < T * P
below P T i h = subst (λ (n : ℕ). i < n) (mul_comm P T) h

-- ---- the rearrangement, for either direction
turned_rows : (P T : ℕ) (h : List Float) → InRows P T h (by_phase P T h)
unfolding by_phase
turned_rows P T h p t hp ht =
    get_d_listed (P * T) (λ i. get_or h (place_by_tap P T i) nan) (p * T + t) nan (digits_lt hp ht)
    ∙ ap₂ {C = Float} (λ (a b : ℕ). get_or h (a * P + b) nan) (digits_mod p ht) (digits_div p ht)

turned_back : (P T : ℕ) (h : List Float) → length h ≡ P * T → by_phase T P (by_phase P T h) ≡ h
unfolding by_phase
turned_back P T h e =
    listed_of (T * P) _ h nan (e ∙ mul_comm P T)
    (λ j q.
    get_d_listed (P * T) (λ i. get_or h (place_by_tap P T i) nan) (place_by_tap T P j) nan (below T P (place_by_tap T P j) (inside T P j q))
    ∙ ap (λ (k : ℕ). get_or h k nan) (there_and_back T P j q))

turned_order : (P T : ℕ) (h : List Float) → length h ≡ P * T → Reordered h (by_phase P T h)
unfolding by_phase
turned_order P T h e =
    let in_h : (i : ℕ) → i < length h → i < P * T = λ i q. subst (λ (n : ℕ). i < n) e q in
    let of_h : (i : ℕ) → i < P * T → i < length h = λ i q. subst (λ (n : ℕ). i < n) (sym e) q in
    record {
      same_length = length_listed (P * T) _ ∙ sym e;
      from = place_by_tap P T;
      to = place_by_tap T P;
      from_inside = λ i q. of_h _ (inside P T i (in_h i q));
      to_inside = λ i q. of_h _ (below T P _ (inside T P i (below P T i (in_h i q))));
      to_from = λ i q. there_and_back P T i (in_h i q);
      from_to = λ i q. there_and_back T P i (below P T i (in_h i q));
      moved = λ i q. get_d_listed (P * T) _ i nan (in_h i q);
    }

pub rearranges : (P T : ℕ) (h : List Float) → length h ≡ P * T → Rearranges P T h
rearranges P T h e =
    let o = e ∙ mul_comm P T in
    record {
      rows = turned_rows P T h;
      rows_back = λ p t hp ht. sym (turned_rows T P h t p ht hp);
      back = turned_back P T h e;
      forth = turned_back T P h o;
      phases_reordered = turned_order P T h e;
      taps_reordered = turned_order T P h o;
    }

-- ---- the calls
-- what 12 and 13 leave, to be turned in either direction
pub passed : (P T n m : ℕ) → (in_limits P T && lengths_fit P T n m) ≡ true → ((P ≤ 64) × (T ≤ 64) × (n ≡ P * T) × (m ≡ P * T)) × ((T ≤ 64) × (P ≤ 64) × (n ≡ T * P) × (m ≡ T * P))
unfolding lengths_fit
passed P T n m h =
    let b = and_parts (in_limits P T) (lengths_fit P T n m) h in
    let l = limits_say P T b.0 in
    let e = and_parts (eqb n (P * T)) (eqb m n) b.1 in
    let src = eqb-true n (P * T) e.0 in
    let dst = eqb-true m n e.1 ∙ src in
    let turned = mul_comm P T in
    ((omega (arith, l), omega (arith, l), src, dst), (omega (arith, l), omega (arith, l), src ∙ turned, dst ∙ turned))
