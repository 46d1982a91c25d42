-- The first sum has the samples that are missing to r, and the others r each.
use Rattle.std.proofs.Common.{◌≡◌, ℕ, zero, suc, ◌+◌, ◌-◌, ◌*◌, ◌<◌, ◌≤◌, Bool, false, eqb, List, [], ◌∷◌, ◌++◌, length, take, drop, set, ℤ, sym, ap, ◌∙◌, arith, w32, to_z, of_z, rules, add-mul, one-mul, append-nil, drop_of_length-le, length-drop, length-set, length-take-le, take_all}
use mathlib.Core.Bool.{false≢true}
use Rattle.integer.proofs.Blocking.{first_made}
use Rattle.integer.proofs.cic_decimator.sums.Goals as goal

-- of n sums, which there are, the first has its samples, and those of the others stand behind
record Parted (r j n m : ℕ) : Type 0 where
  pub begun : j < r
  pub first : r - j ≤ m
  pub others : m - (r - j) ≡ (n - 1) * r
  pub none_left : j + m - n * r ≡ 0

parted : (r j n m : ℕ) → j < r → m ≡ n * r - j → 0 < n → Parted r j n m
parted r j n m k long some =
    let e : n ≡ n - 1 + 1 = omega arith in
    let p : n * r ≡ (n - 1) * r + r = ap (λ (i : ℕ). i * r) e ∙ omega (arith, add-mul (n - 1) 1 r, one-mul r) in
    record { begun = k; first = omega arith; others = omega arith; none_left = omega arith }

-- a sum and the others behind it, over a span of so many places
spread : (y : ℤ) (dst made : List ℤ) → 0 < length dst → take 1 (set dst 0 y) ++ (made ++ drop (length (set dst 0 y) - 1) (drop 1 (set dst 0 y))) ≡ y ∷ made
spread y [] made h = absurd (omega arith)
spread y (x ∷ l) made h =
    let n : length (y ∷ l) - 1 ≡ length l = omega arith in
    ap (λ (k : ℕ). y ∷ (made ++ drop k l)) n ∙ ap (λ (o : List ℤ). y ∷ (made ++ o)) (drop_of_length-le l {i = length l} (omega arith)) ∙ ap (λ (o : List ℤ). y ∷ o) (append-nil made)

some : (n : ℕ) (empty : Bool) → empty ≡ false → empty ≡ eqb n 0 → 0 < n
some zero empty f e = absurd (false≢true (sym f ∙ e))
some (suc n) empty f e = omega arith

pub overflow_sub-first : goal.overflow_sub-first
overflow_sub-first c = let k = c.requires.0 in omega arith

pub slice_bounds-sum_of-end : goal.slice_bounds-sum_of-end
slice_bounds-sum_of-end c =
    let p = parted _ _ _ _ c.requires.0 c.requires.1 (some _ _ c.if-is_empty.false c.is_empty.ensures) in
    sym (length-take-le _ c.args.src.now p.first)

pub sum_of-requires : goal.sum_of-requires
sum_of-requires c =
    let p = parted _ _ _ _ c.requires.0 c.requires.1 (some _ _ c.if-is_empty.false c.is_empty.ensures) in
    omega (arith, length-take-le _ c.args.src.now p.first, p.begun)

pub offset_bounds-src-first : goal.offset_bounds-src-first
offset_bounds-src-first c = omega (arith, c.args.settings.inside.1.1)

pub slice_bounds-whole_sums-count : goal.slice_bounds-whole_sums-count
slice_bounds-whole_sums-count c = (parted _ _ _ _ c.requires.0 c.requires.1 (some _ _ c.if-is_empty.false c.is_empty.ensures)).first

pub slice_bounds-whole_sums-start : goal.slice_bounds-whole_sums-start
slice_bounds-whole_sums-start c = (parted _ _ _ _ c.requires.0 c.requires.1 (some _ _ c.if-is_empty.false c.is_empty.ensures)).first

pub whole_sums-requires-2 : goal.whole_sums-requires-2
whole_sums-requires-2 c =
    let a = c.args in
    let y = to_z w32 (of_z w32 c.sum_of.result) in
    let n = some _ _ c.if-is_empty.false c.is_empty.ensures in
    let p = parted _ _ _ _ c.requires.0 c.requires.1 n in
    let src : length (take (length a.src.now - (a.settings.r - a.sample_counter)) (drop (a.settings.r - a.sample_counter) a.src.now)) ≡ length a.src.now - (a.settings.r - a.sample_counter) =
    length-take-le _ _ (omega (arith, length-drop (a.settings.r - a.sample_counter) a.src.now))
    in
    let span = set a.dst.now 0 y in
    let dst : length (take (length span - 1) (drop 1 span)) ≡ length a.dst.now - 1 =
    length-take-le (length span - 1) (drop 1 span) (omega (arith, length-drop 1 span)) ∙ ap (λ (i : ℕ). i - 1) (length-set a.dst.now 0 y)
    in
    src ∙ p.others ∙ ap (λ (i : ℕ). i * a.settings.r) (sym dst)

pub returns-clause-sums : goal.returns-clause-sums
returns-clause-sums c =
    let a = c.args in
    let y = to_z w32 (of_z w32 c.sum_of.result) in
    let sum : y ≡ c.sum_of.result = search rules in
    let n = some _ _ c.if-is_empty.false c.is_empty.ensures in
    let p = parted _ _ _ _ c.requires.0 c.requires.1 n in
    let rest : take (length a.src.now - (a.settings.r - a.sample_counter)) (drop (a.settings.r - a.sample_counter) a.src.now) ≡ drop (a.settings.r - a.sample_counter) a.src.now =
    take_all _ _ (omega (arith, length-drop (a.settings.r - a.sample_counter) a.src.now))
    in
    let first = first_made a.settings.stages a.settings.r a.sample_counter a.integrators.now a.combs.now a.src.now p.begun p.first in
    let made = rw (rest, c.sum_of.ensures.0, c.sum_of.ensures.1) at c.whole_sums-2.ensures.sums in
    spread y a.dst.now c.whole_sums-2.new.dst n ∙ (rw (sum, c.sum_of.ensures.2, made) first.0)

pub returns-clause-state : goal.returns-clause-state
returns-clause-state c =
    let a = c.args in
    let n = some _ _ c.if-is_empty.false c.is_empty.ensures in
    let p = parted _ _ _ _ c.requires.0 c.requires.1 n in
    let rest : take (length a.src.now - (a.settings.r - a.sample_counter)) (drop (a.settings.r - a.sample_counter) a.src.now) ≡ drop (a.settings.r - a.sample_counter) a.src.now =
    take_all _ _ (omega (arith, length-drop (a.settings.r - a.sample_counter) a.src.now))
    in
    let first = first_made a.settings.stages a.settings.r a.sample_counter a.integrators.now a.combs.now a.src.now p.begun p.first in
    let left = rw (rest, c.sum_of.ensures.0, c.sum_of.ensures.1) at c.whole_sums-2.ensures.state in
    rw (p.none_left, left) first.1
