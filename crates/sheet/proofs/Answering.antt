-- What a number says of the sheet, and which number the tests on the way give: by cases of the tests.
use mathlib.Core.Path.{◌≡◌, refl, sym, ap, ◌∙◌}
use mathlib.Core.Bool.{Bool, true, false, cond}
use mathlib.Core.List.{List, []}
use Prim.Native.Nat.{ℕ, ◌+◌, ◌≤◌, ◌<◌}
use native.Mathlib.Omega.{arith}
use borrow.Author.Tests.{lt-ltb, ltb-true, ltb-false, eqb-true, eq-eqb, ne_eqb}
use lib.Dec.{ltb, eqb}
use lib.ListN.{length, take, drop, length-drop}
use lib.Seq.{length-take-le}
use Rattle.std.specs.Prelude.{Ok, Err}
use Rattle.refusal.specs.Outcome.{Answer, told}
use Rattle.refusal.specs.Table.{number_of}
use Rattle.refusal.specs.declared.Refusal.{Refusal}
use Rattle.refusal.proofs.Limits.{cond_false, first_none}
use Rattle.refusal.proofs.Table.{number_positive}
use Rattle.sheet.specs.Sheet.{Rule, count_of, empty_first, most_entries, data_from, offset, size, directory_broken, entries_fine, reader_number, entry_number, part_at, entry, entry_offset, no_place, place_answer}
use Rattle.sheet.specs.declared.directory.Place.{Place}
use Rattle.sheet.proofs.Passing.{entry_inside}

-- the directory is whole
pub record Whole (rule : Rule) (b : List ℕ) : Type 0 where
  pub two : 2 ≤ length b
  pub most : count_of rule b ≤ most_entries
  pub room : data_from (count_of rule b) ≤ length b

pub whole : (rule : Rule) (b : List ℕ) → directory_broken rule b ≡ false → Whole rule b
unfolding directory_broken
whole rule b e =
    let p = cond_false (ltb (length b) 2) (cond (ltb most_entries (count_of rule b)) true (ltb (length b) (data_from (count_of rule b)))) e in
    let q = cond_false (ltb most_entries (count_of rule b)) (ltb (length b) (data_from (count_of rule b))) p.1 in
    record {
      two = ltb-false (length b) 2 p.0;
      most = ltb-false most_entries (count_of rule b) q.0;
      room = ltb-false (length b) (data_from (count_of rule b)) q.1;
    }

three : (x y z : Bool) → ◌≡◌ {A = ℕ} (cond x 16 (cond y (cond z 0 17) 16)) 0 → (x ≡ false) × ((y ≡ true) × (z ≡ true))
three true y z e = absurd (omega (arith, e))
three false true true e = (refl, (refl, refl))
three false true false e = absurd (omega (arith, e))
three false false z e = absurd (omega (arith, e))

-- a reader that is not refused
pub record Good (rule : Rule) (b : List ℕ) (kept : ℕ) : Type 0 where
  pub unbroken : directory_broken rule b ≡ false
  pub counted : kept ≡ count_of rule b
  pub fine : entries_fine (empty_first rule b) b kept ≡ true

pub good : (rule : Rule) (b : List ℕ) (kept : ℕ) → reader_number rule b kept ≡ 0 → Good rule b kept
unfolding reader_number
good rule b kept e =
    let p = three (directory_broken rule b) (eqb kept (count_of rule b)) (entries_fine (empty_first rule b) b kept) e in
    record { unbroken = p.0; counted = eqb-true kept (count_of rule b) p.1.0; fine = p.1.1 }

-- an entry that is not refused
pub record Found (b : List ℕ) (kept k : ℕ) : Type 0 where
  pub few : kept ≤ most_entries
  pub below : k < kept
  pub room : data_from kept ≤ length b
  pub behind : data_from kept ≤ offset b k
  pub before : offset b k + size b k ≤ length b

below_of : (t : Bool) → ◌≡◌ {A = ℕ} (cond t 0 18) 0 → t ≡ true
below_of true e = refl
below_of false e = absurd (omega (arith, e))

pub found : (rule : Rule) (b : List ℕ) (kept k : ℕ) → entry_number rule b kept k ≡ 0 → Found b kept k
unfolding entry_number
found rule b kept k e =
    let n = first_none (reader_number rule b kept) (cond (ltb k kept) 0 18) e in
    let g = good rule b kept n.0 in
    let w = whole rule b g.unbroken in
    let h : k < kept = ltb-true k kept (below_of (ltb k kept) n.1) in
    let i = entry_inside (empty_first rule b) b kept k g.fine h in
    let q : kept ≡ count_of rule b = g.counted in
    record { few = rw q w.most; below = h; room = rw q w.room; behind = i.behind; before = i.before }

-- ---- the numbers of a reader

module _ (rule : Rule) (b : List ℕ) (kept : ℕ) where
  pub number_broken : directory_broken rule b ≡ true → 16 ≡ reader_number rule b kept
  unfolding reader_number
  number_broken e = rw e

  pub number_fine : directory_broken rule b ≡ false → (n : ℕ) → n ≡ count_of rule b → n ≡ kept → entries_fine (empty_first rule b) b kept ≡ true → 0 ≡ reader_number rule b kept
  unfolding reader_number
  number_fine e n q h f = rw (e, eq-eqb kept (count_of rule b) (sym h ∙ q), f)

module _ (rule : Rule) (b : List ℕ) (kept k : ℕ) where
  pub entry_handed : reader_number rule b kept ≡ 0 → k < kept → 0 ≡ entry_number rule b kept k
  unfolding entry_number
  entry_handed e h = rw (e, lt-ltb k kept h)

  pub entry_none : eqb (entry_number rule b kept k) 0 ≡ false → entry rule b kept k ≡ []
  unfolding entry
  entry_none e = rw e

  pub entry_part : entry_number rule b kept k ≡ 0 → entry rule b kept k ≡ take (size b k) (drop (offset b k) b)
  unfolding entry part_at
  entry_part e = rw e

  pub offset_kept : entry_number rule b kept k ≡ 0 → entry_offset rule b kept k ≡ offset b k
  unfolding entry_offset
  offset_kept e = rw e

  pub entry_length : entry_number rule b kept k ≡ 0 → length (entry rule b kept k) ≡ size b k
  entry_length e =
      let f = found rule b kept k e in
      let g : size b k ≤ length (drop (offset b k) b) = simp length-drop (omega (arith, f.before)) in
      rw (entry_part e) (length-take-le (size b k) (drop (offset b k) b) g)

  at_cases : (t : Bool) → eqb (entry_number rule b kept k) 0 ≡ t → take (length (entry rule b kept k)) (drop (entry_offset rule b kept k) b) ≡ entry rule b kept k
  at_cases true e =
      let z = eqb-true (entry_number rule b kept k) 0 e in
      rw (entry_length z, offset_kept z) (sym (entry_part z))
  at_cases false e = rw (entry_none e)

  -- offset and length say where an entry stands
  pub entry_at : take (length (entry rule b kept k)) (drop (entry_offset rule b kept k) b) ≡ entry rule b kept k
  entry_at = at_cases (eqb (entry_number rule b kept k) 0) refl

-- ---- answers with a value

pub refused_number : (q : Refusal) → eqb (number_of q) 0 ≡ false
refused_number q = let p = number_positive q in let f : number_of q ≡ 0 → ⊥ = omega arith in ne_eqb (number_of q) 0 f

module _ (rule : Rule) (b : List ℕ) (kept k : ℕ) where
  pub place_given : (p : Place) → p.offset ≡ offset b k → p.size ≡ size b k → entry_number rule b kept k ≡ 0 → told no_place (Ok p) ≡ place_answer rule b kept k
  unfolding place_answer
  place_given p e f z = rw (z, offset_kept rule b kept k z, entry_length rule b kept k z, ← e, ← f)

  -- a place that is given
  pub record Given (p : Place) : Type 0 where
    pub number : 0 ≡ entry_number rule b kept k
    pub room : p.offset + p.size ≤ length b
    pub part : take p.size (drop p.offset b) ≡ entry rule b kept k

  pub place_in : (p : Place) → told no_place (Ok p) ≡ place_answer rule b kept k → Given p
  unfolding place_answer
  place_in p e =
      let z : 0 ≡ entry_number rule b kept k = ap (λ (a : Answer Place). a.number) e in
      let o : p.offset ≡ entry_offset rule b kept k = ap (λ (a : Answer Place). a.value.offset) e in
      let s : p.size ≡ length (entry rule b kept k) = ap (λ (a : Answer Place). a.value.size) e in
      let f = found rule b kept k (sym z) in
      let l = entry_length rule b kept k (sym z) in
      let o' = offset_kept rule b kept k (sym z) in
      record { number = z; room = omega (arith, f.before); part = rw (o, s) (entry_at rule b kept k) }

  -- and one that is not
  pub none_in : (q : Refusal) → told no_place (Err q) ≡ place_answer rule b kept k → (number_of q ≡ entry_number rule b kept k) × (entry rule b kept k ≡ [])
  unfolding place_answer
  none_in q e =
      let z : number_of q ≡ entry_number rule b kept k = ap (λ (a : Answer Place). a.number) e in
      (z, entry_none rule b kept k (rw z at (refused_number q)))
