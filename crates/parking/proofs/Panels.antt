-- What holds between panels, over any test `fine` of the FIR limit and the entries: parked entries are found again, and an older panel answers 15, 16 or 21.
use mathlib.Core.Path.{◌≡◌, refl, sym, ap, ◌∙◌}
use mathlib.Core.Bool.{Bool, true, false, cond, ◌&&◌, true≢false}
use mathlib.Core.List.{List, [], ◌∷◌, ◌++◌}
use Prim.Native.Nat.{ℕ, zero, suc, ◌+◌, ◌*◌, ◌-◌, ◌^◌, ◌%◌, ◌/◌, ◌≤◌, ◌<◌}
use native.Mathlib.Omega.{arith}
use borrow.Author.Tests.{eq-eqb, ltb-true, ltb-false}
use lib.Dec.{eqb, ltb}
use lib.ListN.{length, get_or, take, length-append, get_or-append}
use lib.Seq.{take-append_seam, drop-append-add, ext_get_or, get_or_at}
use Rattle.theory.specs.Lists.{listed}
use Rattle.theory.proofs.Listed.{length_listed}
use Rattle.refusal.proofs.Limits.{first_none}
use Rattle.sheet.specs.Sheet.{Rule, former, present, le16, le32, mark, count_of, most_entries, data_from, sheet_number, reader_number, entry_number, part_at, bytes32, sum, written, marked, laid_entry, ReadsBack}
use Rattle.sheet.proofs.Answering.{entry_part}
use Rattle.sheet.proofs.Writing.{Laid}
use Rattle.sheet.proofs.RoundTrip.{found_at, reads_back}
use Rattle.sheet.proofs.Rules.{count_same, number_same, marked_refused, written_marked}
use Rattle.parking.specs.Older.{formerly}
use Rattle.parking.specs.Parked.{Panel, at6, at7, panel, Settings, settings_bytes, settings_of, sizes, thin_sizes, same, flat, lengths_of, parked, entries_of, shaped, take_up_number}

-- ---- the settings are read as they were written

pub record Fits (s : Settings) : Type 0 where
  pub stages : s.stages < 65536
  pub r : s.r < 65536
  pub taps : s.taps < 65536
  pub factor : s.factor < 65536
  pub depth : s.depth < 65536
  pub phases : s.phases < 65536
  pub phase_taps : s.phase_taps < 65536
  pub straight : s.straight < 65536
  pub step : s.step < 4294967296
  pub cuts : s.cuts < 4294967296

two_digits : (n : ℕ) → n < 65536 → n % 256 + 256 * (n / 256 % 256) ≡ n
two_digits n h = omega arith

pub settings_back : (s : Settings) → Fits s → settings_of (settings_bytes s) ≡ s
unfolding settings_of settings_bytes le16
settings_back s f =
    let a : le32 (settings_bytes s) 16 ≡ s.step = found_at (settings_bytes s) 16 s.step (bytes32 s.cuts) refl f.step in
    let b : le32 (settings_bytes s) 20 ≡ s.cuts = found_at (settings_bytes s) 20 s.cuts [] refl f.cuts in
    rw (two_digits s.stages f.stages, two_digits s.r f.r, two_digits s.taps f.taps, two_digits s.factor f.factor, two_digits s.depth f.depth, two_digits s.phases f.phases, two_digits s.phase_taps f.phase_taps, two_digits s.straight f.straight, a, b)

-- ---- entries laid one behind the other

pub laid_of : (es : List (List ℕ)) (k : ℕ) → k < length es → laid_entry (flat es) (lengths_of es) k ≡ get_or es k []
unfolding laid_entry flat lengths_of sum
laid_of [] k h = absurd (omega arith)
laid_of (e ∷ es) zero h = take-append_seam e (flat es)
laid_of (e ∷ es) (suc k) h =
    let g : k < length es = omega arith in
    ap (λ (l : List ℕ). take (get_or (lengths_of es) k 0) l) (drop-append-add e (flat es) (sum (take k (lengths_of es)))) ∙ laid_of es k g

count_of_lengths : (es : List (List ℕ)) → length (lengths_of es) ≡ length es
unfolding lengths_of
count_of_lengths [] = refl
count_of_lengths (e ∷ es) = ap suc (count_of_lengths es)

pub sum_of_lengths : (es : List (List ℕ)) → sum (lengths_of es) ≡ length (flat es)
unfolding lengths_of flat sum
sum_of_lengths [] = refl
sum_of_lengths (e ∷ es) = rw (sum_of_lengths es, length-append e (flat es))

same_refl : (l : List ℕ) → same l l ≡ true
unfolding same
same_refl [] = refl
same_refl (n ∷ l) = rw (eq-eqb n n refl, same_refl l)

-- the k-th of a listing
listed_case : (n : ℕ) (g : ℕ → List ℕ) (k : ℕ) → k < suc n → (k < n → get_or (listed n g) k [] ≡ g k) → (t : Bool) → ltb k n ≡ t → get_or (listed n g ++ (g n ∷ [])) k [] ≡ g k
listed_case n g k h below true e =
    let l : k < n = ltb-true k n e in
    let m : k < length (listed n g) = rw (length_listed n g) l in
    get_or-append (listed n g) (g n ∷ []) [] k m ∙ below l
listed_case n g k h below false e =
    let q : k ≡ n = omega (arith, ltb-false k n e) in
    rw q (get_or_at (listed n g) (g n) [] [] n (length_listed n g))

get_d_listed : (n : ℕ) (g : ℕ → List ℕ) (k : ℕ) → k < n → get_or (listed n g) k [] ≡ g k
get_d_listed zero g k h = absurd (omega arith)
get_d_listed (suc n) g k h = listed_case n g k h (get_d_listed n g k) (ltb k n) refl

-- entries of which a sheet can be made
pub record Small (es : List (List ℕ)) : Type 0 where
  pub some : 0 < length es
  pub few : length es ≤ most_entries
  pub most : data_from (length es) + length (flat es) ≤ 2 ^ 32 - 1

laid : (es : List (List ℕ)) → Small es → Laid (flat es) (lengths_of es) (data_from (length es) + length (flat es))
laid es s =
    let c : length (lengths_of es) ≡ length es = count_of_lengths es in
    record { few = rw c s.few; adds = sum_of_lengths es; most = rw c s.most; room = rw c (omega arith) }

module _ (rule : Rule) (es : List (List ℕ)) (s : Small es) where
  back : ReadsBack rule (flat es) (lengths_of es) (parked rule es)
  unfolding parked
  back = reads_back rule (flat es) (lengths_of es) (data_from (length es) + length (flat es)) (laid es s)

  count_is : count_of rule (parked rule es) ≡ length es
  count_is = back.count ∙ count_of_lengths es

  pub part_is : (k : ℕ) → k < length es → part_at (parked rule es) k ≡ get_or es k []
  unfolding part_at
  part_is k h =
      let g : k < length (lengths_of es) = rw (count_of_lengths es) h in
      sym (entry_part rule (parked rule es) (length (lengths_of es)) k (back.number k g)) ∙ back.entries k g ∙ laid_of es k h

  pub number_is : sheet_number rule (parked rule es) ≡ 0
  unfolding sheet_number entry_number
  number_is =
      let z : 0 < length (lengths_of es) = rw (count_of_lengths es) s.some in
      rw back.count (first_none (reader_number rule (parked rule es) (length (lengths_of es))) _ (back.number 0 z)).0

  pub entries_back : entries_of rule (parked rule es) ≡ es
  unfolding entries_of
  entries_back =
      rw count_is
      (ext_get_or [] (listed (length es) (part_at (parked rule es))) es (length_listed (length es) (part_at (parked rule es)))
      (λ k h. let g : k < length es = rw (length_listed (length es) (part_at (parked rule es))) at h in get_d_listed (length es) (part_at (parked rule es)) k g ∙ part_is k g))

-- ---- what a panel answers

module _ (fine : ℕ → List (List ℕ) → Bool) (v : Panel) (es : List (List ℕ)) (s : Small es) where
  answers : take_up_number fine v (parked v.rule es) ≡ cond (shaped v es) (cond (fine v.most_taps es) 0 15) 21
  unfolding take_up_number
  answers = rw (number_is v.rule es s, entries_back v.rule es s)

  -- request 6: a sheet that this panel parked is taken up, entry by entry (`entries_back`)
  pub taken_up_lem : shaped v es ≡ true → fine v.most_taps es ≡ true → take_up_number fine v (parked v.rule es) ≡ 0
  taken_up_lem h f = answers ∙ rw (h, f)

  -- request 7: entries of the right lengths that the panel's limit refuses; "answers 15, never a shortened filter"
  pub past_limit : shaped v es ≡ true → fine v.most_taps es ≡ false → take_up_number fine v (parked v.rule es) ≡ 15
  past_limit h f = answers ∙ rw (h, f)

  pub misshapen : shaped v es ≡ false → take_up_number fine v (parked v.rule es) ≡ 21
  misshapen h = answers ∙ rw h

-- the lengths that the settings make are the panel's, at any value of them
pub seven_shaped : (v : Panel) (q : Settings) → Fits q → (es : List (List ℕ)) → get_or es 0 [] ≡ settings_bytes q → length es ≡ 7 → lengths_of es ≡ sizes q → shaped v es ≡ true
unfolding shaped
seven_shaped v q f es e n l = rw (eq-eqb (length es) 7 n, e, settings_back q f, l) (same_refl (sizes q))

-- of eight, where the panel knows neighbours
pub eight_shaped : (v : Panel) → v.thinning ≡ true → (q : Settings) → Fits q → (es : List (List ℕ)) → get_or es 0 [] ≡ settings_bytes q → length es ≡ 8 → lengths_of es ≡ thin_sizes q → shaped v es ≡ true
unfolding shaped
eight_shaped v t q f es e n l = rw (n, t, e, settings_back q f, l) (same_refl (thin_sizes q))

-- what a panel without neighbours takes for shaped is shaped for one with them
pub shaped_wider : (v w : Panel) → v.thinning ≡ false → (es : List (List ℕ)) → shaped v es ≡ true → shaped w es ≡ true
unfolding shaped
shaped_wider v w t es e = go (eqb (length es) 7) refl
  where
    sevens : Bool
    sevens = same (lengths_of es) (sizes (settings_of (get_or es 0 [])))

    eights : Panel → Bool
    eights u = cond (u.thinning && eqb (length es) 8) (same (lengths_of es) (thin_sizes (settings_of (get_or es 0 [])))) false

    go : (b : Bool) → eqb (length es) 7 ≡ b → cond (eqb (length es) 7) sevens (eights w) ≡ true
    go true p = rw p (rw p at e)
    go false p = (let q : false ≡ true = rw (p, t) at e in absurd (true≢false (sym q)))

-- request 13: eight entries, "so a panel made after §9 and before this answers 21"
pub eight_misshapen : (v : Panel) → v.thinning ≡ false → (es : List (List ℕ)) → length es ≡ 8 → shaped v es ≡ false
unfolding shaped
eight_misshapen v t es n = rw (n, t)

-- "A reader made before this answers a new sheet with 16"
pub marked_parked : (fine : ℕ → List (List ℕ) → Bool) (v : Panel) → v.rule ≡ former → (b : List ℕ) → mark ≤ le16 b 0 → take_up_number fine v b ≡ 16
unfolding take_up_number sheet_number
marked_parked fine v e b h = rw (e, marked_refused b h (count_of former b))

pub present_marked : (es : List (List ℕ)) → Small es → mark ≤ le16 (parked present es) 0
unfolding parked written le16
present_marked es s =
    let f : length (lengths_of es) ≤ most_entries = rw (count_of_lengths es) s.few in
    let d = two_digits (mark + length (lengths_of es)) (omega arith) in
    omega arith

pub older_refuses : (fine : ℕ → List (List ℕ) → Bool) (v : Panel) → v.rule ≡ former → (es : List (List ℕ)) → Small es → take_up_number fine v (parked present es) ≡ 16
older_refuses fine v e es s = marked_parked fine v e (parked present es) (present_marked es s)

-- "But for that bit, the bytes that §7 keeps are kept"
pub parked_marked : (es : List (List ℕ)) → Small es → parked present es ≡ marked (parked former es)
unfolding parked
parked_marked es s = written_marked (flat es) (lengths_of es) (rw (count_of_lengths es) s.few)

-- sheets parked before request 9 are taken up as they were
pub unmarked_same : (fine : ℕ → List (List ℕ) → Bool) (b : List ℕ) → le16 b 0 < mark → take_up_number fine panel b ≡ take_up_number fine (formerly panel) b
unfolding take_up_number sheet_number entries_of shaped
unmarked_same fine b h = rw (number_same b h (count_of present b), count_same b h)

-- and those before request 7, where what fits 64 taps fits 128
still_case : (x : ℕ) (s f g : Bool) → (f ≡ true → g ≡ true) → cond (eqb x 0) (cond s (cond f 0 15) 21) x ≡ 0 → cond (eqb x 0) (cond s (cond g 0 15) 21) x ≡ 0
still_case x s true g h e = rw (h refl) e
still_case x true false g h e = absurd (no (eqb x 0) refl)
  where
    no : (t : Bool) → eqb x 0 ≡ t → ⊥
    no true q = let w : ◌≡◌ {A = ℕ} 15 0 = rw q at e in omega (arith, w)
    no false q = let w : x ≡ 0 = rw q at e in true≢false (sym (eq-eqb x 0 w) ∙ q)
still_case x false false g h e = e

pub still_taken : (fine : ℕ → List (List ℕ) → Bool) → ((es : List (List ℕ)) → fine 64 es ≡ true → fine 128 es ≡ true) → (b : List ℕ) → take_up_number fine at6 b ≡ 0 → take_up_number fine at7 b ≡ 0
unfolding take_up_number shaped
still_taken fine h b e = still_case (sheet_number former b) (shaped at6 (entries_of former b)) (fine 64 (entries_of former b)) (fine 128 (entries_of former b)) (h (entries_of former b)) e

-- and those of a panel that knew no neighbours
wider_case : (x : ℕ) (s t f : Bool) → (s ≡ true → t ≡ true) → cond (eqb x 0) (cond s (cond f 0 15) 21) x ≡ 0 → cond (eqb x 0) (cond t (cond f 0 15) 21) x ≡ 0
wider_case x true t f h e = rw (h refl) e
wider_case x false t f h e = absurd (no (eqb x 0) refl)
  where
    no : (b : Bool) → eqb x 0 ≡ b → ⊥
    no true q = let w : ◌≡◌ {A = ℕ} 21 0 = rw q at e in omega (arith, w)
    no false q = let w : x ≡ 0 = rw q at e in true≢false (sym (eq-eqb x 0 w) ∙ q)

pub wider_taken :
    (fine : ℕ → List (List ℕ) → Bool) (most : ℕ) (rule : Rule) (b : List ℕ) → take_up_number fine (record { most_taps = most; rule = rule; thinning = false }) b ≡ 0
    → take_up_number fine (record { most_taps = most; rule = rule; thinning = true }) b ≡ 0
unfolding take_up_number
wider_taken fine most rule b e =
    wider_case (sheet_number rule b) (shaped (record { most_taps = most; rule = rule; thinning = false }) (entries_of rule b)) (shaped (record { most_taps = most; rule = rule; thinning = true }) (entries_of rule b))
    (fine most (entries_of rule b)) (shaped_wider _ _ refl (entries_of rule b)) e
