-- The sheet of a line of either kind: how long it is, and that its directory and its entries, put one behind the other, are it.
use mathlib.Core.Path.{◌≡◌, refl, sym, ap, ◌∙◌}
use mathlib.Core.List.{List, [], ◌∷◌, ◌++◌, append_assoc, append-nil}
use Prim.Native.Nat.{ℕ, ◌+◌, ◌≤◌}
use native.Mathlib.Omega.{arith}
use lib.ListN.{length, take}
use Rattle.std.specs.Prelude as std
use Rattle.std.proofs.lemmas.List.Sums.{sum_by-cons}
use Rattle.nonrecursive.specs.declared.thinning.Thinning.{Thinning}
use Rattle.nonrecursive.specs.declared.thinning.Thinning.TheVariants as thinning
use Rattle.line.specs.declared.gauge_line.Line.{Line}
use Rattle.sheet.specs.Sheet.{present, bytes16, count_word, pairs_from, written, data_from, sum, directory_in}
use Rattle.sheet.proofs.Laying.{pairs_length}
use Rattle.sheet.proofs.Writing.{directory_is}
use Rattle.words.proofs.Loops.{laid_whole}
use Rattle.parking.specs.Parked.{Settings, settings_bytes, sizes, thin_sizes, flat, lengths_of, parked}
use Rattle.parking.specs.Entries.{tap_bytes, delay_bytes, stages_bytes, prototype_bytes, resampler_bytes, neighbours_bytes, entries_by}
use Rattle.parking.specs.inner.Told.{Fine, settings_by, count_by, sizes_by, all_sizes, parts, first_by, first_bytes, last_by, last_bytes}
use Rattle.parking.proofs.WholeSheet.{lengths_of_lem, thin_lengths_of, depth_flat, thin_flat}
use Rattle.parking.proofs.ParkedLine.{sheet_long, thin_long, sizes_most, thin_most}

-- the library's sum
pub sum_is : (xs : List ℕ) → std.sum xs ≡ sum xs
unfolding sum
sum_is [] = refl
sum_is (x ∷ xs) = sum_by-cons (λ (n : ℕ). n) x xs ∙ ap (λ (n : ℕ). x + n) (sum_is xs)

-- what stands behind the directory
abbrev pub behind_by : Line → List ℕ
behind_by l =
    settings_bytes (settings_by l)
    ++ (first_bytes l ++ ((tap_bytes l.fir ++ delay_bytes l.fir) ++ (stages_bytes l.half_band l.half_band.depth ++ ((prototype_bytes l.resampler ++ resampler_bytes l.resampler) ++ last_bytes l))))

abbrev pub directory_by : Line → List ℕ
directory_by l = bytes16 (count_word present (count_by l.thinning)) ++ pairs_from (data_from (count_by l.thinning)) (sizes_by l.thinning (settings_by l))

module _ (l : Line) (f : Fine l) where
  lengths_by : (k : Thinning) → lengths_of (entries_by k l.cic l.neighbours l.fir l.half_band l.resampler l.cuts) ≡ sizes_by k (settings_by l)
  unfolding entries_by
  lengths_by thinning.Integrators = lengths_of_lem l.cic l.fir l.half_band l.resampler l.cuts f.lengths.arrays f.limits
  lengths_by thinning.Neighbours = thin_lengths_of l.cic l.neighbours l.fir l.half_band l.resampler l.cuts f.lengths.arrays f.lengths.neighbours f.limits

  sizes_long : (k : Thinning) (q : Settings) → length (sizes_by k q) ≡ count_by k
  unfolding sizes thin_sizes
  sizes_long thinning.Integrators q = refl
  sizes_long thinning.Neighbours q = refl

  pub count_most : (k : Thinning) → count_by k ≤ 8
  count_most thinning.Integrators = omega arith
  count_most thinning.Neighbours = omega arith

  pub most_by : (k : Thinning) → sum (sizes_by k (settings_by l)) ≤ 6000
  most_by thinning.Integrators = sizes_most (settings_by l) f.limits
  most_by thinning.Neighbours = thin_most (settings_by l) f.limits

  pub long_by : (k : Thinning) → length (parked present (entries_by k l.cic l.neighbours l.fir l.half_band l.resampler l.cuts)) ≡ data_from (count_by k) + sum (sizes_by k (settings_by l))
  unfolding entries_by
  long_by thinning.Integrators = sheet_long l.cic l.fir l.half_band l.resampler l.cuts f.lengths.arrays f.limits
  long_by thinning.Neighbours = thin_long l.cic l.neighbours l.fir l.half_band l.resampler l.cuts f.lengths.arrays f.lengths.neighbours f.limits

  flat_by : (k : Thinning) → flat (entries_by k l.cic l.neighbours l.fir l.half_band l.resampler l.cuts)
      ≡ settings_bytes (settings_by l) ++ (first_by k l ++ ((tap_bytes l.fir ++ delay_bytes l.fir) ++ (stages_bytes l.half_band l.half_band.depth ++ ((prototype_bytes l.resampler ++ resampler_bytes l.resampler) ++ last_by k l))))
  unfolding entries_by
  flat_by thinning.Integrators =
      depth_flat l.cic l.fir l.half_band l.resampler l.cuts f.lengths.arrays f.limits
      ∙ rw (append_assoc (tap_bytes l.fir) (delay_bytes l.fir) (stages_bytes l.half_band l.half_band.depth ++ ((prototype_bytes l.resampler ++ resampler_bytes l.resampler) ++ [])), append_assoc (prototype_bytes l.resampler) (resampler_bytes l.resampler) [])
  flat_by thinning.Neighbours =
      let n = neighbours_bytes l.cic l.neighbours in
      thin_flat l.cic l.fir l.half_band l.resampler l.cuts f.lengths.arrays f.limits l.neighbours f.lengths.neighbours
      ∙ rw (append_assoc (tap_bytes l.fir) (delay_bytes l.fir) (stages_bytes l.half_band l.half_band.depth ++ ((prototype_bytes l.resampler ++ resampler_bytes l.resampler) ++ n)), append_assoc (prototype_bytes l.resampler) (resampler_bytes l.resampler) n, append-nil n)

  -- the sheet is its directory and what stands behind
  pub whole_by : directory_by l ++ behind_by l ≡ parked present (parts l)
  unfolding parked written
  whole_by =
      let e = lengths_by l.thinning in
      let n : length (lengths_of (parts l)) ≡ count_by l.thinning = ap length e ∙ sizes_long l.thinning (settings_by l) in
      rw (n, e, flat_by l.thinning)

  -- of the sizes that the code has
  front_sizes : (k : Thinning) (q : Settings) → take (count_by k) (all_sizes k q) ≡ sizes_by k q
  unfolding sizes thin_sizes
  front_sizes thinning.Integrators q = refl
  front_sizes thinning.Neighbours q = refl

  pub sizes_are : (n : ℕ) (xs : List ℕ) (q : Settings) → n ≡ count_by l.thinning → xs ≡ all_sizes l.thinning q → q ≡ settings_by l → take n xs ≡ sizes_by l.thinning (settings_by l)
  sizes_are n xs q e g h = rw (e, g, h) (front_sizes l.thinning (settings_by l))

  pub sum_few : (xs : List ℕ) → xs ≡ sizes_by l.thinning (settings_by l) → std.sum xs ≤ 6000
  sum_few xs e = let m = most_by l.thinning in rw (sum_is xs, e) m

  pub long_of : (xs : List ℕ) → xs ≡ sizes_by l.thinning (settings_by l) → length (parked present (parts l)) ≡ data_from (count_by l.thinning) + std.sum xs
  long_of xs e = rw (sum_is xs, e) (long_by l.thinning)

  all_sum : (k : Thinning) (q : Settings) → std.sum (all_sizes k q) ≡ sum (sizes_by k q)
  unfolding sum sizes thin_sizes
  all_sum thinning.Integrators q = omega arith
  all_sum thinning.Neighbours q = omega arith

  -- the directory, in as many places as it has
  pub directory_put : (lengths s t : List ℕ) (total : ℕ) → lengths ≡ sizes_by l.thinning (settings_by l) → total ≡ sum lengths → length s ≡ data_from (count_by l.thinning)
      → t ≡ directory_in present total lengths s → t ≡ directory_by l
  directory_put lengths s t total e g h d =
      let n : length lengths ≡ count_by l.thinning = ap length e ∙ sizes_long l.thinning (settings_by l) in
      let m = most_by l.thinning in
      let q : sum lengths ≤ 6000 = rw e m in
      let c = count_most l.thinning in
      let p = pairs_length (data_from (count_by l.thinning)) (sizes_by l.thinning (settings_by l)) in
      let z = sizes_long l.thinning (settings_by l) in
      d ∙ directory_is present total lengths s (omega arith) (omega arith) (sym g) (omega arith) ∙ rw (n, e) (laid_whole (directory_by l) s (omega arith))

  -- and what is left for the entries
  pub behind_long : (n m : ℕ) → n ≡ length (parked present (parts l)) → m + data_from (count_by l.thinning) ≡ n → m ≡ std.sum (all_sizes l.thinning (settings_by l))
  behind_long n m e h = let a = long_by l.thinning in let b = all_sum l.thinning (settings_by l) in omega arith

  pub room_by : (n : ℕ) → n ≡ length (parked present (parts l)) → data_from (count_by l.thinning) ≤ n
  room_by n e = let a = long_by l.thinning in omega arith

  pub entries_put : (xs a b c d e g : List ℕ) → xs ≡ a ++ (b ++ (c ++ (d ++ (e ++ g)))) → a ≡ settings_bytes (settings_by l) → b ≡ first_bytes l → c ≡ tap_bytes l.fir ++ delay_bytes l.fir → d ≡ stages_bytes l.half_band l.half_band.depth
      → e ≡ prototype_bytes l.resampler ++ resampler_bytes l.resampler → g ≡ last_bytes l → xs ≡ flat (parts l)
  entries_put xs a b c d e g h i j k m n o = h ∙ rw (i, j, k, m, n, o) (sym (flat_by l.thinning))

  -- all of it
  pub line_put : (a b : List ℕ) → a ≡ directory_by l → b ≡ flat (parts l) → a ++ b ≡ parked present (parts l)
  line_put a b e f = rw (e, f) (ap (λ (z : List ℕ). directory_by l ++ z) (flat_by l.thinning) ∙ whole_by)
