-- What is read from an entry of the right length is written as it stood: words of any width by one law, then each part of a line.
use mathlib.Core.Path.{◌≡◌, refl, sym, ap, ap₂, ◌∙◌, subst}
use mathlib.Core.Bool.{true}
use mathlib.Core.List.{List, [], ◌∷◌, ◌++◌, append_assoc, append-nil}
use Prim.Native.Nat.{ℕ, zero, suc, ◌+◌, ◌*◌, ◌-◌, ◌%◌, ◌/◌, ◌≤◌, ◌<◌}
use native.Mathlib.Numerals.{add-one}
use native.Mathlib.Omega.{arith}
use native.Mathlib.Decide.{dec_lt}
use borrow.Author.Tests.{eqb-true}
use lib.IntN.{pos}
use lib.Ieee.{binary32, to_bits, of_bits}
use lib.ListN.{length, get_or, set, take, drop, replicate, length-drop, length-set, drop_of_length-le}
use lib.Seq.{drop-cons, drop_at, take_at, take-append-le, drop-append-le, get_or-set_same, get_or-set_other, length-take-le}
use mir.Syntax.{w16, w32}
use mir.Facts.{of_z-to_z}
use Rattle.nonrecursive.specs.NonrecursiveDecimator.{most_neighbours}
use Rattle.q15.specs.FirDecimator.{most_taps}
use Rattle.std.proofs.lemmas.Bool.{and_parts}
use Rattle.sheet.specs.Sheet.{le16, le32, bytes16, bytes32}
use Rattle.sheet.specs.Laid.{laid}
use Rattle.sheet.proofs.Laying.{laid_front, laid_length}
use Rattle.words.specs.Fields.{i16_bytes, i32_bytes, f32_bytes, joined, i16_at, i32_at, f32_at, values_at, is_float, floats_at, All}
use Rattle.sheet.proofs.Passing.{every_at}
use Rattle.parking.specs.Parked.{Settings, settings_bytes, settings_of, half_band_bytes, neighbour_count}
use Rattle.parking.specs.Entries.{cic_bytes, neighbours_bytes, tap_bytes, delay_bytes, window_of, stage_bytes, stages_bytes, prototype_bytes, resampler_bytes, cic_from, place_from, neighbours_from, fir_from, counts_from, held_from, delays_from, resampler_from, stages_written}
use Rattle.words.proofs.Fields.{all_get_d, values_length}
use Rattle.parking.proofs.Back.{bytes_more}
use Rattle.parking.proofs.WholeFloats.{window_most}
use Rattle.half_band.specs.declared.hbf_stream.HbfStream.{HbfStream}
use Rattle.float.specs.F32.{zero32}

abbrev pub Byte : ℕ → Type 0
Byte n = n < 256

byte_at : (b : List ℕ) (k : ℕ) → All Byte b → get_or b k 0 < 256
byte_at b k a = all_get_d Byte b k 0 a (omega arith)

-- ---- one word, with what stands behind it

two_front : (b : List ℕ) (at : ℕ) → at + 2 ≤ length b → drop at b ≡ get_or b at 0 ∷ get_or b (at + 1) 0 ∷ drop (at + 2) b
two_front b at h =
    let e : suc at ≡ at + 1 = sym (add-one at) in
    let f : suc (suc at) ≡ at + 2 = omega arith in
    drop-cons b at 0 (omega arith) ∙ ap (λ (l : List ℕ). get_or b at 0 ∷ l) (drop-cons b (suc at) 0 (omega arith) ∙ ap₂ {C = List ℕ} (λ (i j : ℕ). get_or b i 0 ∷ drop j b) e f)

digits : (x y : ℕ) → x < 256 → y < 256 → bytes16 (x + 256 * y) ≡ x ∷ y ∷ []
digits x y h g = ap₂ {C = List ℕ} (λ (i j : ℕ). i ∷ j ∷ []) (low x y h g) (high x y h g)
  where
    low : (x y : ℕ) → x < 256 → y < 256 → (x + 256 * y) % 256 ≡ x
    low x y h g = omega arith

    high : (x y : ℕ) → x < 256 → y < 256 → (x + 256 * y) / 256 % 256 ≡ y
    high x y h g = omega arith

pub two_again : (b : List ℕ) (at : ℕ) → All Byte b → at + 2 ≤ length b → bytes16 (le16 b at) ++ drop (at + 2) b ≡ drop at b
unfolding le16
two_again b at a h =
    ap (λ (l : List ℕ). l ++ drop (at + 2) b) (digits (get_or b at 0) (get_or b (at + 1) 0) (byte_at b at a) (byte_at b (at + 1) a)) ∙ sym (two_front b at h)

halves : (m n : ℕ) → m < 65536 → n < 65536 → bytes32 (m + 65536 * n) ≡ bytes16 m ++ bytes16 n
halves m n h g = rw (first m n h, second m n h, third m n h, fourth m n h)
  where
    first : (m n : ℕ) → m < 65536 → (m + 65536 * n) % 256 ≡ m % 256
    first m n h = omega arith

    second : (m n : ℕ) → m < 65536 → (m + 65536 * n) / 256 % 256 ≡ m / 256 % 256
    second m n h = omega arith

    third : (m n : ℕ) → m < 65536 → (m + 65536 * n) / 65536 % 256 ≡ n % 256
    third m n h = omega arith

    fourth : (m n : ℕ) → m < 65536 → (m + 65536 * n) / 16777216 % 256 ≡ n / 256 % 256
    fourth m n h = omega arith

half_below : (b : List ℕ) (at : ℕ) → All Byte b → le16 b at < 65536
unfolding le16
half_below b at a = let x = byte_at b at a in let y = byte_at b (at + 1) a in omega arith

word_below : (b : List ℕ) (at : ℕ) → All Byte b → le32 b at < 4294967296
unfolding le32
word_below b at a = let x = half_below b at a in let y = half_below b (at + 2) a in omega arith

pub four_again : (b : List ℕ) (at : ℕ) → All Byte b → at + 4 ≤ length b → bytes32 (le32 b at) ++ drop (at + 4) b ≡ drop at b
unfolding le32
four_again b at a h =
    let e : at + 2 + 2 ≡ at + 4 = omega arith in
    ap (λ (l : List ℕ). l ++ drop (at + 4) b) (halves (le16 b at) (le16 b (at + 2)) (half_below b at a) (half_below b (at + 2) a))
    ∙ append_assoc (bytes16 (le16 b at)) (bytes16 (le16 b (at + 2))) (drop (at + 4) b)
    ∙ ap (λ (k : ℕ). bytes16 (le16 b at) ++ (bytes16 (le16 b (at + 2)) ++ drop k b)) (sym e)
    ∙ ap (λ (l : List ℕ). bytes16 (le16 b at) ++ l) (two_again b (at + 2) a (omega arith))
    ∙ two_again b at a (omega arith)

-- ---- a width: what is read where the bytes are `Fine` is written as it stood

pub record Writes {A : Type 0} (bytes : A → List ℕ) (read : List ℕ → ℕ → A) (w : ℕ) (Fine : List ℕ → ℕ → Type 0) : Type 0 where
  pub writes : (b : List ℕ) (at : ℕ) → All Byte b → at + w ≤ length b → Fine b at → bytes (read b at) ++ drop (at + w) b ≡ drop at b

abbrev Any : List ℕ → ℕ → Type 0
Any b at = Unit {0}

abbrev FloatAt : List ℕ → ℕ → Type 0
FloatAt b at = is_float (le32 b at) ≡ true

pub writes_i16 : Writes i16_bytes i16_at 2 Any
writes_i16 = record { writes = λ b at a h f. ap (λ (n : ℕ). bytes16 n ++ drop (at + 2) b) (of_z-to_z {w = w16} (record { fits = half_below b at a })) ∙ two_again b at a h }

pub writes_i32 : Writes i32_bytes i32_at 4 Any
writes_i32 = record { writes = λ b at a h f. ap (λ (n : ℕ). bytes32 n ++ drop (at + 4) b) (of_z-to_z {w = w32} (record { fits = word_below b at a })) ∙ four_again b at a h }

pub writes_f32 : Writes f32_bytes f32_at 4 FloatAt
writes_f32 = record { writes = λ b at a h f. ap (λ (n : ℕ). bytes32 n ++ drop (at + 4) b) (eqb-true (to_bits binary32 (of_bits binary32 (le32 b at))) (le32 b at) f) ∙ four_again b at a h }

-- values one behind the other
module _ {A : Type 0} {bytes : A → List ℕ} {read : List ℕ → ℕ → A} {w : ℕ} {Fine : List ℕ → ℕ → Type 0} (r : Writes bytes read w Fine) (b : List ℕ) (a : All Byte b) where
  pub values_again : (n at : ℕ) → at + w * n ≤ length b → ((i : ℕ) → i < n → Fine b (at + w * i)) → joined bytes (values_at read w b at n) ++ drop (at + w * n) b ≡ drop at b
  unfolding values_at joined
  values_again zero at h f = ap (λ (k : ℕ). drop k b) (let q : at + w * 0 ≡ at = omega arith in q)
  values_again (suc n) at h f =
      let e : at + w * suc n ≡ at + w + w * n = omega arith in
      let g : at + w ≤ length b = omega arith in
      let z : at + w * 0 ≡ at = omega arith in
      append_assoc (bytes (read b at)) (joined bytes (values_at read w b (at + w) n)) (drop (at + w * suc n) b)
      ∙ ap (λ (k : ℕ). bytes (read b at) ++ (joined bytes (values_at read w b (at + w) n) ++ drop k b)) e
      ∙ ap (λ (l : List ℕ). bytes (read b at) ++ l)
      (values_again n (at + w) (omega arith) (λ i l. subst (Fine b) (let q : at + w * suc i ≡ at + w + w * i = omega arith in q) (f (suc i) (omega arith))))
      ∙ r.writes b at a g (subst (Fine b) z (f 0 (omega arith)))

pub floats_fine : (b : List ℕ) (at n : ℕ) → floats_at b at n ≡ true → (i : ℕ) → i < n → FloatAt b (at + 4 * i)
unfolding floats_at
floats_fine b at n e = every_at n (λ i. is_float (le32 b (at + 4 * i))) e

-- values laid over zeros, and taken from there
pub front_again : {A : Type 0} (vs s : List A) (n : ℕ) → length vs ≡ n → take n (laid 0 vs s) ≡ vs
front_again {A} vs s n l = ap (take n) (laid_front vs s) ∙ take_at vs (drop (length vs) s) n l

-- nothing stands behind the end
pub nothing_behind : (b : List ℕ) (k : ℕ) → length b ≡ k → drop k b ≡ []
nothing_behind b k e = drop_of_length-le b {i = k} (let h : length b ≤ k = omega arith in h)

-- ---- the parts

module _ (q : Settings) (e : List ℕ) (a : All Byte e) (long : length e ≡ 2 + 8 * q.stages) where
  pub cic_again : cic_bytes (cic_from q e) ≡ e
  unfolding cic_bytes cic_from
  cic_again =
      let N = q.stages in
      let xs = values_at i32_at 4 e 2 N in
      let ys = values_at i32_at 4 e (2 + 4 * N) N in
      let k : 2 + 4 * N + 4 * N ≡ 2 + 8 * N = omega arith in
      rw (front_again xs (replicate 8 (pos 0)) N (values_length i32_at 4 e N 2), front_again ys (replicate 8 (pos 0)) N (values_length i32_at 4 e N (2 + 4 * N)))
      (ap (λ (l : List ℕ). bytes16 (le16 e 0) ++ (joined i32_bytes xs ++ l))
      (sym (append-nil (joined i32_bytes ys)) ∙ ap (λ (l : List ℕ). joined i32_bytes ys ++ l) (sym (nothing_behind e (2 + 4 * N + 4 * N) (long ∙ sym k))) ∙ values_again writes_i32 e a N (2 + 4 * N) (omega arith) (λ i h. tt))
      ∙ ap (λ (l : List ℕ). bytes16 (le16 e 0) ++ l) (values_again writes_i32 e a N 2 (omega arith) (λ i h. tt))
      ∙ two_again e 0 a (omega arith))

pub neighbours_again : (q : Settings) (e : List ℕ) → All Byte e → length e ≡ 2 + 4 * neighbour_count q.stages q.r → neighbours_bytes (place_from q e) (neighbours_from q e) ≡ e
unfolding neighbours_bytes place_from neighbours_from
neighbours_again q e a long =
    let n = neighbour_count q.stages q.r in
    let xs = values_at i32_at 4 e 2 n in
    rw (front_again xs (replicate most_neighbours (pos 0)) n (values_length i32_at 4 e n 2))
    (ap (λ (l : List ℕ). bytes16 (le16 e 0) ++ l)
    (sym (append-nil (joined i32_bytes xs)) ∙ ap (λ (l : List ℕ). joined i32_bytes xs ++ l) (sym (nothing_behind e (2 + 4 * n) long)) ∙ values_again writes_i32 e a n 2 (omega arith) (λ i h. tt))
    ∙ two_again e 0 a (omega arith))

module _ (q : Settings) (t e : List ℕ) where
  pub taps_again : All Byte t → length t ≡ 2 * q.taps → tap_bytes (fir_from q t e) ≡ t
  unfolding tap_bytes fir_from
  taps_again a long =
      let xs = values_at i16_at 2 t 0 q.taps in
      rw (front_again xs (replicate most_taps (pos 0)) q.taps (values_length i16_at 2 t q.taps 0))
      (sym (append-nil (joined i16_bytes xs)) ∙ ap (λ (l : List ℕ). joined i16_bytes xs ++ l) (sym (nothing_behind t (0 + 2 * q.taps) (let z : length t ≡ 0 + 2 * q.taps = omega arith in z))) ∙ values_again writes_i16 t a q.taps 0 (omega arith) (λ i h. tt))

  pub delay_again : All Byte e → length e ≡ 2 + 2 * q.taps → delay_bytes (fir_from q t e) ≡ e
  unfolding delay_bytes fir_from
  delay_again a long =
      let xs = values_at i16_at 2 e 2 q.taps in
      rw (front_again xs (replicate most_taps (pos 0)) q.taps (values_length i16_at 2 e q.taps 2))
      (ap (λ (l : List ℕ). bytes16 (le16 e 0) ++ l)
      (sym (append-nil (joined i16_bytes xs)) ∙ ap (λ (l : List ℕ). joined i16_bytes xs ++ l) (sym (nothing_behind e (2 + 2 * q.taps) long)) ∙ values_again writes_i16 e a q.taps 2 (omega arith) (λ i h. tt))
      ∙ two_again e 0 a (omega arith))

module _ (q : Settings) (c e : List ℕ) where
  pub prototype_again : All Byte c → length c ≡ 4 * (q.phases * q.phase_taps) → floats_at c 0 (q.phases * q.phase_taps) ≡ true → prototype_bytes (resampler_from q c e) ≡ c
  unfolding prototype_bytes resampler_from
  prototype_again a long f =
      let n = q.phases * q.phase_taps in
      let xs = values_at f32_at 4 c 0 n in
      rw (front_again xs (replicate 1024 zero32) n (values_length f32_at 4 c n 0))
      (sym (append-nil (joined f32_bytes xs)) ∙ ap (λ (l : List ℕ). joined f32_bytes xs ++ l) (sym (nothing_behind c (0 + 4 * n) (let z : length c ≡ 0 + 4 * n = omega arith in z))) ∙ values_again writes_f32 c a n 0 (omega arith) (floats_fine c 0 n f))

  pub resampler_again : All Byte e → length e ≡ 4 + 4 * q.phase_taps → floats_at e 0 (1 + q.phase_taps) ≡ true → resampler_bytes (resampler_from q c e) ≡ e
  unfolding resampler_bytes resampler_from
  resampler_again a long f =
      let n = q.phase_taps in
      let xs = values_at f32_at 4 e 4 n in
      let fine = floats_fine e 0 (1 + n) f in
      rw (front_again xs (replicate 16 zero32) n (values_length f32_at 4 e n 4))
      (ap (λ (l : List ℕ). f32_bytes (f32_at e 0) ++ l)
      (sym (append-nil (joined f32_bytes xs)) ∙ ap (λ (l : List ℕ). joined f32_bytes xs ++ l) (sym (nothing_behind e (4 + 4 * n) long))
      ∙ values_again writes_f32 e a n 4 (omega arith) (λ i h. subst (FloatAt e) (let z : 0 + 4 * suc i ≡ 4 + 4 * i = omega arith in z) (fine (suc i) (omega arith))))
      ∙ writes_f32.writes e 0 a (omega arith) (fine 0 (omega arith)))

-- ---- half-band stages

counts_long : (e : List ℕ) (n : ℕ) → length (counts_from e n) ≡ 5
unfolding counts_from
counts_long e zero = refl
counts_long e (suc n) = length-set (counts_from e n) n (le16 e (half_band_bytes n)) ∙ counts_long e n

held_long : (e : List ℕ) (n : ℕ) → length (held_from e n) ≡ 5
unfolding held_from
held_long e zero = refl
held_long e (suc n) = length-set (held_from e n) n (f32_at e (half_band_bytes n + 2)) ∙ held_long e n

counts_at : (e : List ℕ) (n k : ℕ) → n ≤ 5 → k < n → get_or (counts_from e n) k 0 ≡ le16 e (half_band_bytes k)
unfolding counts_from
counts_at e zero k f h = absurd (omega arith)
counts_at e (suc n) k f h = elim (dec_lt k n) [
  | yes l ↦ (let x : k ≡ n → ⊥ = omega arith in get_or-set_other (counts_from e n) n k (le16 e (half_band_bytes n)) 0 x ∙ counts_at e n k (omega arith) l)
  | no l ↦ (let q : n ≡ k = omega arith in let m = counts_long e n in
      subst (λ (j : ℕ). get_or (set (counts_from e n) n (le16 e (half_band_bytes n))) j 0 ≡ le16 e (half_band_bytes j)) q (get_or-set_same (counts_from e n) n (le16 e (half_band_bytes n)) 0 (omega arith)))
]

held_at : (e : List ℕ) (n k : ℕ) → n ≤ 5 → k < n → get_or (held_from e n) k zero32 ≡ f32_at e (half_band_bytes k + 2)
unfolding held_from
held_at e zero k f h = absurd (omega arith)
held_at e (suc n) k f h = elim (dec_lt k n) [
  | yes l ↦ (let x : k ≡ n → ⊥ = omega arith in get_or-set_other (held_from e n) n k (f32_at e (half_band_bytes n + 2)) zero32 x ∙ held_at e n k (omega arith) l)
  | no l ↦ (let q : n ≡ k = omega arith in let m = held_long e n in
      subst (λ (j : ℕ). get_or (set (held_from e n) n (f32_at e (half_band_bytes n + 2))) j zero32 ≡ f32_at e (half_band_bytes j + 2)) q (get_or-set_same (held_from e n) n (f32_at e (half_band_bytes n + 2)) zero32 (omega arith)))
]

-- what was laid is found at its place, and what stands before it is as it was
laid_found : {A : Type 0} (at w : ℕ) (vs s : List A) → at ≤ length s → length vs ≡ w → take w (drop at (laid at vs s)) ≡ vs
unfolding laid
laid_found {A} at w vs s h l =
    ap (take w) (ap (drop at) (append_assoc (take at s) vs (drop (at + length vs) s)) ∙ drop_at (take at s) (vs ++ drop (at + length vs) s) at (length-take-le at s h)) ∙ take_at vs (drop (at + length vs) s) w l

take_of_take : {A : Type 0} (a w b : ℕ) (s : List A) → a + w ≤ b → b ≤ length s → take w (drop a (take b s)) ≡ take w (drop a s)
take_of_take {A} zero w b s h l = first w b s (omega arith)
  where
    first : (w b : ℕ) (s : List A) → w ≤ b → take w (take b s) ≡ take w s
    first zero b s h = refl
    first (suc w) zero s h = absurd (omega arith)
    first (suc w) (suc b) [] h = refl
    first (suc w) (suc b) (x ∷ s) h = ap (λ (r : List A). x ∷ r) (first w b s (omega arith))
take_of_take {A} (suc a) w zero s h l = absurd (omega arith)
take_of_take {A} (suc a) w (suc b) [] h l = refl
take_of_take {A} (suc a) w (suc b) (x ∷ s) h l = take_of_take a w b s (omega arith) (omega arith)

laid_before : {A : Type 0} (a w at : ℕ) (vs s : List A) → a + w ≤ at → at ≤ length s → take w (drop a (laid at vs s)) ≡ take w (drop a s)
unfolding laid
laid_before {A} a w at vs s h l =
    let t : length (take at s) ≡ at = length-take-le at s l in
    let d : length (drop a (take at s)) ≡ at - a = length-drop a (take at s) ∙ rw t refl in
    ap (λ (r : List A). take w (drop a r)) (append_assoc (take at s) vs (drop (at + length vs) s))
    ∙ ap (take w) (drop-append-le a (take at s) (vs ++ drop (at + length vs) s) (omega arith))
    ∙ take-append-le w (drop a (take at s)) (vs ++ drop (at + length vs) s) (omega arith)
    ∙ take_of_take a w at s h l

pub delays_long : (e : List ℕ) (n : ℕ) → n ≤ 5 → length (delays_from e n) ≡ 480
unfolding delays_from
delays_long e zero h = refl
delays_long e (suc n) h =
    let i = delays_long e n (omega arith) in
    let m = window_most n (omega arith) in
    let v = values_length f32_at 4 e (window_of n) (half_band_bytes n + 6) in
    laid_length (96 * n) (values_at f32_at 4 e (half_band_bytes n + 6) (window_of n)) (delays_from e n) (omega arith) ∙ i

delays_at : (e : List ℕ) (n k : ℕ) → n ≤ 5 → k < n → take (window_of k) (drop (96 * k) (delays_from e n)) ≡ values_at f32_at 4 e (half_band_bytes k + 6) (window_of k)
unfolding delays_from
delays_at e zero k f h = absurd (omega arith)
delays_at e (suc n) k f h =
    let i = delays_long e n (omega arith) in
    elim (dec_lt k n) [
      | yes l ↦ (let m = window_most k (omega arith) in
          laid_before (96 * k) (window_of k) (96 * n) (values_at f32_at 4 e (half_band_bytes n + 6) (window_of n)) (delays_from e n) (omega arith) (omega arith) ∙ delays_at e n k (omega arith) l)
      | no l ↦ (let q : n ≡ k = omega arith in
          subst (λ (j : ℕ). take (window_of j) (drop (96 * j) (laid (96 * n) (values_at f32_at 4 e (half_band_bytes n + 6) (window_of n)) (delays_from e n))) ≡ values_at f32_at 4 e (half_band_bytes j + 6) (window_of j)) q
          (laid_found (96 * n) (window_of n) (values_at f32_at 4 e (half_band_bytes n + 6) (window_of n)) (delays_from e n) (omega arith) (values_length f32_at 4 e (window_of n) (half_band_bytes n + 6))))
    ]

stage_floats : (e : List ℕ) (n k : ℕ) → k < n → stages_written e n ≡ true → floats_at e (half_band_bytes k + 2) (1 + window_of k) ≡ true
unfolding stages_written
stage_floats e zero k h w = absurd (omega arith)
stage_floats e (suc n) k h w = elim (dec_lt k n) [
  | yes l ↦ stage_floats e n k l (and_parts (stages_written e n) (floats_at e (half_band_bytes n + 2) (1 + window_of n)) w).0
  | no l ↦ (let q : n ≡ k = omega arith in subst (λ (j : ℕ). floats_at e (half_band_bytes j + 2) (1 + window_of j) ≡ true) q (and_parts (stages_written e n) (floats_at e (half_band_bytes n + 2) (1 + window_of n)) w).1)
]

module _ (e : List ℕ) (a : All Byte e) (n₀ : ℕ) (few : n₀ ≤ 5) (long : half_band_bytes n₀ ≤ length e) (w : stages_written e n₀ ≡ true) (s : HbfStream)
    (counts : s.counts ≡ counts_from e n₀) (held : s.held ≡ held_from e n₀) (delays : s.delays ≡ delays_from e n₀) where
  stage_again : (k : ℕ) → k < n₀ → half_band_bytes k + (6 + 4 * window_of k) ≤ length e → stage_bytes s k ++ drop (half_band_bytes k + (6 + 4 * window_of k)) e ≡ drop (half_band_bytes k) e
  unfolding stage_bytes
  stage_again k h room =
      let at = half_band_bytes k in
      let m = window_of k in
      let xs = values_at f32_at 4 e (at + 6) m in
      let fine = floats_fine e (at + 2) (1 + m) (stage_floats e n₀ k h w) in
      let p : at + (6 + 4 * m) ≡ at + 6 + 4 * m = omega arith in
      rw (counts, held, delays, counts_at e n₀ k few h, held_at e n₀ k few h, delays_at e n₀ k few h)
      (append_assoc (bytes16 (le16 e at)) (f32_bytes (f32_at e (at + 2)) ++ joined f32_bytes xs) (drop (at + (6 + 4 * m)) e)
      ∙ ap (λ (l : List ℕ). bytes16 (le16 e at) ++ l)
      (append_assoc (f32_bytes (f32_at e (at + 2))) (joined f32_bytes xs) (drop (at + (6 + 4 * m)) e)
      ∙ ap (λ (j : ℕ). f32_bytes (f32_at e (at + 2)) ++ (joined f32_bytes xs ++ drop j e)) p
      ∙ ap (λ (l : List ℕ). f32_bytes (f32_at e (at + 2)) ++ l)
      (values_again writes_f32 e a m (at + 6) (omega arith) (λ i l. subst (FloatAt e) (let z : at + 2 + 4 * suc i ≡ at + 6 + 4 * i = omega arith in z) (fine (suc i) (omega arith))))
      ∙ ap (λ (j : ℕ). f32_bytes (f32_at e (at + 2)) ++ drop j e) (let z : at + 6 ≡ at + 2 + 4 = omega arith in z)
      ∙ writes_f32.writes e (at + 2) a (omega arith) (subst (FloatAt e) (let z : at + 2 + 4 * 0 ≡ at + 2 = omega arith in z) (fine 0 (omega arith))))
      ∙ two_again e at a (omega arith))

  stages_to : (k : ℕ) → k ≤ n₀ → half_band_bytes k ≤ length e → stages_bytes s k ++ drop (half_band_bytes k) e ≡ e
  unfolding stages_bytes
  stages_to zero h room = unfold half_band_bytes in refl
  stages_to (suc k) h room =
      let m = bytes_more k (omega arith) in
      append_assoc (stages_bytes s k) (stage_bytes s k) (drop (half_band_bytes (suc k)) e)
      ∙ ap (λ (j : ℕ). stages_bytes s k ++ (stage_bytes s k ++ drop j e)) m
      ∙ ap (λ (l : List ℕ). stages_bytes s k ++ l) (stage_again k (omega arith) (omega arith))
      ∙ stages_to k (omega arith) (omega arith)

  pub stages_again : length e ≡ half_band_bytes n₀ → stages_bytes s n₀ ≡ e
  stages_again l = sym (append-nil (stages_bytes s n₀)) ∙ ap (λ (r : List ℕ). stages_bytes s n₀ ++ r) (sym (nothing_behind e (half_band_bytes n₀) l)) ∙ stages_to n₀ (omega arith) long

-- ---- settings

pub settings_again : (e : List ℕ) → All Byte e → length e ≡ 24 → settings_bytes (settings_of e) ≡ e
unfolding settings_bytes settings_of
settings_again e a l =
    let two : (at : ℕ) (r : List ℕ) → at + 2 ≤ 24 → r ≡ drop (at + 2) e → bytes16 (le16 e at) ++ r ≡ drop at e = λ at r h q. ap (λ (x : List ℕ). bytes16 (le16 e at) ++ x) q ∙ two_again e at a (omega arith) in
    let last : bytes32 (le32 e 20) ≡ drop 20 e = sym (append-nil (bytes32 (le32 e 20))) ∙ ap (λ (r : List ℕ). bytes32 (le32 e 20) ++ r) (sym (nothing_behind e 24 l)) ∙ four_again e 20 a (omega arith) in
    let step : bytes32 (le32 e 16) ++ bytes32 (le32 e 20) ≡ drop 16 e = ap (λ (r : List ℕ). bytes32 (le32 e 16) ++ r) last ∙ four_again e 16 a (omega arith) in
    two 0 _ (omega arith) (two 2 _ (omega arith) (two 4 _ (omega arith) (two 6 _ (omega arith)
    (two 8 _ (omega arith) (two 10 _ (omega arith) (two 12 _ (omega arith) (two 14 _ (omega arith) step)))))))
