-- Each part of a whole line, read from the entry that it was written to, is the part.
use mathlib.Core.Path.{◌≡◌, refl, sym, ap, ap₂, ◌∙◌}
use mathlib.Core.Bool.{Bool, true, false, cond}
use mathlib.Core.List.{List, [], ◌∷◌, ◌++◌, append_assoc, append-nil}
use Prim.Native.Nat.{ℕ, zero, suc, ◌+◌, ◌*◌, ◌-◌, ◌≤◌, ◌<◌}
use native.Mathlib.Omega.{arith}
use native.Mathlib.Decide.{dec_lt}
use lib.Dec.{leb}
use lib.Ieee.{Float, binary32, to_bits}
use lib.Ieee.Bits.{of_bits-to_bits, of_bits-fits}
use lib.ListN.{length, get_or, set, take, drop, replicate, length-append, length-drop, take-append-drop, replicate-append-replicate}
use lib.Seq.{drop_at, take_at, set_at, drop-drop, drop-append-le, drop-append-add, take-suc, take-add, length-take-le}
use Rattle.integer.specs.CicDecimator.{decimator_of}
use Rattle.integer.specs.declared.cic_decimator.CicDecimator.{CicDecimator}
use lib.IntN.{ℤ}
use Rattle.nonrecursive.specs.NonrecursiveDecimator.{most_neighbours}
use Rattle.nonrecursive.specs.declared.thinning.Thinning.TheVariants as thinning
use Rattle.q15.specs.FirDecimator.{most_taps}
use Rattle.q15.specs.declared.fir_decimator.FirDecimator.{FirDecimator}
use Rattle.half_band.specs.declared.hbf_stream.HbfStream.{HbfStream}
use Rattle.float.specs.F32.{zero32}
use Rattle.float.specs.declared.polyphase_resamp.PolyphaseResampF32.{PolyphaseResampF32}
use Rattle.sheet.specs.Sheet.{le16, bytes16}
use Rattle.sheet.specs.Laid.{laid}
use Rattle.sheet.proofs.Laying.{laid_front}
use Rattle.parking.specs.Parked.{Settings, half_band_bytes, neighbour_count}
use Rattle.words.specs.Fields.{i16_bytes, i32_bytes, f32_bytes, joined, f32_at, values_at, floats_at, All, IsFloat}
use Rattle.parking.specs.Entries.{cic_bytes, neighbours_bytes, tap_bytes, delay_bytes, window_of, stage_bytes, stages_bytes, prototype_bytes, resampler_bytes, cic_from, place_from, neighbours_from, fir_from, counts_from, held_from, delays_from, resampler_from, stages_written}
use Rattle.words.proofs.Fields.{all_take, all_drop, all_get_d, joined_length, values_back, floats_are}
use Rattle.words.specs.inner.Reading.{Reads, word_at, reads_i16, reads_i32, reads_f32}
use Rattle.parking.proofs.Whole.{Used, used_fresh, CicWhole, ThinWholeBy, FirWhole}
use Rattle.parking.proofs.WholeFloats.{HalfUsed, ResamplerWhole, window_most}

-- ---- an array

-- the used values, laid over zeros, are the array
pub used_back : {A : Type 0} {P : A → Type 0} {z : A} (n m : ℕ) (s vs : List A) → Used P z n m s → n ≤ m → vs ≡ take n s → laid 0 vs (replicate m z) ≡ s
used_back {A} {P} {z} n m s vs u h e =
    let l : length vs ≡ n = ap length e ∙ length-take-le n s (let q = u.long in omega arith) in
    laid_front vs (replicate m z)
    ∙ ap (λ (k : ℕ). vs ++ drop k (replicate m z)) l
    ∙ ap (λ (r : List A). vs ++ r) (used_zeros ∙ sym u.rest)
    ∙ ap (λ (r : List A). r ++ drop n s) e ∙ take-append-drop n s
  where
    used_zeros : drop n (replicate m z) ≡ replicate (m - n) z
    used_zeros = (used_fresh (λ (x : A). Unit {0}) z n m tt).rest

-- values read from where they were laid
module _ {A : Type 0} {bytes : A → List ℕ} {read : List ℕ → ℕ → A} {w : ℕ} {P : A → Type 0} (r : Reads bytes read w P) {z : A} where
  pub array_back : (n m : ℕ) (s : List A) (b : List ℕ) (at : ℕ) (rest : List ℕ) → Used P z n m s → n ≤ m → drop at b ≡ joined bytes (take n s) ++ rest → laid 0 (values_at read w b at n) (replicate m z) ≡ s
  array_back n m s b at rest u h e =
      let l : length (take n s) ≡ n = length-take-le n s (let q = u.long in omega arith) in
      used_back n m s (values_at read w b at n) u h
      (ap (values_at read w b at) (sym l) ∙ values_back bytes read w P r (take n s) (all_take P n s u.typed) b at rest e)

  pub array_length : (n m : ℕ) (s : List A) → Used P z n m s → n ≤ m → length (joined bytes (take n s)) ≡ w * n
  array_length n m s u h = joined_length bytes read w P r (take n s) ∙ ap (λ (k : ℕ). w * k) (length-take-le n s (let q = u.long in omega arith))

-- ---- section 1

module _ (d : CicDecimator) (w : CicWhole d) (few : d.stages ≤ 8) (small : d.sample_counter < 65536) where
  abbrev N : ℕ
  N = d.stages

  abbrev ints : List ℕ
  ints = joined i32_bytes (take N d.integrator_state)

  abbrev combs : List ℕ
  combs = joined i32_bytes (take N d.comb_state)

  combs_at : drop (2 + 4 * N) (cic_bytes d) ≡ combs ++ []
  unfolding cic_bytes
  combs_at = sym (drop-drop (4 * N) 2 (cic_bytes d)) ∙ drop_at ints combs (4 * N) (array_length reads_i32 N 8 d.integrator_state w.integrators few) ∙ sym (append-nil combs)

  pub cic_back : (q : Settings) → q.stages ≡ N → q.r ≡ d.r → cic_from q (cic_bytes d) ≡ d
  unfolding cic_from cic_bytes
  cic_back q e f =
      rw (
        e,
        f,
        array_back reads_i32 N 8 d.integrator_state (cic_bytes d) 2 combs w.integrators few refl,
        array_back reads_i32 N 8 d.comb_state (cic_bytes d) (2 + 4 * N) [] w.combs few combs_at,
        word_at (cic_bytes d) 0 d.sample_counter (ints ++ combs) refl small,
      )

  pub cic_length : length (cic_bytes d) ≡ 2 + 8 * N
  unfolding cic_bytes
  cic_length =
      let a = array_length reads_i32 N 8 d.integrator_state w.integrators few in
      let b = array_length reads_i32 N 8 d.comb_state w.combs few in
      let c = length-append ints combs in
      omega arith

module _ (d : CicDecimator) (n : List ℤ) (w : ThinWholeBy thinning.Neighbours d n) (few : neighbour_count d.stages d.r ≤ 96) (small : d.sample_counter < 65536) where
  pub place_back : (q : Settings) → q.stages ≡ d.stages → q.r ≡ d.r → place_from q (neighbours_bytes d n) ≡ d
  unfolding place_from neighbours_bytes
  place_back q e f =
      rw (e, f, word_at (neighbours_bytes d n) 0 d.sample_counter (joined i32_bytes (take (neighbour_count d.stages d.r) n)) refl small)
      (sym (ap₂ {C = CicDecimator} (λ (i c : List ℤ). decimator_of d.stages d.r i c d.sample_counter) w.0 w.1.0))

  pub neighbours_back : (q : Settings) → q.stages ≡ d.stages → q.r ≡ d.r → neighbours_from q (neighbours_bytes d n) ≡ n
  unfolding neighbours_from neighbours_bytes
  neighbours_back q e f =
      rw (e, f)
      (array_back reads_i32 (neighbour_count d.stages d.r) most_neighbours n (neighbours_bytes d n) 2 [] w.1.1 few (sym (append-nil (joined i32_bytes (take (neighbour_count d.stages d.r) n)))))

  pub neighbours_length : length (neighbours_bytes d n) ≡ 2 + 4 * neighbour_count d.stages d.r
  unfolding neighbours_bytes
  neighbours_length = let a = array_length reads_i32 (neighbour_count d.stages d.r) most_neighbours n w.1.1 few in omega arith

-- ---- section 3

module _ (s : FirDecimator) (w : FirWhole s) (few : s.tap_count ≤ most_taps) (small : s.wait < 65536) where
  abbrev n : ℕ
  n = s.tap_count

  pub fir_back : (q : Settings) → q.taps ≡ n → q.factor ≡ s.factor → fir_from q (tap_bytes s) (delay_bytes s) ≡ s
  unfolding fir_from tap_bytes delay_bytes
  fir_back q e f =
      rw (
        e,
        f,
        array_back reads_i16 n most_taps s.taps (tap_bytes s) 0 [] w.taps few (sym (append-nil (joined i16_bytes (take n s.taps)))),
        array_back reads_i16 n most_taps s.delay (delay_bytes s) 2 [] w.delay few (sym (append-nil (joined i16_bytes (take n s.delay)))),
        word_at (delay_bytes s) 0 s.wait (joined i16_bytes (take n s.delay)) refl small,
      )

  pub taps_length : length (tap_bytes s) ≡ 2 * n
  unfolding tap_bytes
  taps_length = array_length reads_i16 n most_taps s.taps w.taps few

  pub delay_length : length (delay_bytes s) ≡ 2 + 2 * n
  unfolding delay_bytes
  delay_length = let a = array_length reads_i16 n most_taps s.delay w.delay few in omega arith

-- ---- section 4

-- one place filled, of those behind which zeros stand
fill_one : {A : Type 0} (s : List A) (z u : A) (m k : ℕ) → length s ≡ m → k < m → set (take k s ++ replicate (m - k) z) k (get_or s k u) ≡ take (suc k) s ++ replicate (m - suc k) z
fill_one {A} s z u m k l h =
    let e : m - k ≡ suc (m - suc k) = omega arith in
    let t : length (take k s) ≡ k = length-take-le k s (omega arith) in
    ap (λ (j : ℕ). set (take k s ++ replicate j z) k (get_or s k u)) e
    ∙ set_at (take k s) z (replicate (m - suc k) z) (get_or s k u) k t
    ∙ sym (append_assoc (take k s) (get_or s k u ∷ []) (replicate (m - suc k) z))
    ∙ ap (λ (r : List A). r ++ replicate (m - suc k) z) (sym (take-suc s k u (omega arith)))

-- a window filled, behind which its gap and zeros stand
fill_window :
    {A : Type 0} (s : List A) (z : A) (a w m : ℕ) → length s ≡ m → a + 96 ≤ m → w ≤ 96 → take (96 - w) (drop (a + w) s) ≡ replicate (96 - w) z
    → laid a (take w (drop a s)) (take a s ++ replicate (m - a) z) ≡ take (a + 96) s ++ replicate (m - (a + 96)) z
unfolding laid
fill_window {A} s z a w m l h g e =
    let t : length (take a s) ≡ a = length-take-le a s (omega arith) in
    let v : length (take w (drop a s)) ≡ w = length-take-le w (drop a s) (rw (length-drop a s) (omega arith)) in
    let p : a + w ≡ length (take a s) + w = rw t in
    let k : a + 96 ≡ a + w + (96 - w) = omega arith in
    let j : m - a - w ≡ 96 - w + (m - (a + 96)) = omega arith in
    ap (λ (r : List A). r ++ take w (drop a s) ++ drop (a + length (take w (drop a s))) (take a s ++ replicate (m - a) z)) (take_at (take a s) (replicate (m - a) z) a t)
    ∙ ap (λ (i : ℕ). take a s ++ take w (drop a s) ++ drop (a + i) (take a s ++ replicate (m - a) z)) v
    ∙ ap (λ (i : ℕ). take a s ++ take w (drop a s) ++ drop i (take a s ++ replicate (m - a) z)) p
    ∙ ap (λ (r : List A). take a s ++ take w (drop a s) ++ r)
    (drop-append-add (take a s) (replicate (m - a) z) w ∙ (used_fresh (λ (x : A). Unit {0}) z w (m - a) tt).rest ∙ ap (λ (i : ℕ). replicate i z) j
    ∙ sym (replicate-append-replicate (96 - w) (m - (a + 96)) z))
    ∙ ap (λ (r : List A). r ++ (replicate (96 - w) z ++ replicate (m - (a + 96)) z)) (sym (take-add a w s))
    ∙ sym (append_assoc (take (a + w) s) (replicate (96 - w) z) (replicate (m - (a + 96)) z))
    ∙ ap (λ (r : List A). take (a + w) s ++ r ++ replicate (m - (a + 96)) z) (sym e)
    ∙ ap (λ (r : List A). r ++ replicate (m - (a + 96)) z) (sym (take-add (a + w) (96 - w) s) ∙ ap (λ (i : ℕ). take i s) (sym k))

pub bytes_more : (n : ℕ) → n < 5 → half_band_bytes (suc n) ≡ half_band_bytes n + (6 + 4 * window_of n)
unfolding half_band_bytes
bytes_more zero h = refl
bytes_more (suc zero) h = refl
bytes_more (suc (suc zero)) h = refl
bytes_more (suc (suc (suc zero))) h = refl
bytes_more (suc (suc (suc (suc zero)))) h = refl
bytes_more (suc (suc (suc (suc (suc n))))) h = absurd (omega arith)

module _ (s : HbfStream) (n₀ : ℕ) (few : n₀ ≤ 5) (w : HalfUsed n₀ s) (small : (k : ℕ) → k < n₀ → get_or s.counts k 0 < 65536) where
  abbrev windowed : ℕ → List Float
  windowed k = take (window_of k) (drop (96 * k) s.delays)

  window_long : (k : ℕ) → k < 5 → length (windowed k) ≡ window_of k
  window_long k h = length-take-le (window_of k) (drop (96 * k) s.delays) (let m = window_most k h in rw (length-drop (96 * k) s.delays, w.sized.delays) (omega arith))

  stage_length : (k : ℕ) → k < 5 → length (stage_bytes s k) ≡ 6 + 4 * window_of k
  unfolding stage_bytes
  stage_length k h =
      let a : length (joined f32_bytes (windowed k)) ≡ 4 * length (windowed k) = joined_length f32_bytes f32_at 4 IsFloat reads_f32 (windowed k) in
      let b = window_long k h in
      omega arith

  pub stages_length : (k : ℕ) → k ≤ 5 → length (stages_bytes s k) ≡ half_band_bytes k
  unfolding stages_bytes
  stages_length zero h = unfold half_band_bytes in refl
  stages_length (suc k) h =
      let l : k < 5 = omega arith in
      length-append (stages_bytes s k) (stage_bytes s k) ∙ ap₂ {C = ℕ} (λ (a b : ℕ). a + b) (stages_length k (omega arith)) (stage_length k l) ∙ sym (bytes_more k l)

  -- stage k in an entry of n stages, and what stands behind
  stage_at : (n k : ℕ) → n ≤ 5 → k < n → (rest : List ℕ) × (drop (half_band_bytes k) (stages_bytes s n) ≡ stage_bytes s k ++ rest)
  unfolding stages_bytes
  stage_at zero k f h = absurd (omega arith)
  stage_at (suc n) k f h = elim (dec_lt k n) [
    | yes l ↦ (let i = stage_at n k (omega arith) l in (
      i.0 ++ stage_bytes s n,
      drop-append-le (half_band_bytes k) (stages_bytes s n) (stage_bytes s n) (reaches n k (omega arith) l) ∙ ap (λ (r : List ℕ). r ++ stage_bytes s n) i.1 ∙ append_assoc (stage_bytes s k) i.0 (stage_bytes s n),
    ))
    | no l ↦ (let e : n ≡ k = omega arith in
        ([], drop_at (stages_bytes s n) (stage_bytes s n) (half_band_bytes k) (stages_length n (omega arith) ∙ ap half_band_bytes e) ∙ ap (stage_bytes s) e ∙ sym (append-nil (stage_bytes s k))))
  ]
    where
      reaches : (n k : ℕ) → n ≤ 5 → k < n → half_band_bytes k ≤ length (stages_bytes s n)
      reaches zero k f h = absurd (omega arith)
      reaches (suc n) k f h =
          let a = stages_length (suc n) f in
          let m = bytes_more n (omega arith) in
          let b = stages_length n (omega arith) in
          elim (dec_lt k n) [
            | yes l ↦ (let r = reaches n k (omega arith) l in omega arith)
            | no l ↦ (let e : k ≡ n = omega arith in rw e (omega arith))
          ]

  abbrev e₀ : List ℕ
  e₀ = stages_bytes s n₀

  -- where the fields of stage k stand
  module _ (k : ℕ) (h : k < n₀) where
    abbrev rest : List ℕ
    rest = (stage_at n₀ k few h).0

    count_at : drop (half_band_bytes k) e₀ ≡ bytes16 (get_or s.counts k 0) ++ (f32_bytes (get_or s.held k zero32) ++ (joined f32_bytes (windowed k) ++ rest))
    count_at = (stage_at n₀ k few h).1 ∙ (unfold stage_bytes in refl)

    held_at : drop (half_band_bytes k + 2) e₀ ≡ f32_bytes (get_or s.held k zero32) ++ (joined f32_bytes (windowed k) ++ rest)
    held_at = sym (drop-drop 2 (half_band_bytes k) e₀) ∙ ap (drop 2) count_at

    delays_at : drop (half_band_bytes k + 6) e₀ ≡ joined f32_bytes (windowed k) ++ rest
    delays_at = sym (drop-drop 6 (half_band_bytes k) e₀) ∙ ap (drop 6) count_at

    below : k < 5
    below = omega arith

    held_typed : IsFloat (get_or s.held k zero32)
    held_typed = all_get_d IsFloat s.held k zero32 w.held_typed (of_bits-fits binary32 0)

    windowed_typed : All IsFloat (windowed k)
    windowed_typed = all_take IsFloat (window_of k) (drop (96 * k) s.delays) (all_drop IsFloat (96 * k) s.delays w.delays_typed)

    count_is : le16 e₀ (half_band_bytes k) ≡ get_or s.counts k 0
    count_is = word_at e₀ (half_band_bytes k) (get_or s.counts k 0) _ count_at (small k h)

    held_is : f32_at e₀ (half_band_bytes k + 2) ≡ get_or s.held k zero32
    held_is = reads_f32.reads e₀ (half_band_bytes k + 2) (get_or s.held k zero32) _ held_typed held_at

    delays_are : values_at f32_at 4 e₀ (half_band_bytes k + 6) (window_of k) ≡ windowed k
    delays_are = ap (values_at f32_at 4 e₀ (half_band_bytes k + 6)) (sym (window_long k below)) ∙ values_back f32_bytes f32_at 4 IsFloat reads_f32 (windowed k) windowed_typed e₀ (half_band_bytes k + 6) rest delays_at

    floats_is : floats_at e₀ (half_band_bytes k + 2) (1 + window_of k) ≡ true
    floats_is =
        let l : length (get_or s.held k zero32 ∷ windowed k) ≡ 1 + window_of k = let a = window_long k below in omega arith in
        ap (floats_at e₀ (half_band_bytes k + 2)) (sym l) ∙ floats_are (get_or s.held k zero32 ∷ windowed k) (held_typed, windowed_typed) e₀ (half_band_bytes k + 2) rest (held_at ∙ (unfold joined in refl))

  counts_to : (n : ℕ) → n ≤ n₀ → counts_from e₀ n ≡ take n s.counts ++ replicate (5 - n) 0
  unfolding counts_from
  counts_to zero h = refl
  counts_to (suc n) h =
      let l : n < n₀ = omega arith in
      ap₂ {C = List ℕ} (λ (t : List ℕ) (c : ℕ). set t n c) (counts_to n (omega arith)) (count_is n l) ∙ fill_one s.counts 0 0 5 n w.sized.counts (omega arith)

  held_to : (n : ℕ) → n ≤ n₀ → held_from e₀ n ≡ take n s.held ++ replicate (5 - n) zero32
  unfolding held_from
  held_to zero h = refl
  held_to (suc n) h =
      let l : n < n₀ = omega arith in
      ap₂ {C = List Float} (λ (t : List Float) (c : Float). set t n c) (held_to n (omega arith)) (held_is n l) ∙ fill_one s.held zero32 zero32 5 n w.sized.held (omega arith)

  delays_to : (n : ℕ) → n ≤ n₀ → delays_from e₀ n ≡ take (96 * n) s.delays ++ replicate (480 - 96 * n) zero32
  unfolding delays_from
  delays_to zero h = refl
  delays_to (suc n) h =
      let l : n < n₀ = omega arith in
      let b : n < 5 = omega arith in
      let k : 96 * n + 96 ≡ 96 * suc n = omega arith in
      ap₂ {C = List Float} (λ (vs t : List Float). laid (96 * n) vs t) (delays_are n l) (delays_to n (omega arith))
      ∙ fill_window s.delays zero32 (96 * n) (window_of n) 480 w.sized.delays (omega arith) (window_most n b) (w.gaps n l b)
      ∙ ap (λ (i : ℕ). take i s.delays ++ replicate (480 - i) zero32) k

  stages_to : (n : ℕ) → n ≤ n₀ → stages_written e₀ n ≡ true
  unfolding stages_written
  stages_to zero h = refl
  stages_to (suc n) h = rw (stages_to n (omega arith), floats_is n (omega arith))

  pub stages_written_lem : stages_written e₀ n₀ ≡ true
  stages_written_lem = stages_to n₀ (omega arith)

  pub counts_back : counts_from e₀ n₀ ≡ s.counts
  counts_back = counts_to n₀ (omega arith) ∙ ap (λ (r : List ℕ). take n₀ s.counts ++ r) (sym w.counts_rest) ∙ take-append-drop n₀ s.counts

  pub held_back : held_from e₀ n₀ ≡ s.held
  held_back = held_to n₀ (omega arith) ∙ ap (λ (r : List Float). take n₀ s.held ++ r) (sym w.held_rest) ∙ take-append-drop n₀ s.held

  pub delays_back : delays_from e₀ n₀ ≡ s.delays
  delays_back = delays_to n₀ (omega arith) ∙ ap (λ (r : List Float). take (96 * n₀) s.delays ++ r) (sym w.behind) ∙ take-append-drop (96 * n₀) s.delays

-- ---- section 5

module _ (p : PolyphaseResampF32) (w : ResamplerWhole p) (few : p.taps ≤ 16) (cells : p.phases * p.taps ≤ 1024) where
  straight_back : (b : Bool) → leb 1 (cond b 1 0) ≡ b
  straight_back true = refl
  straight_back false = refl

  delayed : List ℕ
  delayed = joined f32_bytes (take p.taps p.delay)

  pub resampler_back : (q : Settings) → q.phases ≡ p.phases → q.phase_taps ≡ p.taps → q.straight ≡ cond p.straight 1 0 → q.step ≡ to_bits binary32 p.step → resampler_from q (prototype_bytes p) (resampler_bytes p) ≡ p
  unfolding resampler_from prototype_bytes resampler_bytes delayed
  resampler_back q a b c d =
      rw (
        a,
        b,
        c,
        d,
        straight_back p.straight,
        of_bits-to_bits binary32 p.step w.step,
        array_back reads_f32 (p.phases * p.taps) 1024 p.prototype (prototype_bytes p) 0 [] w.prototype cells (sym (append-nil (joined f32_bytes (take (p.phases * p.taps) p.prototype)))),
        array_back reads_f32 p.taps 16 p.delay (resampler_bytes p) 4 [] w.delay few (sym (append-nil (joined f32_bytes (take p.taps p.delay)))),
        reads_f32.reads (resampler_bytes p) 0 p.mu (joined f32_bytes (take p.taps p.delay)) w.mu refl,
      )

  pub prototype_length : length (prototype_bytes p) ≡ 4 * (p.phases * p.taps)
  unfolding prototype_bytes
  prototype_length = array_length reads_f32 (p.phases * p.taps) 1024 p.prototype w.prototype cells

  pub resampler_length : length (resampler_bytes p) ≡ 4 + 4 * p.taps
  unfolding resampler_bytes
  resampler_length = let a = array_length reads_f32 p.taps 16 p.delay w.delay few in omega arith

  pub prototype_floats : floats_at (prototype_bytes p) 0 (p.phases * p.taps) ≡ true
  unfolding prototype_bytes
  prototype_floats =
      let c : List Float = take (p.phases * p.taps) p.prototype in
      let l : length c ≡ p.phases * p.taps = length-take-le (p.phases * p.taps) p.prototype (let q = w.prototype.long in omega arith) in
      ap (floats_at (prototype_bytes p) 0) (sym l) ∙ floats_are c (all_take IsFloat (p.phases * p.taps) p.prototype w.prototype.typed) (prototype_bytes p) 0 [] (sym (append-nil (joined f32_bytes c)))

  pub resampler_floats : floats_at (resampler_bytes p) 0 (1 + p.taps) ≡ true
  unfolding resampler_bytes joined
  resampler_floats =
      let c : List Float = take p.taps p.delay in
      let l : length (p.mu ∷ c) ≡ 1 + p.taps = let q = w.delay.long in let k = length-take-le p.taps p.delay (let r : p.taps ≤ length p.delay = omega arith in r) in omega arith in
      ap (floats_at (resampler_bytes p) 0) (sym l) ∙ floats_are (p.mu ∷ c) (w.mu, all_take IsFloat p.taps p.delay w.delay.typed) (resampler_bytes p) 0 [] (sym (append-nil (joined f32_bytes (p.mu ∷ c))))
