-- A span that is filled sample by sample: the sums at a sample's window are those of the next outputs, as many as there are places for, so that they go in behind the
-- outputs of the samples before.
use Rattle.std.proofs.Common.{◌≡◌, ℕ, ◌+◌, ◌-◌, ◌*◌, ◌/◌, ◌%◌, ◌≤◌, ◌<◌, ℤ, min, List, length, take, drop, sym, ap, ◌∙◌, arith}
use native.Mathlib.Nat.{suc-mul, mul-le-mul_right}
use lib.ListN.{length-drop}
use lib.Seq.{length-take-le}
use mir.Syntax.{w16}
use borrow.Rule.Slice.PartMut.{put_mid}
use Rattle.std.proofs.lemmas.Grind.{div_ceil_times}
use Rattle.theory.specs.Lists.{listed}
use Rattle.q15.specs.Fixed.{cut, cut_count}
use Rattle.q15.specs.PolyphaseInterpolate.{phase_sum}
use Rattle.q15.proofs.Filling.{listed_ext}
use Rattle.q15.proofs.CutFilling.{CutFilled, more_cut, listed_few, whole_cut}
use Rattle.q15.proofs.Windows.{phase_at, placed}

-- a turn for each sample begins inside n places, and behind the last one they are full
pub begun : (i n l : ℕ) → 0 < l → i < n / l + min 1 (n % l) → i * l < n
begun i n l p h =
    let m : (i + 1) * l ≤ (n / l + min 1 (n % l)) * l = mul-le-mul_right l (omega arith) in
    let t = div_ceil_times n l p in
    omega (arith, m, t, suc-mul i l)

ended : (i n l : ℕ) → 0 < l → n / l + min 1 (n % l) ≤ i → n ≤ i * l
ended i n l p h =
    let m : (n / l + min 1 (n % l)) * l ≤ i * l = mul-le-mul_right l h in
    let t = div_ceil_times n l p in
    omega (arith, m, t)

module _ (c s d : List ℤ) (L K : ℕ) (some : 0 < L) (inside : (i p : ℕ) → i * L + p < length d → i + K ≤ length s) where
  -- the sum of output j
  abbrev sums : ℕ → ℤ
  sums j = phase_sum c L K s (j / L) (j % L)

  -- the outputs of i samples stand in front of the span d, or as many as it has places for: `from` of them
  pub record Raised (e : List ℤ) (i from cuts : ℕ) : Type 0 where
    pub filled : CutFilled sums d (length d) e from cuts
    pub from_is : from ≡ min (i * L) (length d)

  pub all_raised :
      (e : List ℤ) (i from cuts : ℕ) → length d / L + min 1 (length d % L) ≤ i → Raised e i from cuts
      → (e ≡ listed (length d) (λ j. cut w16 (sums j))) × (cuts ≡ cut_count w16 (listed (length d) sums))
  all_raised e i from cuts l f =
      let full = ended i (length d) L some l in
      whole_cut sums d e from cuts (omega (arith, full, f.from_is)) f.filled

  module _ (e : List ℤ) (i from cuts : ℕ) (l : i < length d / L + min 1 (length d % L)) (long : length e ≡ length d) (f : Raised e i from cuts) (past : ℕ)
      (is : past ≡ min (length d) (from + L)) where
    abbrev many : ℕ
    many = past - from

    abbrev window : List ℤ
    window = take (i + K - i) (drop i s)

    starts : i * L < length d
    starts = begun i (length d) L some l

    at : from ≡ i * L
    at = omega (arith, f.from_is, starts)

    places : length (take many (drop from e)) ≡ many
    places = length-take-le many (drop from e) (omega (arith, length-drop from e, long, is, at, starts))

    same : (p : ℕ) → p < many → phase_sum c L (length window) window 0 p ≡ sums (from + p)
    same p h =
        let place = placed (from + p) i p L (omega (arith, at)) (omega (arith, is)) in
        phase_at c L K i (i + K - i) s (omega arith) (inside i 0 (omega (arith, starts))) p
        ∙ ap (λ (n : ℕ). phase_sum c L K s n p) (sym place.0) ∙ ap (λ (n : ℕ). phase_sum c L K s ((from + p) / L) n) (sym place.1)

    module _ (part : List ℤ) (more : ℕ) (filled : part ≡ listed (length (take many (drop from e))) (λ p. cut w16 (phase_sum c L (length window) window 0 p)))
        (counted : more ≡ cut_count w16 (listed (length (take many (drop from e))) (phase_sum c L (length window) window 0))) where
      new : more ≡ cut_count w16 (listed many (λ p. sums (from + p)))
      new =
          counted ∙ ap (λ (n : ℕ). cut_count w16 (listed n (phase_sum c L (length window) window 0))) places
          ∙ ap (cut_count w16) (listed_ext many (phase_sum c L (length window) window 0) (λ p. sums (from + p)) same)

      pub few_raised : cuts + more ≤ length d
      few_raised =
          let old = listed_few from sums in
          let next = listed_few many (λ p. sums (from + p)) in
          omega (arith, old, f.filled.counted, next, new, is, at, starts)

      pub next_raised : Raised (put_mid from many e part) (i + 1) past (cuts + more)
      next_raised =
          let behind : from + many ≡ past = omega (arith, is, at, starts) in
          let put : part ≡ listed many (λ p. cut w16 (sums (from + p))) =
          filled ∙ ap (λ (n : ℕ). listed n (λ p. cut w16 (phase_sum c L (length window) window 0 p))) places
          ∙ listed_ext many (λ p. cut w16 (phase_sum c L (length window) window 0 p)) (λ p. cut w16 (sums (from + p))) (λ p h. ap (cut w16) (same p h))
          in
          record {
            filled = rw behind at (more_cut sums d (length d) e from many cuts part more (omega (arith, is, at, starts)) (omega arith) put new f.filled);
            from_is = omega (arith, is, at, suc-mul i L);
          }
