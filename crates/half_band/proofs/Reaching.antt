-- An output of a decimating cascade follows from the samples that it reaches, for any table and in any sense of equality that sums and products respect: an
-- output of one stage of M taps looks 4M−2 samples back from sample 2j, and a stage in front doubles the distances behind it.
use mathlib.Core.Path.{◌≡◌, refl, sym, ap, ap₂, ◌∙◌, subst}
use mathlib.Core.List.{List, [], ◌∷◌}
use Prim.Native.Nat.{ℕ, zero, suc, ◌+◌, ◌-◌, ◌*◌, ◌/◌, ◌^◌, ◌≤◌, ◌<◌}
use native.Mathlib.Nat.{pow-zero, pow-suc, mul-one, add-mul}
use native.Mathlib.Decide.{dec_lt}
use native.Mathlib.Omega.{arith}
use lib.ListN.{length, get_or, get_or-append}
use lib.Pow.{pow_pos}
use lib.Seq.{get_or_at}
use lib.Ieee.{Float, nan, binary32, add, mul}
use Rattle.theory.specs.Lists.{listed}
use Rattle.theory.specs.Sections.{outs}
use Rattle.theory.proofs.Listed.{length_listed}
use Rattle.half_band.specs.Equal.{Equal}
use Rattle.float.specs.F32.{zero32}
use Rattle.half_band.proofs.Equality.{equal_refl, add_equal, mul_equal}
use Rattle.half_band.specs.HalfBand.{half32, earlier, dec_acc, dec_output, decimated, decimated_by}
use Rattle.half_band.specs.HbfStream.{stream, stream_fresh}
use Rattle.half_band.specs.Reach.{spanned, reach_of, AgreeBy, ReachesBy, Reaches}
use Rattle.half_band.proofs.Earlier.{before_start, since_start}
use Rattle.half_band.specs.inner.FiveStages.{FiveStages}
use Rattle.half_band.proofs.Streaming.{stream_whole}

-- entry j of a list by index
get_d_listed : {B : Type 0} (n : ℕ) (g : ℕ → B) (j : ℕ) (d : B) → j < n → get_or (listed n g) j d ≡ g j
get_d_listed zero g j d h = absurd (omega arith)
get_d_listed {B} (suc n) g j d h = go (dec_lt j n) (get_d_listed n g j d)
  where
    go : Dec (j < n) → (j < n → get_or (listed n g) j d ≡ g j) → get_or (listed (suc n) g) j d ≡ g j
    go (yes l) ih = get_or-append (listed n g) (g n ∷ []) d j (let q : j < length (listed n g) = omega (arith, length_listed n g) in q) ∙ ih l
    go (no l) ih = let e : n ≡ j = omega arith in get_or_at (listed n g) (g n) [] d j (length_listed n g ∙ e) ∙ ap g e

decimated_length : (c v : List Float) → length (decimated c v) ≡ length v / 2
unfolding decimated
decimated_length c v = length_listed (length v / 2) (dec_output c v)

-- all that is asked of an equality
record Respected (E : Float → Float → Type 0) : Type 0 where
  itself : (x : Float) → E x x
  sums : (x x' y y' : Float) → E x x' → E y y' → E (add binary32 x y) (add binary32 x' y')
  products : (x x' y y' : Float) → E x x' → E y y' → E (mul binary32 x y) (mul binary32 x' y')

as_data : Respected (λ x y. x ≡ y)
as_data = record { itself = λ x. refl; sums = λ x x' y y' e f. ap₂ (add binary32) e f; products = λ x x' y y' e f. ap₂ (mul binary32) e f }

as_values : Respected Equal
as_values = record { itself = equal_refl; sums = add_equal; products = mul_equal }

module _ (E : Float → Float → Type 0) (respected : Respected E) where
  put : (x y x' y' : Float) → x ≡ x' → y ≡ y' → E x' y' → E x y
  put x y x' y' e f h = subst (λ (z : Float). E z y) (sym e) (subst (λ (z : Float). E x' z) (sym f) h)

  -- one sample back
  earlier_agree : (v w : List Float) (n k : ℕ) → (k ≤ n → E (get_or v (n - k) nan) (get_or w (n - k) nan)) → E (earlier v n k) (earlier w n k)
  earlier_agree v w n k h = go (dec_lt n k)
    where
      go : Dec (n < k) → E (earlier v n k) (earlier w n k)
      go (yes l) = put (earlier v n k) (earlier w n k) zero32 zero32 (before_start v n k l) (before_start w n k l) (respected.itself zero32)
      go (no l) =
          let m : k ≤ n = omega arith in
          put (earlier v n k) (earlier w n k) (get_or v (n - k) nan) (get_or w (n - k) nan) (since_start v n k m) (since_start w n k m) (h m)

  -- one stage
  module _ (c v w : List Float) (j : ℕ) (some : 1 ≤ length c) (agree : AgreeBy E v w (1 + (4 * length c - 2)) (2 * j)) where
    acc_agree : (t : ℕ) → t ≤ length c → E (dec_acc c v j t) (dec_acc c w j t)
    unfolding dec_acc
    acc_agree zero h = earlier_agree v w (2 * j + 1) (2 * length c) (λ l. agree (2 * j + 1 - 2 * length c) (omega arith) (omega arith))
    acc_agree (suc t) h =
        respected.sums _ _ _ _ (acc_agree t (omega arith))
        (respected.products (get_or c t nan) (get_or c t nan) _ _ (respected.itself (get_or c t nan))
        (respected.sums _ _ _ _
        (earlier_agree v w (2 * j + 2 + 2 * t) (4 * length c) (λ l. agree (2 * j + 2 + 2 * t - 4 * length c) (omega arith) (omega arith)))
        (earlier_agree v w (2 * j) (2 * t) (λ l. agree (2 * j - 2 * t) (omega arith) (omega arith)))))

    output_agree : E (dec_output c v j) (dec_output c w j)
    unfolding dec_output
    output_agree = respected.products half32 half32 _ _ (respected.itself half32) (acc_agree (length c) (omega arith))

    decimated_agree : j < length v / 2 → j < length w / 2 → E (get_or (decimated c v) j nan) (get_or (decimated c w) j nan)
    unfolding decimated
    decimated_agree l m =
        put (get_or (decimated c v) j nan) (get_or (decimated c w) j nan) (dec_output c v j) (dec_output c w j)
        (get_d_listed (length v / 2) (dec_output c v) j nan l) (get_d_listed (length w / 2) (dec_output c w) j nan m) output_agree

module _ (taps : ℕ → List Float) where
  -- the first of the stages taken off: what stands behind it counts twice
  spanned_first : (k n : ℕ) → spanned taps k (suc n) ≡ (4 * length (taps k) - 2) + 2 * spanned taps (suc k) n
  spanned_first k zero =
      let e : k + 0 ≡ k = omega arith in
      let a : (4 * length (taps (k + 0)) - 2) * 2 ^ 0 ≡ 4 * length (taps k) - 2 =
      ap (λ (m : ℕ). (4 * length (taps m) - 2) * 2 ^ 0) e ∙ ap (λ (m : ℕ). (4 * length (taps k) - 2) * m) (pow-zero 2) ∙ mul-one (4 * length (taps k) - 2) in
      omega (arith, a)
  spanned_first k (suc n) =
      let e : k + suc n ≡ suc k + n = omega arith in
      let x = 4 * length (taps (suc k + n)) - 2 in
      let a : (4 * length (taps (k + suc n)) - 2) * 2 ^ suc n ≡ 2 * (x * 2 ^ n) =
      ap (λ (m : ℕ). (4 * length (taps m) - 2) * 2 ^ suc n) e ∙ twice x in
      omega (arith, a, spanned_first k n)
    where
      twice : (x : ℕ) → x * 2 ^ suc n ≡ 2 * (x * 2 ^ n)
      twice x = omega (arith, ap (λ (m : ℕ). x * m) (pow-suc 2 n))

  reaches_by :
      (E : Float → Float → Type 0) → Respected E → (n k : ℕ) (v w : List Float) (j : ℕ) → ((i : ℕ) → k ≤ i → i < k + n → 1 ≤ length (taps i))
      → (j + 1) * 2 ^ n ≤ length v → (j + 1) * 2 ^ n ≤ length w → AgreeBy E v w (1 + spanned taps k n) (j * 2 ^ n)
      → E (get_or (decimated_by taps k n v) j nan) (get_or (decimated_by taps k n w) j nan)
  unfolding decimated_by
  reaches_by E r zero k v w j some lv lw agree = let e : j * 2 ^ 0 ≡ j = ap (λ (m : ℕ). j * m) (pow-zero 2) ∙ mul-one j in agree j (omega arith) (omega arith)
  reaches_by E r (suc n) k v w j some lv lw agree =
      reaches_by E r n (suc k) (decimated c v) (decimated c w) j (λ i l h. some i (omega arith) (omega arith))
      (omega (arith, decimated_length c v, half lv)) (omega (arith, decimated_length c w, half lw)) behind
    where
      c : List Float
      c = taps k

      full : 1 ≤ length (taps k)
      full = some k (omega arith) (omega arith)

      double : (j : ℕ) → j * 2 ^ suc n ≡ 2 * (j * 2 ^ n)
      double j = omega (arith, ap (λ (m : ℕ). j * m) (pow-suc 2 n))

      half : {l : ℕ} → (j + 1) * 2 ^ suc n ≤ l → (j + 1) * 2 ^ n ≤ l / 2
      half h = omega (arith, double (j + 1), h)

      behind : AgreeBy E (decimated c v) (decimated c w) (1 + spanned taps (suc k) n) (j * 2 ^ n)
      behind i l h =
          let p : 0 < 2 ^ n = pow_pos n in
          let s : (j + 1) * 2 ^ n ≡ j * 2 ^ n + 1 * 2 ^ n = add-mul j 1 (2 ^ n) in
          let hv : (j + 1) * 2 ^ n ≤ length v / 2 = half lv in
          let hw : (j + 1) * 2 ^ n ≤ length w / 2 = half lw in
          decimated_agree E r c v w i full (λ q a b. agree q (omega (arith, double j)) (omega (arith, double j, spanned_first k n))) (omega arith) (omega arith)

  -- the claim, for any table whose stages have taps, and for whatever makes the same of every list
  module _ (d : ℕ) (some : (i : ℕ) → i < d → 1 ≤ length (taps i)) (run : List Float → List Float) (made : (v : List Float) → run v ≡ decimated_by taps 0 d v) where
    reaches_in : (E : Float → Float → Type 0) → Respected E → ReachesBy E (reach_of taps d) d run
    reaches_in E r v w j lv lw agree =
        put E r (get_or (run v) j nan) (get_or (run w) j nan) (get_or (decimated_by taps 0 d v) j nan) (get_or (decimated_by taps 0 d w) j nan)
        (ap (λ (l : List Float). get_or l j nan) (made v)) (ap (λ (l : List Float). get_or l j nan) (made w))
        (reaches_by E r d 0 v w j (λ i l h. some i (omega arith)) lv lw agree)

    reaches_as : Reaches (reach_of taps d) d run
    reaches_as = record { equal = reaches_in Equal as_values; same = reaches_in (λ x y. x ≡ y) as_data }

-- a fresh cascade over any five stages
pub stream_reaches : (taps : ℕ → List Float) → FiveStages taps → (d : ℕ) → d ≤ 5 → Reaches (reach_of taps d) d (outs (stream taps) (stream_fresh d))
stream_reaches taps five d h = reaches_as taps d (λ i l. five.least i (omega arith)) (outs (stream taps) (stream_fresh d)) (stream_whole taps five d h)
