-- The window of a delay and the newest sample behind it, or in front of a line, read place by place.
use mathlib.Core.Path.{◌≡◌, refl, sym, ap, ap₂, ◌∙◌}
use mathlib.Core.Bool.{Bool, true, false, true≢false}
use mathlib.Core.List.{List, [], ◌∷◌, ◌++◌}
use Prim.Native.Nat.{ℕ, ◌+◌, ◌-◌, ◌≤◌, ◌<◌}
use native.Mathlib.Numerals.{add-one}
use native.Mathlib.Omega.{arith}
use lib.ListN.{length, get_or, get_or-append, take, length-append}
use lib.Seq.{get_or_at, take-suc}
use lib.Ieee.{Float, nan, binary32, add, mul}
use Rattle.float.specs.F32.{zero32}
use Rattle.linear_phase.specs.LinearPhase.{pair}
use Rattle.linear_phase.specs.Windows.{window_acc, has_centre, window_value}

module _ (d : List Float) (x : Float) where
  abbrev window : List Float
  window = d ++ (x ∷ [])

  -- a place of the delay
  pub place : (k : ℕ) → k < length d → get_or d k nan ≡ get_or window k nan
  place k h = sym (get_or-append d (x ∷ []) nan k h)

  newest : x ≡ get_or window (length window - 1 - 0) nan
  newest =
      sym (get_or_at d x [] nan (length window - 1 - 0) (last (length window) (length-append d (x ∷ []))))
    where
      last : (l : ℕ) → l ≡ length d + 1 → length d ≡ l - 1 - 0
      last l e = omega arith

  pub first_pair : (antisymmetric : Bool) (c : List Float) (y : Float) → 1 ≤ length d → y ≡ pair antisymmetric x (get_or d 0 nan)
      → add binary32 zero32 (mul binary32 y (get_or c 0 nan)) ≡ window_acc antisymmetric c window 1
  unfolding window_acc
  first_pair antisymmetric c y h e =
      ap (λ (p : Float). add binary32 zero32 (mul binary32 p (get_or c 0 nan))) (e ∙ ap₂ {C = Float} (pair antisymmetric) newest (place 0 h))

  pub next_pair : (antisymmetric : Bool) (c : List Float) (t : ℕ) (acc y : Float) → 1 ≤ t → t < length d
      → acc ≡ window_acc antisymmetric c window t → y ≡ pair antisymmetric (get_or d (length d - t) nan) (get_or d t nan)
      → add binary32 acc (mul binary32 y (get_or c t nan)) ≡ window_acc antisymmetric c window (t + 1)
  unfolding window_acc
  next_pair antisymmetric c t acc y least most ea ey =
      let e : length d - t ≡ length window - 1 - t = omega (arith, length-append d (x ∷ [])) in
      ap₂ {C = Float} (λ (a p : Float). add binary32 a (mul binary32 p (get_or c t nan))) ea
      (ey ∙ ap₂ {C = Float} (pair antisymmetric) (place (length d - t) (omega arith) ∙ ap (λ (k : ℕ). get_or window k nan) e) (place t most))
      ∙ ap (window_acc antisymmetric c window) (sym (add-one t))

-- the output by the two parameters: only an odd length has a centre
pub centre_odd : (odd antisymmetric : Bool) → has_centre odd antisymmetric ≡ true → odd ≡ true
unfolding has_centre
centre_odd true antisymmetric e = refl
centre_odd false antisymmetric e = absurd (true≢false (sym e))

pub value_centre : (odd antisymmetric : Bool) (c w : List Float) → has_centre odd antisymmetric ≡ true
    → add binary32 (window_acc antisymmetric c w (length c)) (get_or w (length c) nan) ≡ window_value odd antisymmetric c w
unfolding window_value
value_centre odd antisymmetric c w e = rw e

pub value_plain : (odd antisymmetric : Bool) (c w : List Float) → has_centre odd antisymmetric ≡ false → window_acc antisymmetric c w (length c) ≡ window_value odd antisymmetric c w
unfolding window_value
value_plain odd antisymmetric c w e = rw e

-- the window in front of a line
pub front_window : (line : List Float) (long : ℕ) → long < length line → take long line ++ (get_or line long nan ∷ []) ≡ take (long + 1) line
front_window line long h = sym (take-suc line long nan h) ∙ ap (λ (k : ℕ). take k line) (sym (add-one long))
