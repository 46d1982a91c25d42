-- 02, §12: "Add the rearrangement from t × P + p to p × T + t in a second buffer, and its inverse. Each undoes the other, each output is a reordering of its input, and
-- this is shown over all P and T."
use Rattle.std.specs.Prelude.{◌≡◌, Bool, ◌&&◌, cond, List, ℕ, ◌+◌, ◌*◌, ◌/◌, ◌%◌, ◌<◌, eqb, length, get_or, Float}
use Rattle.std.specs.Float.{nan}
use Rattle.theory.specs.Lists.{listed}
use Rattle.refusal.specs.Outcome.{Answer}
use Rattle.float.specs.PolyphaseOpening.{in_limits}

-- where what belongs at place i = p × T + t comes from: t × P + p
abbrev pub place_by_tap : ℕ → ℕ → ℕ → ℕ
place_by_tap P T i = (i % T) * P + i / T

-- "from t × P + p to p × T + t"
unfoldable pub by_phase : ℕ → ℕ → List Float → List Float
by_phase P T h = listed (P * T) (λ i. get_or h (place_by_tap P T i) nan)

-- "and its inverse", from p × T + t to t × P + p: the same with P and T exchanged
abbrev pub by_tap : ℕ → ℕ → List Float → List Float
by_tap P T g = by_phase T P g

-- tap t of phase p stands in h at t × P + p, and in g, which has a phase in each row of T, at p × T + t
abbrev pub InRows : ℕ → ℕ → List Float → List Float → Type 0
InRows P T h g = (p t : ℕ) → p < P → t < T → get_or g (p * T + t) nan ≡ get_or h (t * P + p) nan

-- "a reordering": place i of g is place `from i` of h, and each place is come from once
pub record Reordered (h g : List Float) : Type 0 where
  pub same_length : length g ≡ length h
  pub from : ℕ → ℕ
  pub to : ℕ → ℕ
  pub from_inside : (i : ℕ) → i < length h → from i < length h
  pub to_inside : (i : ℕ) → i < length h → to i < length h
  pub to_from : (i : ℕ) → i < length h → to (from i) ≡ i
  pub from_to : (i : ℕ) → i < length h → from (to i) ≡ i
  pub moved : (i : ℕ) → i < length h → get_or g i nan ≡ get_or h (from i) nan

-- the claims, of any P and T and any P × T values
pub record Rearranges (P T : ℕ) (h : List Float) : Type 0 where
  pub rows : InRows P T h (by_phase P T h)
  pub rows_back : InRows P T (by_tap P T h) h
  pub back : by_tap P T (by_phase P T h) ≡ h
  pub forth : by_phase P T (by_tap P T h) ≡ h
  pub phases_reordered : Reordered h (by_phase P T h)
  pub taps_reordered : Reordered h (by_tap P T h)

-- "Lengths are refused under 12 and 13; a span of another length than the prototype counts as 13"
unfoldable pub lengths_fit : ℕ → ℕ → ℕ → ℕ → Bool
lengths_fit P T prototype span = eqb prototype (P * T) && eqb span prototype

-- either call: its number, and how many places it wrote
abbrev pub rows_answer : ℕ → ℕ → ℕ → ℕ → Answer ℕ
rows_answer P T prototype span =
    cond (in_limits P T) (cond (lengths_fit P T prototype span) (record { number = 0; value = P * T }) (record { number = 13; value = 0 })) (record { number = 12; value = 0 })

-- and the span after it, `turned` being what the call is to put there
abbrev pub rows_span : ℕ → ℕ → ℕ → List Float → List Float → List Float
rows_span P T prototype turned span = cond (in_limits P T) (cond (lengths_fit P T prototype (length span)) turned span) span
