-- Outputs along a line of samples, from each place on, and what stands on a tape: for the contracts of private functions.
use Rattle.std.specs.Prelude.{◌≡◌, Bool, cond, List, [], ◌∷◌, ◌++◌, ℕ, suc, ◌+◌, ◌-◌, min, length, get_or, take, drop, Float, Some}
use Rattle.std.specs.Float.{nan, binary32}
use Rattle.std.specs.Float.Ieee.{add, mul}
use Rattle.theory.specs.Lists.{listed}
use Rattle.theory.specs.Sections.{Section}
use Rattle.float.specs.F32.{zero32}
use Rattle.half_band.specs.Windows.{slid}
use Rattle.linear_phase.specs.LinearPhase.{pair}
use Rattle.linear_phase.specs.Windows.{window_acc, window_value}

-- so many sums, after so many pairs
unfoldable pub window_sums : Bool → List Float → ℕ → List Float → ℕ → ℕ → List Float
window_sums antisymmetric c long line n t = listed n (λ i. window_acc antisymmetric c (take (suc long) (drop i line)) t)

-- from these, one pair more for each
unfoldable pub pairs_onto : (ℕ → Float) → Bool → Float → List Float → List Float → ℕ → List Float
pairs_onto start antisymmetric tap old new n = listed n (λ i. add binary32 (start i) (mul binary32 (pair antisymmetric (get_or new i nan) (get_or old i nan)) tap))

abbrev pub pairs_added : Bool → Float → List Float → List Float → List Float → List Float
pairs_added antisymmetric tap old new sums = pairs_onto (λ i. get_or sums i nan) antisymmetric tap old new (length sums)

-- sums with no pair yet
abbrev pub no_sums : ℕ → List Float
no_sums n = listed n (λ i. zero32)

-- a centre for each
unfoldable pub centres_added : List Float → List Float → List Float
centres_added centres sums = listed (length sums) (λ i. add binary32 (get_or sums i nan) (get_or centres i nan))

-- so many outputs
unfoldable pub window_values : Bool → Bool → List Float → ℕ → List Float → ℕ → List Float
window_values odd antisymmetric c long line n = listed n (λ i. window_value odd antisymmetric c (take (suc long) (drop i line)))

-- outputs put into a span from its front, as many as it has places for
unfoldable pub put_in_front : List Float → List Float → List Float
put_in_front y span = listed (min (length y) (length span)) (λ i. get_or y i nan) ++ drop (min (length y) (length span)) span

-- one of two lists
unfoldable pub picked : {A : Type 0} → Bool → List A → List A → List A
picked first a b = cond first a b

-- where the window of output `at` begins: on a tape with the delay in front, or among the samples
unfoldable pub window_start : Bool → ℕ → ℕ → ℕ
window_start front at long = cond front at (at - long)

-- as many of the n samples stand on a tape behind the delay as a group of windows that begins in it reaches
pub record OnTape (long : ℕ) (tape samples : List Float) (n : ℕ) : Type 0 where
  pub all : length samples ≡ n
  pub same : take (min n (long + 16)) (drop long tape) ≡ take (min n (long + 16)) samples

-- the delay d in front, and such samples behind it
pub record InRow (tape d samples : List Float) : Type 0 where
  pub front : take (length d) tape ≡ d
  pub on : OnTape (length d) tape samples (length samples)

-- ---- sample by sample, with the delay as the state
unfoldable pub linear_phase : Bool → Bool → List Float → Section (List Float) Float Float
linear_phase odd antisymmetric c =
    record { next = λ d x. slid d (x ∷ []); out = λ d x. Some (window_value odd antisymmetric c (d ++ (x ∷ []))) }
