-- A block through a machine, whole: what it leaves is what the machine's feed leaves, and how many values leave a place of the span.
use Rattle.std.specs.Prelude.{◌≡◌, List, ℕ, ◌<◌, Float, length}
use Rattle.theory.specs.Lists.{in_front}
use Rattle.theory.specs.Machines.{Machine}
use Rattle.theory.specs.Feeds as F

-- the most sums of a block
abbrev pub most_sums : ℕ
most_sums = 128

-- the most of its values that go through section 4 at once
abbrev pub most_levels : ℕ
most_levels = 64

-- the machine takes all of xs, with so many places
abbrev pub Whole : {S A : Type 0} → Machine S A Float → S → List A → ℕ → Type 0
Whole m s xs places = (F.feed m s xs places).taken ≡ length xs

-- fewer values than `count`, whichever they are, leave a place
abbrev pub Leaves : {S A : Type 0} → Machine S A Float → S → ℕ → ℕ → Type 0
Leaves {S} {A} m s count places = (xs : List A) → length xs < count → length (F.feed m s xs places).written < places

-- what a block xs left of a span: the state t, the places written and the span are those of the feed
pub record Batched {S A : Type 0} (m : Machine S A Float) (s : S) (xs : List A) (before after : List Float) (t : S) (written : ℕ) : Type 0 where
  pub state : t ≡ (F.feed m s xs (length before)).line
  pub wrote : written ≡ length (F.feed m s xs (length before)).written
  pub span : after ≡ in_front (F.feed m s xs (length before)).written before
