-- Demand 3: "Let a gauge line be freshly opened and given any list of feeds, each lending any samples and an output span of any length, and each getting the line that
-- the one before returned; nobody changes it in between." The feeds are seen as their caller sees them, through what `feed` answers and the span it leaves.
use Rattle.std.specs.Prelude.{◌≡◌, List, [], ◌++◌, ◌≤◌, ◌<◌, ℤ, Float, length, take, drop}
use Rattle.theory.specs.Lists.{but_last}
use Rattle.refusal.specs.Outcome.{Outcome}
use Rattle.refusal.specs.declared.Moved.{Moved}
use Rattle.line.specs.Outputs.{Opening, Outputs, held_cuts}
use Rattle.line.specs.Openings.{opened}
use Rattle.line.specs.Line.{feed_outcome, feed_span}
use Rattle.line.specs.declared.gauge_line.Line.{Line}

-- the feeds since the opening, the latest outermost: the samples and the span that each lent
pub data History : Type 0 where
  none_yet : History
  fed : History → List ℤ → List Float → History

module _ (o : Opening) where
  -- the line that the last feed returned
  abbrev pub line_of : History → Line
  line_of none_yet = (opened o).state
  line_of (fed h xs span) = (feed_outcome (line_of h) xs (length span)).state

  -- W: "the samples taken so far, joined in order"
  abbrev pub taken_of : History → List ℤ
  taken_of none_yet = []
  taken_of (fed h xs span) = taken_of h ++ take (feed_outcome (line_of h) xs (length span)).value.taken xs

  -- "The outputs so far, joined"
  abbrev pub written_of : History → List Float
  written_of none_yet = []
  written_of (fed h xs span) = written_of h ++ take (feed_outcome (line_of h) xs (length span)).value.written (feed_span (line_of h) xs span)

-- after the feeds h, a feed more lent xs and the span `before`, answered `told` and left the span `after`. W and the outputs so far are now w and y
pub record Kept (o : Opening) (xs : List ℤ) (before after : List Float) (told : Outcome Moved Line) (w : List ℤ) (y : List Float) : Type 0 where
  -- "No feed is refused."
  pub not_refused : told.number ≡ 0
  -- "Each answers the number of samples it took, from the front of those lent, and of outputs it wrote, from the front of its span."
  pub taken_lent : told.value.taken ≤ length xs
  pub written_in_span : told.value.written ≤ length before
  pub behind : drop told.value.written after ≡ drop told.value.written before
  -- "The outputs so far, joined, are then the first so many of those that 01 defines for W as a whole."
  pub first : (all : List Float) → Outputs o w all → y ≡ take (length y) all
  -- "After a feed that leaves a place of its span unwritten they are all of them, and it took every sample lent."
  pub unwritten : told.value.written < length before → Outputs o w y × (told.value.taken ≡ length xs)
  -- "After one that fills its span and took a sample, 01 defines fewer outputs for W without its last sample than were written so far."
  pub filled : told.value.written ≡ length before → 0 < told.value.taken → (all : List Float) → Outputs o (but_last w) all → length all < length y
  -- 02, §4: "For every feeding history the count is the number of cuts that the definitions make for W, held likewise."
  pub cuts : told.state.cuts ≡ held_cuts o w

-- 01 defines outputs for every W, and only one list of them, so that `first` and `filled` speak of something
pub record Defined (o : Opening) : Type 0 where
  pub some : (w : List ℤ) → (all : List Float) × Outputs o w all
  pub one : (w : List ℤ) (all other : List Float) → Outputs o w all → Outputs o w other → all ≡ other

-- the whole claim, of a feed of the line l: whatever it was opened with and whatever feeds led to it. Of a line to which no feeds lead it says nothing, so alone it
-- would allow any answer there. A feed's clauses `answer` and `span` hold of every line and leave one answer and one span: with them the claim is exact.
unfoldable pub Demand3 : Line → List ℤ → List Float → List Float → Outcome Moved Line → Type 0
Demand3 l xs before after told =
    (o : Opening) (h : History) → (opened o).number ≡ 0 → line_of o h ≡ l
    → Defined o × Kept o xs before after told (taken_of o h ++ take told.value.taken xs) (written_of o h ++ take told.value.written after)
