-- A line fed again and again from one list of samples into one row of places: what each feed lends, what all of them leave, and demand 3 of each.
use Rattle.std.specs.Prelude.{cond, List, [], ◌∷◌, ◌++◌, ℕ, eqb, ℤ, Float, length, take, drop}
use Rattle.refusal.specs.Outcome.{Outcome}
use Rattle.refusal.specs.declared.Moved.{Moved}
use Rattle.line.specs.Outputs.{Opening}
use Rattle.line.specs.Openings.{opened}
use Rattle.line.specs.Line.{feed_outcome, feed_span}
use Rattle.line.specs.Demand3.{History, fed, line_of, taken_of, written_of, Kept}
use Rattle.line.specs.declared.gauge_line.Line.{Line}

-- A feed that is given p samples lends the next p that no feed has taken, or as many as are left; given s places, the next s that no feed was lent, or as many as
-- are left. It is that feed of the line's definition:
abbrev pub one : Line → List ℤ → List Float → ℕ → ℕ → Outcome Moved Line
one l xs out p s = feed_outcome l (take p xs) (length (take s out))

-- what all feeds leave: the line, for each how many samples it took and how many outputs it wrote, and every place
pub record Left : Type 0 where
  pub line : Line
  pub pieces : List ℕ
  pub spans : List ℕ
  pub out : List Float

-- of the line l, with the samples xs that none has taken and the places `out` that none was lent: feeds as long as both lists have a number. A number left over
-- stays, and so do the places behind the last span
unfoldable pub left : Line → List ℤ → List Float → List ℕ → List ℕ → Left
left l xs out [] spans = record { line = l; pieces = []; spans = spans; out = out }
left l xs out (p ∷ pieces) [] = record { line = l; pieces = p ∷ pieces; spans = []; out = out }
left l xs out (p ∷ pieces) (s ∷ spans) =
    record {
      line = (left (one l xs out p s).state (drop (one l xs out p s).value.taken xs) (drop s out) pieces spans).line;
      pieces = (one l xs out p s).value.taken ∷ (left (one l xs out p s).state (drop (one l xs out p s).value.taken xs) (drop s out) pieces spans).pieces;
      spans = (one l xs out p s).value.written ∷ (left (one l xs out p s).state (drop (one l xs out p s).value.taken xs) (drop s out) pieces spans).spans;
      out = feed_span l (take p xs) (take s out) ++ (left (one l xs out p s).state (drop (one l xs out p s).value.taken xs) (drop s out) pieces spans).out;
    }

-- from an opening; a refused one leaves all as it was lent
unfoldable pub all_left : Opening → List ℤ → List Float → List ℕ → List ℕ → Left
all_left o xs out pieces spans =
    cond (eqb (opened o).number 0)
    (left (opened o).state xs out pieces spans)
    (record { line = (opened o).state; pieces = pieces; spans = spans; out = out })

-- the history with the feed that is given p and s
abbrev pub fed_on : History → List ℤ → List Float → ℕ → ℕ → History
fed_on h xs out p s = fed h (take p xs) (take s out)

-- demand 3 of each feed, the first after the history h
unfoldable pub AllKept : Opening → History → List ℤ → List Float → List ℕ → List ℕ → Type 0
AllKept o h xs out [] spans = Unit {0}
AllKept o h xs out (p ∷ pieces) [] = Unit {0}
AllKept o h xs out (p ∷ pieces) (s ∷ spans) =
    Kept o (take p xs) (take s out) (feed_span (line_of o h) (take p xs) (take s out)) (one (line_of o h) xs out p s) (taken_of o (fed_on h xs out p s)) (written_of o (fed_on h xs out p s))
    × AllKept o (fed_on h xs out p s) (drop (one (line_of o h) xs out p s).value.taken xs) (drop s out) pieces spans
