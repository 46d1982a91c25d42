-- 02, §10, "Trying a feeding plan": "Given all that an opening takes and two lists, piece lengths and span lengths of up to 4,096 calls, step through the feeding and list
-- samples taken and written for each call. Lengths are at most 65,536, and an untaken rest isn't carried over."
use Rattle.std.specs.Prelude.{◌≡◌, Bool, true, cond, ◌&&◌, List, [], ◌∷◌, map, ℕ, leb, eqb, ℤ, length}
use Rattle.refusal.specs.declared.Moved.{Moved}
use Rattle.refusal.specs.Rows.{first_of, most_block}
use Rattle.line.specs.Outputs.{Opening}
use Rattle.line.specs.Openings.{opened, opening_number_of}
use Rattle.line.specs.Line.{feed_outcome}
use Rattle.line.specs.declared.gauge_line.Line.{Line}

-- what each feed answers, one after the other, each getting the line that the one before returned: call i is lent the samples of piece i alone, whatever call i−1 left
abbrev pub feed_counts : Line → List (List ℤ) → List ℕ → List Moved
feed_counts l [] spans = []
feed_counts l (xs ∷ samples) [] = []
feed_counts l (xs ∷ samples) (n ∷ spans) = (feed_outcome l xs n).value ∷ feed_counts (feed_outcome l xs n).state samples spans

-- "These equal the counts of a freshly opened line on every choice of samples of those lengths."
pub record PlanKept (o : Opening) (pieces spans taken written : List ℕ) : Type 0 where
  pub takes : (samples : List (List ℤ)) → map length samples ≡ pieces → map (λ (m : Moved). m.taken) (feed_counts (opened o).state samples spans) ≡ taken
  pub writes : (samples : List (List ℤ)) → map length samples ≡ pieces → map (λ (m : Moved). m.written) (feed_counts (opened o).state samples spans) ≡ written

-- "up to 4,096 calls"
abbrev pub most_calls : ℕ
most_calls = 4096

-- "Lengths are at most 65,536"
unfoldable pub lengths_fine : List ℕ → Bool
lengths_fine [] = true
lengths_fine (n ∷ l) = leb n most_block && lengths_fine l

-- "when the two lists and the two result lists aren't of one length or pass a limit": the result lists by their numbers of places
unfoldable pub lists_fine : List ℕ → List ℕ → ℕ → ℕ → Bool
lists_fine pieces spans taken_places written_places =
    let calls = length pieces in
    eqb (length spans) calls && (eqb taken_places calls && (eqb written_places calls && (leb calls most_calls && (lengths_fine pieces && lengths_fine spans))))

-- "22 .., after all opening refusals"
unfoldable pub plan_number : Opening → List ℕ → List ℕ → ℕ → ℕ → ℕ
plan_number o pieces spans taken_places written_places = first_of (opening_number_of o) (cond (lists_fine pieces spans taken_places written_places) 0 22)
