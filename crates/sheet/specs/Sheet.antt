-- 02, requests 1 and 9: a tap sheet as a list of bytes, what a reader answers of it, and what a writer makes.
use Rattle.std.specs.Prelude.{Bool, true, false, cond, ◌&&◌, List, [], ◌∷◌, ◌++◌, ◌≡◌, ℕ, zero, suc, ◌+◌, ◌*◌, ◌/◌, ◌%◌, ◌^◌, ◌-◌, ◌<◌, leb, ltb, eqb, length, get_or, set, take, drop}
use Rattle.refusal.specs.Rows.{first_of}
use Rattle.refusal.specs.Outcome.{Answer}
use Rattle.sheet.specs.Laid.{laid_in}
use Rattle.sheet.specs.declared.directory.Place.{Place}

-- the rule that a panel knows: that of request 1, or that of request 9, which took its place
pub data Rule : Type 0 where
  former : Rule
  present : Rule

-- "16-bit little-endian", "32-bit little-endian": the number that stands at a place
unfoldable pub le16 : List ℕ → ℕ → ℕ
le16 b at = get_or b at 0 + 256 * get_or b (at + 1) 0

unfoldable pub le32 : List ℕ → ℕ → ℕ
le32 b at = le16 b at + 65536 * le16 b (at + 2)

-- "the top bit in the entry count (32,768)"
abbrev pub mark : ℕ
mark = 32768

-- the entry count; "which new sheets set .. and readers strip"
unfoldable pub count_of : Rule → List ℕ → ℕ
count_of former b = le16 b 0
count_of present b = le16 b 0 % mark

-- whether the sheet is to have its empty entries first; "sheets made before this are checked under the former rule, marked by the lack of the top bit"
unfoldable pub empty_first : Rule → List ℕ → Bool
empty_first former b = false
empty_first present b = leb mark (le16 b 0)

-- "an entry count, 0 to 32"
abbrev pub most_entries : ℕ
most_entries = 32

-- "then that many pairs .. then data": where the data of a sheet of n entries begin
abbrev pub data_from : ℕ → ℕ
data_from n = 2 + 8 * n

-- "pairs of 32-bit little-endian offset and length in bytes"
unfoldable pub offset : List ℕ → ℕ → ℕ
offset b k = le32 b (2 + 8 * k)

unfoldable pub size : List ℕ → ℕ → ℕ
size b k = le32 b (6 + 8 * k)

-- "the count is over 32, the sheet ends inside its directory": the count stands in the directory too
unfoldable pub directory_broken : Rule → List ℕ → Bool
directory_broken rule b = cond (ltb (length b) 2) true (cond (ltb most_entries (count_of rule b)) true (ltb (length b) (data_from (count_of rule b))))

-- whether every number below n passes
unfoldable pub every : ℕ → (ℕ → Bool) → Bool
every zero p = true
every (suc n) p = every n p && p n

-- not "leaves the data (an empty one if its offset is inside the directory or past the sheet's end)"
unfoldable pub in_data : List ℕ → ℕ → ℕ → Bool
in_data b n k = leb (data_from n) (offset b k) && leb (offset b k + size b k) (length b)

-- what entry j asks of a full entry i that stands before it: "no byte belongs to two entries, so an empty one overlaps nothing", and with the empty entries
-- first no full one of equal offset stands before an empty one
unfoldable pub clear : Bool → List ℕ → ℕ → ℕ → Bool
clear first b i j = cond (eqb (size b j) 0) (cond first (ltb (offset b i) (offset b j)) true) (leb (offset b i + size b i) (offset b j))

-- entry j may stand behind entry i: "sorted by offset", and clear of it where it is full
unfoldable pub follows : Bool → List ℕ → ℕ → ℕ → Bool
follows first b i j = leb (offset b i) (offset b j) && cond (eqb (size b i) 0) true (clear first b i j)

-- entry j, and the first n of a directory
unfoldable pub entry_fine : Bool → List ℕ → ℕ → ℕ → Bool
entry_fine first b n j = in_data b n j && every j (λ i. follows first b i j)

unfoldable pub entries_fine : Bool → List ℕ → ℕ → Bool
entries_fine first b n = every n (entry_fine first b n)

-- 16 "or a reader's count is not its sheet's, checked first", then 17
unfoldable pub reader_number : Rule → List ℕ → ℕ → ℕ
reader_number rule b kept =
    cond (directory_broken rule b) 16 (cond (eqb kept (count_of rule b)) (cond (entries_fine (empty_first rule b) b kept) 0 17) 16)

-- a sheet by itself: that of a reader with the sheet's own count
unfoldable pub sheet_number : Rule → List ℕ → ℕ
sheet_number rule b = reader_number rule b (count_of rule b)

-- "18 when the wanted entry number is not below the count, checked last"
unfoldable pub entry_number : Rule → List ℕ → ℕ → ℕ → ℕ
entry_number rule b kept k = first_of (reader_number rule b kept) (cond (ltb k kept) 0 18)

-- entry k: "a part of those bytes"; the empty part where it is refused
unfoldable pub part_at : List ℕ → ℕ → List ℕ
part_at b k = take (size b k) (drop (offset b k) b)

unfoldable pub entry : Rule → List ℕ → ℕ → ℕ → List ℕ
entry rule b kept k = cond (eqb (entry_number rule b kept k) 0) (part_at b k) []

-- where entry k begins, for a caller to whom no part of the bytes can be handed; 0 where it is refused
unfoldable pub entry_offset : Rule → List ℕ → ℕ → ℕ → ℕ
entry_offset rule b kept k = cond (eqb (entry_number rule b kept k) 0) (offset b k) 0

-- what a reader keeps of the bytes that it is opened on, and of their count: nothing where the sheet is refused ("a refused opening's state is all zeros")
unfoldable pub kept_bytes : Rule → List ℕ → List ℕ
kept_bytes rule b = cond (eqb (sheet_number rule b) 0) b []

unfoldable pub kept_count : Rule → List ℕ → ℕ
kept_count rule b = cond (eqb (sheet_number rule b) 0) (count_of rule b) 0

unfoldable pub sheet_answer : Rule → List ℕ → Answer ℕ
sheet_answer rule b = record { number = sheet_number rule b; value = kept_count rule b }

unfoldable pub entry_answer : Rule → List ℕ → ℕ → ℕ → Answer ℕ
entry_answer rule b kept k = record { number = entry_number rule b kept k; value = length (entry rule b kept k) }

-- both, for a caller who takes the part itself
abbrev pub no_place : Place
no_place = record { offset = 0; size = 0 }

unfoldable pub place_answer : Rule → List ℕ → ℕ → ℕ → Answer Place
place_answer rule b kept k = record { number = entry_number rule b kept k; value = record { offset = entry_offset rule b kept k; size = length (entry rule b kept k) } }

-- ---- the writer: "is lent the entries' bytes joined and the list of their lengths; it lays the entries without gaps"

-- the bytes of a number, little-endian
abbrev pub bytes16 : ℕ → List ℕ
bytes16 n = n % 256 ∷ n / 256 % 256 ∷ []

abbrev pub bytes32 : ℕ → List ℕ
bytes32 n = n % 256 ∷ n / 256 % 256 ∷ n / 65536 % 256 ∷ n / 16777216 % 256 ∷ []

unfoldable pub sum : List ℕ → ℕ
sum [] = 0
sum (n ∷ ns) = n + sum ns

-- the pairs of entries that are laid one behind the other from a place on
unfoldable pub pairs_from : ℕ → List ℕ → List ℕ
pairs_from at [] = []
pairs_from at (n ∷ ns) = bytes32 at ++ (bytes32 n ++ pairs_from (at + n) ns)

-- the count as a sheet has it
abbrev pub count_word : Rule → ℕ → ℕ
count_word former n = n
count_word present n = mark + n

-- a sheet with the top bit of its count set: 128 more in the second byte
unfoldable pub marked : List ℕ → List ℕ
marked b = set b 1 (get_or b 1 0 + 128)

unfoldable pub written : Rule → List ℕ → List ℕ → List ℕ
written rule joined lengths = bytes16 (count_word rule (length lengths)) ++ (pairs_from (data_from (length lengths)) lengths ++ joined)

-- the count and the pairs in front of a span, for who lays the entries behind them: lengths over 32 or that do not add up to a total below 2^32 are not laid, nor
-- are they where the span has no room
unfoldable pub directory_in : Rule → ℕ → List ℕ → List ℕ → List ℕ
directory_in rule total lengths span =
    cond (leb (length lengths) most_entries && (leb total (2 ^ 32 - 1) && eqb (sum lengths) total))
    (laid_in 0 (bytes16 (count_word rule (length lengths)) ++ pairs_from (data_from (length lengths)) lengths) span)
    span

-- 16 of the count; "17 .. when the writer's lengths do not add up to its bytes, its sheet would pass 2^32−1 bytes or its span is too short for the sheet"
unfoldable pub writer_number : List ℕ → List ℕ → ℕ → ℕ
writer_number joined lengths places =
    cond (ltb most_entries (length lengths)) 16
    (cond (eqb (sum lengths) (length joined))
    (cond (leb (data_from (length lengths) + length joined) (2 ^ 32 - 1)) (cond (leb (data_from (length lengths) + length joined) places) 0 17) 17)
    17)

-- the sheet's length, and the span that the writer leaves: the sheet in front, and the places behind it as they were
unfoldable pub writer_answer : List ℕ → List ℕ → ℕ → Answer ℕ
writer_answer joined lengths places =
    record {
      number = writer_number joined lengths places;
      value = cond (eqb (writer_number joined lengths places) 0) (data_from (length lengths) + length joined) 0;
    }

unfoldable pub writer_span : Rule → List ℕ → List ℕ → List ℕ → List ℕ
writer_span rule joined lengths span =
    cond (eqb (writer_number joined lengths (length span)) 0)
    (written rule joined lengths ++ drop (data_from (length lengths) + length joined) span)
    span

-- "reading its sheet yields them again": entry k is the k-th part of the joined bytes
unfoldable pub laid_entry : List ℕ → List ℕ → ℕ → List ℕ
laid_entry joined lengths k = take (get_or lengths k 0) (drop (sum (take k lengths)) joined)

-- 02, request 9, of a sheet that the writer made: "A reader made before this answers a new sheet with 16", whatever count it keeps; and but for the mark the bytes are
-- those that a writer made before this lays
pub record ForOlder (joined lengths sheet : List ℕ) : Type 0 where
  pub refused : (kept : ℕ) → reader_number former sheet kept ≡ 16
  pub but_for_the_mark : sheet ≡ marked (written former joined lengths)

pub record ReadsBack (rule : Rule) (joined lengths sheet : List ℕ) : Type 0 where
  pub count : count_of rule sheet ≡ length lengths
  pub number : (k : ℕ) → k < length lengths → entry_number rule sheet (length lengths) k ≡ 0
  pub entries : (k : ℕ) → k < length lengths → entry rule sheet (length lengths) k ≡ laid_entry joined lengths k
