-- inner: the pairs of a sheet or a book one after the other, taken from its bits or from its fields, which need not be accepted for that.
use Rattle.std.specs.Prelude.{ℕ, zero, suc, ◌+◌, ◌-◌, ◌*◌, ◌%◌, ◌^◌, ◌<◌, ◌≤◌, ◌≡◌, List, [], ◌∷◌, ◌++◌, length, take, drop, get_or, leb}
use Rattle.packed.specs.Bits.{field, gap}
use Rattle.packed.specs.Limits.{pairs_most, nodes_most, lead_width, count_width, pair_width, workspace, chunk_place, chunk_most}
use Rattle.packed.specs.Format.{pick}
use Rattle.packed.specs.Formats.{code, standing}
use Rattle.packed.specs.Distinct.{Absorbable}
use Rattle.packed.specs.Contents.{distinct}
use Rattle.packed.specs.declared.cursor.Extent.{Extent}
use Rattle.packed.specs.declared.gather.Gather.{Gather}

-- the field of w bits at the bit offset at, or 0 where the bits end before it does
unfoldable pub field_or : List ℕ → ℕ → ℕ → ℕ
field_or s at w = pick (leb (at + w) (8 * length s)) (field s at w) 0

-- the codes of so many pairs: each is one number
unfoldable pub codes_at : List ℕ → ℕ → ℕ → List ℕ
codes_at s at zero = []
codes_at s at (suc k) = field_or s at pair_width ∷ codes_at s (at + pair_width) k

-- of n pairs from the bit offset first on: where the pair i stands, and the codes from it on
abbrev pub pair_place : ℕ → ℕ → ℕ
pair_place first i = first + pair_width * i

abbrev pub codes_on : List ℕ → ℕ → ℕ → ℕ → List ℕ
codes_on s first n i = codes_at s (pair_place first i) (n - i)

-- the list at the bit offset at is a count and so many pairs: where its pairs begin, how many they are, and where it ends
abbrev pub list_first : ℕ → ℕ
list_first at = at + count_width

abbrev pub list_count : List ℕ → ℕ → ℕ
list_count s at = field_or s at count_width

unfoldable pub list_end : List ℕ → ℕ → ℕ
list_end s at = at + (count_width + pair_width * list_count s at)

-- more bits than a list takes, whatever its count
abbrev pub list_bits : ℕ
list_bits = count_width + pair_width * 2 ^ count_width

-- the list at the bit offset at, by value
pub record Spans (s : List ℕ) (at : ℕ) (l : Extent) : Type 0 where
  pub first : l.first ≡ list_first at
  pub count : l.count ≡ list_count s at
  pub next : l.next ≡ list_end s at
  pub few : l.count < 2 ^ count_width
  pub near : l.next ≤ at + list_bits

-- the codes of so many lists, and where they end
unfoldable pub pairs_at : List ℕ → ℕ → ℕ → List ℕ
pairs_at s at zero = []
pairs_at s at (suc m) = codes_at s (list_first at) (list_count s at) ++ pairs_at s (list_end s at) m

unfoldable pub lists_end : List ℕ → ℕ → ℕ → ℕ
lists_end s at zero = at
lists_end s at (suc m) = lists_end s (list_end s at) m

-- the sheet at the bit offset at is a lead and the lists that stand: where they begin, how many of m they are, and where the next whole byte
-- after them is
abbrev pub lists_first : ℕ → ℕ
lists_first at = at + lead_width

abbrev pub lists_count : List ℕ → ℕ → ℕ → ℕ
lists_count s at m = standing (field_or s at lead_width) m

abbrev pub lists_last : List ℕ → ℕ → ℕ → ℕ
lists_last s at m = lists_end s (lists_first at) (lists_count s at m)

abbrev pub sheet_end : List ℕ → ℕ → ℕ → ℕ
sheet_end s at m = lists_last s at m + gap (lists_last s at m)

-- the codes of a sheet, and of the sheets of a book
abbrev pub sheet_pairs : List ℕ → ℕ → ℕ → List ℕ
sheet_pairs s at m = pairs_at s (lists_first at) (lists_count s at m)

unfoldable pub book_pairs : List ℕ → ℕ → List ℕ → List ℕ
book_pairs s at [] = []
book_pairs s at (m ∷ ms) = sheet_pairs s at m ++ book_pairs s (sheet_end s at m) ms

-- the codes of so many pairs among fields, of which only what a pair's number can hold counts
unfoldable pub codes_from : List ℕ → ℕ → ℕ → List ℕ
codes_from ws i zero = []
codes_from ws i (suc k) = code (get_or ws i 0 % nodes_most) (get_or ws (i + 1) 0 % nodes_most) ∷ codes_from ws (i + 2) k

-- the codes of so many lists among fields, each with a count of which only what its field can hold counts; and where they end
abbrev pub field_count : List ℕ → ℕ → ℕ
field_count ws i = get_or ws i 0 % 2 ^ count_width

unfoldable pub pairs_from : List ℕ → ℕ → ℕ → List ℕ
pairs_from ws i zero = []
pairs_from ws i (suc m) = codes_from ws (i + 1) (field_count ws i) ++ pairs_from ws (i + (1 + 2 * field_count ws i)) m

unfoldable pub fields_end : List ℕ → ℕ → ℕ → ℕ
fields_end ws i zero = i
fields_end ws i (suc m) = fields_end ws (i + (1 + 2 * field_count ws i)) m

-- the codes of the sheets of a book among fields, each a lead, of which only what its field can hold counts, and the lists that stand
abbrev pub fields_count : List ℕ → ℕ → ℕ → ℕ
fields_count ws i m = standing (get_or ws i 0 % 2 ^ lead_width) m

unfoldable pub book_pairs_from : List ℕ → ℕ → List ℕ → List ℕ
book_pairs_from ws i [] = []
book_pairs_from ws i (m ∷ ms) = pairs_from ws (i + 1) (fields_count ws i m) ++ book_pairs_from ws (fields_end ws (i + 1) (fields_count ws i m)) ms

-- the different codes so far: held of them ascending at the front of the workspace, and a chunk with fill more; once
-- there are too many, only that is known
pub record Gathers (codes : List ℕ) (g : Gather) (w : List ℕ) : Type 0 where
  pub long : length w ≡ workspace
  pub chunk : g.fill < chunk_most
  pub few : g.held ≤ pairs_most → Absorbable g.held g.fill w
  pub same : g.held ≤ pairs_most → distinct codes ≡ distinct (take g.held w ++ take g.fill (drop chunk_place w))
  pub many : pairs_most < g.held → pairs_most < length (distinct codes)

-- what more codes do to the state, whatever the codes so far
abbrev pub Adds : List ℕ → Gather → List ℕ → Gather → List ℕ → Type 0
Adds more g w g' w' = (codes : List ℕ) → Gathers codes g w → Gathers (codes ++ more) g' w'

-- some codes were gathered
abbrev pub Gathering : Gather → List ℕ → Type 0
Gathering g w = (codes : List ℕ) × Gathers codes g w

-- the different codes at the front of the workspace, or that there are too many
pub record Different (codes : List ℕ) (r : ℕ) (w : List ℕ) : Type 0 where
  pub few : r ≤ pairs_most → take r w ≡ distinct codes
  pub number : r ≤ pairs_most → r ≡ length (distinct codes)
  pub many : pairs_most < r → pairs_most < length (distinct codes)
  pub long : length w ≡ workspace
