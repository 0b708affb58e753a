-- What stands in the content of a file: its fields in order, one number each.
use Rattle.std.specs.Prelude.{ℕ, zero, suc, ◌+◌, ◌-◌, ◌*◌, ◌/◌, ◌%◌, ◌^◌, List, [], ◌∷◌, ◌++◌, map, Bool, false, cond, ◌||◌, length, take, drop, get_or, replicate, eqb, ltb}
use Rattle.packed.specs.Limits.{nodes_most, kinds_most, pair_width}
use Rattle.packed.specs.Format.{pick}
use Rattle.packed.specs.Formats.{code, rank, standing}

-- ---- a pattern: how many nodes and edges it has, and how many fields
abbrev pub nodes_of : List ℕ → ℕ
nodes_of ws = get_or ws 0 0

abbrev pub edges_of : List ℕ → ℕ
edges_of ws = get_or ws 1 0

unfoldable pub pattern_size : List ℕ → ℕ
pattern_size ws = 2 + (nodes_of ws + 3 * edges_of ws)

-- ---- a catalogue

-- so many patterns, one after the other
unfoldable pub patterns_in : ℕ → List ℕ → List (List ℕ)
patterns_in zero ws = []
patterns_in (suc k) ws = take (pattern_size ws) ws ∷ patterns_in k (drop (pattern_size ws) ws)

-- the views of a catalogue, and how many edges each has
unfoldable pub views_of : List ℕ → List (List ℕ)
views_of ws = patterns_in (get_or ws 0 0) (drop 1 ws)

unfoldable pub edge_counts : List ℕ → List ℕ
edge_counts ws = map edges_of (views_of ws)

-- ---- a sheet: lists of pairs, each pair by its code

-- the codes of so many pairs
unfoldable pub codes_in : ℕ → List ℕ → List ℕ
codes_in zero ws = []
codes_in (suc k) ws = code (get_or ws 0 0) (get_or ws 1 0) ∷ codes_in k (drop 2 ws)

-- the codes of so many lists, each a count and its pairs; and what stands after them
unfoldable pub lists_in : ℕ → List ℕ → List (List ℕ)
lists_in zero ws = []
lists_in (suc m) ws = codes_in (get_or ws 0 0) (drop 1 ws) ∷ lists_in m (drop (1 + 2 * get_or ws 0 0) ws)

unfoldable pub after_lists : ℕ → List ℕ → List ℕ
after_lists zero ws = ws
after_lists (suc m) ws = after_lists m (drop (1 + 2 * get_or ws 0 0) ws)

-- the lists of a sheet for m edges, of which those that don't stand are empty; and what stands after the sheet
unfoldable pub sheet_lists : ℕ → List ℕ → List (List ℕ)
sheet_lists m ws = let k = standing (get_or ws 0 0) m in lists_in k (drop 1 ws) ++ replicate (m - k) []

unfoldable pub after_sheet : ℕ → List ℕ → List ℕ
after_sheet m ws = after_lists (standing (get_or ws 0 0) m) (drop 1 ws)

-- the fields of a list's pairs, and of lists: each a count and its pairs
unfoldable pub ends : List ℕ → List ℕ
ends [] = []
ends (c ∷ cs) = c / nodes_most ∷ c % nodes_most ∷ ends cs

unfoldable pub fields_of : List (List ℕ) → List ℕ
fields_of [] = []
fields_of (l ∷ ls) = length l ∷ (ends l ++ fields_of ls)

-- how many pairs lists have
unfoldable pub pair_count : List (List ℕ) → ℕ
pair_count [] = 0
pair_count (l ∷ ls) = length l + pair_count ls

-- the fields of a sheet with these lists: a 0 where nothing was found, else a 1 and the lists
unfoldable pub sheet_fields : List (List ℕ) → List ℕ
sheet_fields ls = pick (eqb (pair_count ls) 0) (0 ∷ []) (1 ∷ fields_of ls)

-- how many bytes a sheet with m lists and t pairs takes: 1 where nothing was found, else (1 + 14 m + 24 t) / 8, rounded up
unfoldable pub sheet_length : ℕ → ℕ → ℕ
sheet_length m t = pick (eqb t 0) 1 ((1 + 14 * m + 24 * t + 7) / 8)

-- ---- a book

-- the sheets in the content of a book for views with so many edges
unfoldable pub sheets_in : List ℕ → List ℕ → List (List (List ℕ))
sheets_in [] ws = []
sheets_in (m ∷ ms) ws = sheet_lists m ws ∷ sheets_in ms (after_sheet m ws)

-- ---- lists of codes

-- whether x stands in the list
unfoldable pub member : ℕ → List ℕ → Bool
member x [] = false
member x (y ∷ ys) = eqb y x || member x ys

-- x put into a list before the first number that is not below it; a number that is there already is not put again
unfoldable pub insert : ℕ → List ℕ → List ℕ
insert x [] = x ∷ []
insert x (y ∷ ys) = cond (ltb x y) (x ∷ y ∷ ys) (cond (eqb x y) (y ∷ ys) (y ∷ insert x ys))

-- the different numbers of a list, ascending
unfoldable pub distinct : List ℕ → List ℕ
distinct [] = []
distinct (x ∷ xs) = insert x (distinct xs)

-- ---- edges by their fields: from, to, kind, from, to, kind, ..

-- inner: the word of an edge in the workspace: the code of its ends, and its kind above the 24 bits of the code
abbrev pub edge_word : ℕ → ℕ → ℕ → ℕ
edge_word a b k = k * 2 ^ pair_width + code a b

-- what f makes of each of the edges with these fields
unfoldable pub each_edge : (ℕ → ℕ → ℕ → ℕ) → List ℕ → List ℕ
each_edge f [] = []
each_edge f (a ∷ []) = []
each_edge f (a ∷ b ∷ []) = []
each_edge f (a ∷ b ∷ k ∷ es) = f a b k ∷ each_edge f es

-- inner: their words
abbrev pub edge_words : List ℕ → List ℕ
edge_words es = each_edge edge_word es

-- their ranks
abbrev pub ranks : List ℕ → List ℕ
ranks es = each_edge rank es

-- inner: the ends of the edge in such a word, its kind, and where it stands in the order by from, to, kind
abbrev pub word_from : ℕ → ℕ
word_from c = c / nodes_most % nodes_most

abbrev pub word_to : ℕ → ℕ
word_to c = c % nodes_most

abbrev pub word_kind : ℕ → ℕ
word_kind c = c / 2 ^ pair_width

abbrev pub word_rank : ℕ → ℕ
word_rank c = rank (word_from c) (word_to c) (word_kind c)

-- inner: the fields of the edges that stand in these words
unfoldable pub from_words : List ℕ → List ℕ
from_words [] = []
from_words (c ∷ cs) = word_from c ∷ word_to c ∷ word_kind c ∷ from_words cs

-- the fields of the edges with these ranks
unfoldable pub from_ranks : List ℕ → List ℕ
from_ranks [] = []
from_ranks (r ∷ rs) = r / kinds_most / nodes_most ∷ r / kinds_most % nodes_most ∷ r % kinds_most ∷ from_ranks rs

-- the fields of the same edges, each once, by ascending rank
unfoldable pub sorted_edges : List ℕ → List ℕ
sorted_edges es = from_ranks (distinct (ranks es))
