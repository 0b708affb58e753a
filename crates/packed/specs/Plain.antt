-- The rules of the five files said plainly, with no format: what stands in the content ws of a file, and which bits bs it has.
use Rattle.std.specs.Prelude.{ℕ, suc, ◌+◌, ◌*◌, ◌^◌, ◌≤◌, ◌<◌, ◌≡◌, Bool, false, ◌⊎◌, length, get_or, replicate}
use mathlib.Core.List.{List, [], ◌∷◌, ◌++◌, flatten}
use Rattle.packed.specs.Bits.{bits_of, bits, gap}

-- ---- what the files share

-- a content and its bits
abbrev pub Laid : Type 1
Laid = List ℕ → List Bool → Type 0

-- numbers in fields of w bits, one after the other
unfoldable pub field_bits : ℕ → List ℕ → List Bool
field_bits w [] = []
field_bits w (v ∷ vs) = bits_of w v ++ field_bits w vs

-- each number of a list is below bound
abbrev pub Below : ℕ → List ℕ → Type 0
Below bound l = (i : ℕ) → i < length l → get_or l i 0 < bound

-- zero bits up to a whole byte, and nothing after them
pub record Whole (One : Laid) (ws : List ℕ) (bs : List Bool) : Type 0 where
  pub body : List Bool
  pub laid : One ws body
  pub fills : bs ≡ body ++ replicate (gap (length body)) false

-- so many parts, one after the other: contents and bits of each
pub record InTurn (One : ℕ → Laid) (number : ℕ) (ws : List ℕ) (bs : List Bool) : Type 0 where
  pub contents : List (List ℕ)
  pub laid : List (List Bool)
  pub many : length contents ≡ number
  pub many_laid : length laid ≡ number
  pub each : (i : ℕ) → i < number → One i (get_or contents i []) (get_or laid i [])
  pub content : ws ≡ flatten contents
  pub layout : bs ≡ flatten laid

-- ---- edges: from, to, kind, from, to, kind, ..

abbrev pub from_at : List ℕ → ℕ → ℕ
from_at es i = get_or es (3 * i) 0

abbrev pub to_at : List ℕ → ℕ → ℕ
to_at es i = get_or es (3 * i + 1) 0

abbrev pub kind_at : List ℕ → ℕ → ℕ
kind_at es i = get_or es (3 * i + 2) 0

-- their bits: w for an end, and wide for a kind
unfoldable pub edge_bits : ℕ → ℕ → List ℕ → List Bool
edge_bits w wide [] = []
edge_bits w wide (a ∷ []) = []
edge_bits w wide (a ∷ b ∷ []) = []
edge_bits w wide (a ∷ b ∷ k ∷ es) = bits_of w a ++ (bits_of w b ++ (bits_of wide k ++ edge_bits w wide es))

-- so many edges between so many nodes: each end is a node (4), and each kind one of so many
pub record EdgesAmong (nodes kinds number : ℕ) (es : List ℕ) : Type 0 where
  pub three_each : length es ≡ 3 * number
  pub from_node : (i : ℕ) → i < number → from_at es i < nodes
  pub to_node : (i : ℕ) → i < number → to_at es i < nodes
  pub is_kind : (i : ℕ) → i < number → kind_at es i < kinds

-- the edges i and j have the same fields
abbrev pub Same : List ℕ → ℕ → ℕ → Type 0
Same es i j = (from_at es i ≡ from_at es j) × (to_at es i ≡ to_at es j) × (kind_at es i ≡ kind_at es j)

-- no edge repeats an earlier one (5)
pub record PlainEdges (kinds nodes number : ℕ) (es : List ℕ) : Type 0 where
  pub among : EdgesAmong nodes kinds number es
  pub differ : (i j : ℕ) → i < j → j < number → Same es i j → ⊥

-- the edge i stands before the edge j: by from, then to, then kind
abbrev pub EdgeBefore : List ℕ → ℕ → ℕ → Type 0
EdgeBefore es i j =
    (from_at es i < from_at es j)
    ⊎ ((from_at es i ≡ from_at es j) × ((to_at es i < to_at es j) ⊎ ((to_at es i ≡ to_at es j) × (kind_at es i < kind_at es j))))

-- the edges ascend strictly (6)
pub record PlainRising (kinds nodes number : ℕ) (es : List ℕ) : Type 0 where
  pub among : EdgesAmong nodes kinds number es
  pub ascend : (i : ℕ) → suc i < number → EdgeBefore es i (suc i)

-- ---- pairs: a number, another, a number, another, ..

-- pair i stands before pair j: by the first number, then the other
abbrev pub Before : List ℕ → ℕ → ℕ → Type 0
Before ends i j =
    (get_or ends (2 * i) 0 < get_or ends (2 * j) 0) ⊎ ((get_or ends (2 * i) 0 ≡ get_or ends (2 * j) 0) × (get_or ends (2 * i + 1) 0 < get_or ends (2 * j + 1) 0))

-- so many pairs of numbers below 4,096, strictly ascending (6)
pub record PlainPairs (number : ℕ) (ends : List ℕ) : Type 0 where
  pub two_each : length ends ≡ 2 * number
  pub small : Below 4096 ends
  pub ascend : (i : ℕ) → suc i < number → Before ends i (suc i)

-- ---- a pattern: 1 to 16 nodes, each with a label 0 to 31, and 1 to 32 edges, each with a kind 0 to 7; each node is an end of some edge (7)
pub record PlainPattern (ws : List ℕ) (bs : List Bool) : Type 0 where
  pub nodes : ℕ
  pub number : ℕ
  pub labels : List ℕ
  pub es : List ℕ
  pub content : ws ≡ nodes ∷ number ∷ (labels ++ es)
  pub layout : bs ≡ bits_of 5 nodes ++ (bits_of 6 number ++ (field_bits 5 labels ++ edge_bits 4 3 es))
  pub some_nodes : 1 ≤ nodes
  pub most_nodes : nodes ≤ 16
  pub some_edges : 1 ≤ number
  pub most_edges : number ≤ 32
  pub label_each : length labels ≡ nodes
  pub are_labels : Below 32 labels
  pub edges : PlainEdges 8 nodes number es
  pub met : (x : ℕ) → x < nodes → (i : ℕ) × (i < number) × ((from_at es i ≡ x) ⊎ (to_at es i ≡ x))

-- the file s has the content ws
abbrev pub PatternFile : List ℕ → List ℕ → Type 0
PatternFile s ws = Whole PlainPattern ws (bits s)

-- ---- the questions of one call: so many patterns, each as in a file of its own
abbrev pub PlainPatterns : ℕ → Laid
PlainPatterns number = InTurn (λ i. Whole PlainPattern) number

abbrev pub QuestionsFile : ℕ → List ℕ → List ℕ → Type 0
QuestionsFile number s ws = PlainPatterns number ws (bits s)

-- ---- a catalogue: the number of patterns, zero bits up to a byte, and the patterns
pub record PlainCatalogue (ws : List ℕ) (bs : List Bool) : Type 0 where
  pub number : ℕ
  pub inner : List ℕ
  pub laid : List Bool
  pub content : ws ≡ number ∷ inner
  pub layout : bs ≡ bits_of 5 number ++ (replicate 3 false ++ laid)
  pub most : number ≤ 16
  pub patterns : PlainPatterns number inner laid

abbrev pub CatalogueFile : List ℕ → List ℕ → Type 0
CatalogueFile s ws = PlainCatalogue ws (bits s)

-- a file of zero bytes is read as a catalogue without patterns; no content is written as one
abbrev pub EmptyCatalogue : List ℕ → List ℕ → Type 0
EmptyCatalogue s ws = (s ≡ []) × (ws ≡ 0 ∷ [])

-- ---- a record: 0 to 4,096 nodes, each with 32 bits of labels, and 0 to 8,192 edges, of which Edges holds, with wide bits for a kind
pub record PlainGraph (wide : ℕ) (Edges : ℕ → ℕ → List ℕ → Type 0) (ws : List ℕ) (bs : List Bool) : Type 0 where
  pub nodes : ℕ
  pub number : ℕ
  pub labels : List ℕ
  pub es : List ℕ
  pub content : ws ≡ nodes ∷ number ∷ (labels ++ es)
  pub layout : bs ≡ bits_of 13 nodes ++ (bits_of 14 number ++ (field_bits 32 labels ++ edge_bits 12 wide es))
  pub most_nodes : nodes ≤ 4096
  pub most_edges : number ≤ 8192
  pub labels_each : length labels ≡ nodes
  pub are_labels : Below (2 ^ 32) labels
  pub edges : Edges nodes number es

-- each end is a node (4), each kind is 0 to 7, and the edges ascend (6)
abbrev pub PlainRecord : Laid
PlainRecord = PlainGraph 3 (PlainRising 8)

abbrev pub RecordFile : List ℕ → List ℕ → Type 0
RecordFile s ws = Whole PlainRecord ws (bits s)

-- ---- a sheet: a list of pairs for each edge of a pattern

-- a count, 1 to 8,192 (8, 3), and that many pairs, strictly ascending (6)
pub record PlainList (ws : List ℕ) (bs : List Bool) : Type 0 where
  pub number : ℕ
  pub ends : List ℕ
  pub content : ws ≡ number ∷ ends
  pub layout : bs ≡ bits_of 14 number ++ field_bits 12 ends
  pub some : 1 ≤ number
  pub most : number ≤ 8192
  pub pairs : PlainPairs number ends

-- one bit: 0 and nothing more, or 1 and m lists
pub record PlainSheet (m : ℕ) (ws : List ℕ) (bs : List Bool) : Type 0 where
  pub lead : ℕ
  pub inner : List ℕ
  pub laid : List Bool
  pub content : ws ≡ lead ∷ inner
  pub layout : bs ≡ bits_of 1 lead ++ laid
  pub either : ((lead ≡ 0) × (inner ≡ []) × (laid ≡ [])) ⊎ ((lead ≡ 1) × InTurn (λ i. PlainList) m inner laid)

abbrev pub SheetFile : ℕ → List ℕ → List ℕ → Type 0
SheetFile m s ws = Whole (PlainSheet m) ws (bits s)

-- ---- a book: a sheet for each number of edges in ms, each as in a file of its own
abbrev pub BookFile : List ℕ → List ℕ → List ℕ → Type 0
BookFile ms s ws = InTurn (λ i. Whole (PlainSheet (get_or ms i 0))) (length ms) ws (bits s)
