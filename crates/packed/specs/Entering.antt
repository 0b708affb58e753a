-- inner: an edge enters among the words of a record's edges in the workspace.
use Rattle.std.specs.Prelude.{ℕ, ◌+◌, ◌≤◌, ◌<◌, ◌≡◌, true, false, List, [], ◌∷◌, length, get_or, Some, None}
use Rattle.std.proofs.lemmas.List.Edits.{sets}
use Rattle.packed.specs.Format.{ok, decode}
use Rattle.packed.specs.Formats.{record', rank}
use Rattle.packed.specs.Contents.{member, word_rank, ranks}
use Rattle.packed.specs.Calls.{record_bytes}
use Rattle.packed.specs.LoadedGraph.{Holds}
use Rattle.packed.specs.Entered.{edges_in, entered, MayEnter, lower}
use Rattle.packed.specs.Parts.{Place}

-- the ranks of the edges in these words
unfoldable pub word_ranks : List ℕ → List ℕ
word_ranks [] = []
word_ranks (c ∷ cs) = word_rank c ∷ word_ranks cs

-- x is among the numbers of l, or stands behind so many lower ones
abbrev pub Placed : ℕ → List ℕ → Place → Type 0
Placed x l (Some n) = (member x l ≡ false) × (n ≡ lower x l)
Placed x l None = member x l ≡ true

-- the word x was put at the place at among the first m words: those from there on moved up by one
pub record PutAt (at m x : ℕ) (w w' : List ℕ) : Type 0 where
  pub long : length w' ≡ length w
  pub below : (k : ℕ) → k < at → get_or w' k 0 ≡ get_or w k 0
  pub here : get_or w' at 0 ≡ x
  pub moved : (k : ℕ) → at ≤ k → k < m → get_or w' (k + 1) 0 ≡ get_or w k 0
  pub high : (k : ℕ) → m < k → get_or w' k 0 ≡ get_or w k 0

-- the edge may enter the record s, behind so many others
pub record EntersAt (s : List ℕ) (a b k at : ℕ) : Type 0 where
  pub fields : List ℕ
  pub is : decode record' s ≡ ok fields
  pub may : MayEnter fields a b k
  pub behind : at ≡ lower (rank a b k) (ranks (edges_in fields))

-- the record s with this edge: its bytes stand at the front of out, and the words of its edges in the workspace
pub record EnteredIn (s : List ℕ) (n m a b k : ℕ) (out out' w : List ℕ) : Type 0 where
  pub written : (ws : List ℕ) → decode record' s ≡ ok ws → out' ≡ sets out 0 (record_bytes (entered ws a b k))
  pub holds : (ws : List ℕ) → decode record' s ≡ ok ws → Holds (record_bytes (entered ws a b k)) n (m + 1) w
