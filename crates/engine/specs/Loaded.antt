-- inner: what matching finds in the workspace: the words of m edges from word 0 on, each the code of its ends in the low 24 bits and its kind above them.
use Rattle.std.specs.Prelude.{ℕ, ◌+◌, ◌*◌, ◌<◌, ◌≤◌, ◌≡◌, List, length, get_or}
use Rattle.packed.specs.Bits.{field}
use Rattle.packed.specs.Contents.{word_from, word_to, word_kind}
use Rattle.packed.specs.declared.by_value.Pattern.{Pattern as Given}
use Rattle.engine.specs.Lists.{up_to}
use Rattle.engine.specs.Simulation.{Edge, between, Graph}
unfoldable pub use Rattle.engine.specs.Simulation.{given_edge, pattern_in}

-- the edge that stands in a word
abbrev pub edge_of_word : ℕ → Edge
edge_of_word c = between (word_from c) (word_to c) (word_kind c)

-- the graph of a record s with n nodes whose m edges stand in the workspace
unfoldable pub graph_in : List ℕ → ℕ → ℕ → List ℕ → Graph
graph_in s n m w = record { labels = up_to (λ v. field s (27 + 32 * v) 32) n; edges = up_to (λ i. edge_of_word (get_or w i 0)) m }

-- the pattern's numbers are in range
pub record Fair (p : Given) : Type 0 where
  pub nodes : p.nodes ≤ 16
  pub edges : p.edges ≤ 32
  pub labels_long : length p.labels ≡ 16
  pub from_long : length p.from ≡ 32
  pub to_long : length p.to ≡ 32
  pub kind_long : length p.kind ≡ 32
  pub labels : (u : ℕ) → u < p.nodes → get_or p.labels u 0 < 32
  pub from : (e : ℕ) → e < p.edges → get_or p.from e 0 < p.nodes
  pub to : (e : ℕ) → e < p.edges → get_or p.to e 0 < p.nodes
  pub kind : (e : ℕ) → e < p.edges → get_or p.kind e 0 < 8

-- the record's labels lie in its bytes, and its edges in the workspace
pub record Ready (s : List ℕ) (n m : ℕ) (w : List ℕ) : Type 0 where
  pub small : length s ≤ 65536
  pub labels : 27 + 32 * n ≤ 8 * length s
  pub nodes : n ≤ 4096
  pub edges : m ≤ 8192
  pub long : length w ≡ 16384
  pub from : (i : ℕ) → i < m → word_from (get_or w i 0) < n
  pub to : (i : ℕ) → i < m → word_to (get_or w i 0) < n
  pub kind : (i : ℕ) → i < m → word_kind (get_or w i 0) < 8

-- the words below 8192 are as they were
pub record Edges (w w' : List ℕ) : Type 0 where
  pub long : length w' ≡ length w
  pub same : (k : ℕ) → k < 8192 → get_or w' k 0 ≡ get_or w k 0
