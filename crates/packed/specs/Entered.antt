-- A record with one edge ("link") more, at its place in order.
use Rattle.std.specs.Prelude.{ℕ, suc, ◌+◌, ◌*◌, ◌/◌, ◌<◌, ◌≡◌, List, [], ◌∷◌, ◌++◌, false, take, drop, ltb}
use Rattle.packed.specs.Limits.{kinds_most, edges_most}
use Rattle.packed.specs.Bits.{one}
use Rattle.packed.specs.Formats.{rank, linked}
use Rattle.packed.specs.Contents.{nodes_of, edges_of, insert, ranks, from_ranks}

-- the fields of the edges of a record
abbrev pub edges_in : List ℕ → List ℕ
edges_in ws = drop (2 + nodes_of ws) ws

-- the fields of edges that ascend, and of the edge from a to b of the kind k among them, at its place
unfoldable pub entered_edges : List ℕ → ℕ → ℕ → ℕ → List ℕ
entered_edges es a b k = from_ranks (insert (rank a b k) (ranks es))

-- the content of the record with the content ws and this edge
unfoldable pub entered : List ℕ → ℕ → ℕ → ℕ → List ℕ
entered ws a b k = nodes_of ws ∷ suc (edges_of ws) ∷ (take (nodes_of ws) (drop 2 ws) ++ entered_edges (edges_in ws) a b k)

-- which edges may enter: both ends are nodes (4), the kind is one (3), the edge is not there already (6), the record is not full (3)
pub record MayEnter (ws : List ℕ) (a b k : ℕ) : Type 0 where
  pub from : a < nodes_of ws
  pub to : b < nodes_of ws
  pub is_kind : k < kinds_most
  pub new : linked a b k (edges_in ws) ≡ false
  pub room : edges_of ws < edges_most

-- how many bytes a record with so many nodes and edges takes: its two numbers, 32 bits a node and 27 an edge, rounded up
unfoldable pub record_length : ℕ → ℕ → ℕ
record_length nodes edges = (34 + 32 * nodes + 27 * edges) / 8

-- how many numbers of a list are below x
unfoldable pub lower : ℕ → List ℕ → ℕ
lower x [] = 0
lower x (y ∷ ys) = one (ltb y x) + lower x ys
