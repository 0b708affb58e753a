-- inner: a pattern's fields by value, and the numbers of edges of a catalogue's views in a table.
use Rattle.std.specs.Prelude.{ℕ, ◌+◌, ◌-◌, ◌*◌, ◌<◌, ◌≤◌, ◌≡◌, List, [], ◌∷◌, ◌++◌, length, get_or, replicate}
use Rattle.packed.specs.Contents.{nodes_of, edges_of, edge_counts}
use Rattle.packed.specs.declared.by_value.Pattern.{Pattern}

-- the first n of a table of so many are the words from first on, each so many words after the one before; the others are zero
pub record Spread (ws : List ℕ) (first step n size : ℕ) (r : List ℕ) : Type 0 where
  pub long : length r ≡ size
  pub each : (j : ℕ) → j < n → get_or r j 0 ≡ get_or ws (first + step * j) 0
  pub rest : (j : ℕ) → n ≤ j → get_or r j 0 ≡ 0

-- the pattern with the content ws
pub record HoldsPattern (ws : List ℕ) (p : Pattern) : Type 0 where
  pub nodes : p.nodes ≡ nodes_of ws
  pub edges : p.edges ≡ edges_of ws
  pub labels : Spread ws 2 1 (nodes_of ws) 16 p.labels
  pub from : Spread ws (2 + nodes_of ws) 3 (edges_of ws) 32 p.from
  pub to : Spread ws (3 + nodes_of ws) 3 (edges_of ws) 32 p.to
  pub kind : Spread ws (4 + nodes_of ws) 3 (edges_of ws) 32 p.kind

-- the pattern without nodes and edges, whose tables are zero
abbrev pub NoPattern : Pattern → Type 0
NoPattern p = HoldsPattern (0 ∷ 0 ∷ []) p

-- the numbers of edges, in a table of 16
pub record CountTable (ws r : List ℕ) : Type 0 where
  pub is : get_or ws 0 0 ≤ 16 → r ≡ edge_counts ws ++ replicate (16 - get_or ws 0 0) 0

-- a table of numbers of edges, each at most 32
abbrev pub Small : List ℕ → Type 0
Small counts = (j : ℕ) → get_or counts j 0 ≤ 32
