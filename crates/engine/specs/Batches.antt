-- inner: several patterns side by side, matched in one run: each has the nodes and the edges from its own numbers on, and its bits in each mask.
use Rattle.std.specs.Prelude.{ℕ, ◌+◌, ◌<◌, ◌≤◌, ◌≡◌, List, ◌⊎◌, ◌↔◌, length, get_or, T}
use Rattle.packed.specs.Contents.{word_kind}
use Rattle.packed.specs.Order.{Outside}
use Rattle.packed.specs.Matches.{matches_from}
use Rattle.packed.specs.Matches.{Marked as MarkedPairs}
use Rattle.packed.specs.declared.by_value.Pattern.{Pattern as Given}
use Rattle.engine.specs.Simulation.{bit, Rule, both_ways, ruled, match_sets}
use Rattle.engine.specs.Masks.{Has, Mask}
use Rattle.engine.specs.Loaded.{pattern_in, graph_in, Fair, Edges}
use Rattle.engine.specs.Matched.{Proper}
use Rattle.engine.specs.declared.batch.Batch.{Batch}

-- the batch's numbers are in range
pub record FairBatch (b : Batch) : Type 0 where
  pub nodes : b.nodes ≤ 64
  pub edges : b.edges ≤ 32
  pub labels_long : length b.labels ≡ 64
  pub from_long : length b.from ≡ 32
  pub to_long : length b.to ≡ 32
  pub kind_long : length b.kind ≡ 32
  pub labels : (u : ℕ) → u < b.nodes → get_or b.labels u 0 < 32
  pub from : (e : ℕ) → e < b.edges → get_or b.from e 0 < b.nodes
  pub to : (e : ℕ) → e < b.edges → get_or b.to e 0 < b.nodes
  pub kind : (e : ℕ) → e < b.edges → get_or b.kind e 0 < 8
  pub back : (e : ℕ) → Has b.back e → e < b.edges

-- the pattern p, matched by the rule r, is a part of the batch: its nodes stand from a on, its edges from o on, and no other edge has an end among those nodes
pub record PartOf (b : Batch) (r : Rule) (p : Given) (a o : ℕ) : Type 0 where
  pub nodes : a + p.nodes ≤ b.nodes
  pub edges : o + p.edges ≤ b.edges
  pub labels : (u : ℕ) → u < p.nodes → get_or b.labels (a + u) 0 ≡ get_or p.labels u 0
  pub from : (e : ℕ) → e < p.edges → get_or b.from (o + e) 0 ≡ a + get_or p.from e 0
  pub to : (e : ℕ) → e < p.edges → get_or b.to (o + e) 0 ≡ a + get_or p.to e 0
  pub kind : (e : ℕ) → e < p.edges → get_or b.kind (o + e) 0 ≡ get_or p.kind e 0
  pub own : (e u : ℕ) → e < b.edges → u < p.nodes → (get_or b.from e 0 ≡ a + u) ⊎ (get_or b.to e 0 ≡ a + u) → (o ≤ e) × (e < o + p.edges)
  pub asked : (e : ℕ) → e < p.edges → Has b.back (o + e) ↔ (r ≡ both_ways)

-- what a part's bits say once the batch is matched: its match sets, and of each marked edge its kind
pub record PartMatched (r : Rule) (p : Given) (o : ℕ) (s : List ℕ) (n m : ℕ) (w w' : List ℕ) : Type 0 where
  pub sets : matches_from o m p.edges w' ≡ match_sets (ruled r (pattern_in p)) (graph_in s n m w)
  pub only : (i e : ℕ) → i < m → e < p.edges → T (bit (get_or w' (8192 + i) 0) (o + e)) → get_or p.kind e 0 ≡ word_kind (get_or w i 0)

-- the m edges of the record s, at the front of the workspace, are marked with the edges of the batch that list them, each part by its rule
pub record BatchMatched (b : Batch) (s : List ℕ) (n m : ℕ) (w w' : List ℕ) : Type 0 where
  pub edges : Edges w w'
  pub marked : MarkedPairs m w'
  pub within : (i e : ℕ) → i < m → T (bit (get_or w' (8192 + i) 0) e) → e < b.edges
  pub parts : (r : Rule) (p : Given) (a o : ℕ) → PartOf b r p a o → Fair p → Proper p → PartMatched r p o s n m w w'

-- ---- adding a pattern
-- the m words from o on are those of x, each with a added; all others are as they were
pub record PutFrom (o m a : ℕ) (x old new : List ℕ) : Type 0 where
  pub around : Outside o m old new
  pub each : (e : ℕ) → e < m → get_or new (o + e) 0 ≡ a + get_or x e 0

-- r is b with the pattern p behind it, matched by the rule q
pub record Enlarged (b : Batch) (p : Given) (q : Rule) (r : Batch) : Type 0 where
  pub nodes : r.nodes ≡ b.nodes + p.nodes
  pub edges : r.edges ≡ b.edges + p.edges
  pub labels : PutFrom b.nodes p.nodes 0 p.labels b.labels r.labels
  pub from : PutFrom b.edges p.edges b.nodes p.from b.from r.from
  pub to : PutFrom b.edges p.edges b.nodes p.to b.to r.to
  pub kind : PutFrom b.edges p.edges 0 p.kind b.kind r.kind
  pub back : Mask (λ e. Has b.back e ⊎ ((q ≡ both_ways) × (b.edges ≤ e) × (e < b.edges + p.edges))) r.back
