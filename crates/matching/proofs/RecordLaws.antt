-- An accepted record whose edges stand in the workspace: it is ready to be matched, and means the graph of its content.
use Prim.Native.Nat.{ℕ, ◌+◌, ◌*◌, ◌/◌, ◌%◌, ◌^◌, ◌<◌, ◌≤◌}
use mathlib.Core.Path.{◌≡◌, sym, ap, ap₂, subst, ◌∙◌}
use mathlib.Core.List.{List}
use lib.ListN.{length, take, drop, get_or, length-drop}
use lib.Seq.{get_or-take, get_or-drop, length-take-le, ext_get_or}
use native.Mathlib.Omega.{arith}
use Rattle.packed.specs.Bits.{field}
use Rattle.packed.specs.Format.{ok, decode}
use Rattle.packed.specs.Formats.{record', rank}
use Rattle.packed.specs.Contents.{nodes_of, edges_of, edge_word, word_rank, ranks}
use Rattle.packed.specs.Plain.{from_at, to_at, kind_at, EdgesAmong}
use Rattle.packed.specs.LoadedGraph.{Holds}
use Rattle.packed.proofs.DistinctMerge.{increasing_at}
use Rattle.packed.proofs.EdgePlaces.{each_length, each_at}
use Rattle.packed.proofs.GraphLaws.{labels_field, record_bounds, record_among}
use Rattle.packed.proofs.SortedEdges.{record_rises}
use Rattle.engine.specs.Lists.{In, up_to}
use Rattle.engine.specs.Simulation.{Edge, between, Pattern, Graph, edges_in, graph_of, match_sets}
use Rattle.engine.specs.Loaded.{edge_of_word, graph_in, Ready, Edges}
use Rattle.engine.specs.Matched.{Rises}
use Rattle.engine.specs.Index.{index_for, index_of}
use Rattle.engine.specs.Sweeping.{Ends}
use Rattle.engine.specs.Places.{ByStart, edges_at}
use Rattle.engine.proofs.UpToLaws.{length_up_to, get_d_up_to, up_to_same}
use Rattle.engine.proofs.RankLaws.{rank_from}
use Rattle.matching.proofs.MatchSetLaws.{Narrow}
use Rattle.matching.proofs.EdgeLaws.{edge_at, edges_in_up_to, edges_in_at, edges_in-length}

-- ---- the content of an accepted record
-- the fields of its edges
abbrev fields_of : List ℕ → List ℕ
fields_of ws = drop (2 + nodes_of ws) ws

module _ (s ws : List ℕ) (e : decode record' s ≡ ok ws) where
  among : EdgesAmong (nodes_of ws) 8 (edges_of ws) (fields_of ws)
  among = record_among s ws e

  edge_below : {f : Edge} → In f (edges_in (fields_of ws)) → (f.from < nodes_of ws) × (f.to < nodes_of ws)
  edge_below {f} j =
      let r = edges_in_at (fields_of ws) (edges_of ws) among.three_each j in
      subst (λ g. (g.from < nodes_of ws) × (g.to < nodes_of ws)) (sym r.holds) (among.from_node r.at r.below, among.to_node r.at r.below)

  pub graph_narrow : Narrow (graph_of ws)
  unfolding graph_of
  graph_narrow f j = let r = edge_below j in let b = (record_bounds s ws e).0 in (omega arith, omega arith)

  pub graph_few : length (graph_of ws).edges ≤ 8192
  unfolding graph_of
  graph_few = omega (arith, edges_in-length (fields_of ws) (edges_of ws) among.three_each, (record_bounds s ws e).1)

abbrev with_edges : List ℕ → List Edge → Graph
with_edges l es = record { labels = l; edges = es }

-- ---- its edges in the workspace
module _ {s : List ℕ} {n m : ℕ} {w : List ℕ} (h : Holds s n m w) where
  abbrev ws : List ℕ
  ws = h.fields

  few : m ≤ 8192
  few = omega (arith, h.edges, (record_bounds s ws h.is).1)

  abbrev edges_among : EdgesAmong (nodes_of ws) 8 (edges_of ws) (fields_of ws)
  edges_among = among s ws h.is

  three_each : length (fields_of ws) ≡ 3 * m
  three_each = edges_among.three_each ∙ ap (λ (k : ℕ). 3 * k) (sym h.edges)

  front_at : (i : ℕ) → i < m → get_or (take m w) i 0 ≡ get_or w i 0
  front_at i l = get_or-take m w i 0 l

  edge_in : (i : ℕ) → i < m → (from_at (fields_of ws) i < n) × (to_at (fields_of ws) i < n) × (kind_at (fields_of ws) i < 8)
  edge_in i l =
      let j : i < edges_of ws = omega (arith, h.edges) in
      (omega (arith, h.nodes, edges_among.from_node i j), omega (arith, h.nodes, edges_among.to_node i j), edges_among.is_kind i j)

  -- each word is that of the edge in its place
  word_at : (i : ℕ) → i < m → get_or w i 0 ≡ edge_word (from_at (fields_of ws) i) (to_at (fields_of ws) i) (kind_at (fields_of ws) i)
  word_at i l =
      sym (front_at i l)
      ∙ ap (λ (c : List ℕ). get_or c i 0) h.front
      ∙ each_at edge_word (fields_of ws) i (omega (arith, each_length edge_word m (fields_of ws) three_each))

  -- its parts
  parts : (i : ℕ) → i < m
      → (get_or w i 0 / 4096 % 4096 ≡ from_at (fields_of ws) i) × (get_or w i 0 % 4096 ≡ to_at (fields_of ws) i) × (get_or w i 0 / 2 ^ 24 ≡ kind_at (fields_of ws) i)
  parts i l =
      let c = word_at i l in
      let b = edge_in i l in
      let x = b.0 in
      let y = b.1 in
      let k = h.nodes in
      let f = (record_bounds s ws h.is).0 in
      (omega arith, omega arith, omega arith)

  -- the rank of a word is that of its edge
  rank_at : (i : ℕ) → i < m → get_or (ranks (fields_of ws)) i 0 ≡ word_rank (get_or w i 0)
  rank_at i l =
      each_at rank (fields_of ws) i (omega (arith, each_length rank m (fields_of ws) three_each))
      ∙ omega (arith, (parts i l).0, (parts i l).1, (parts i l).2)

  pub ready_by : length s ≤ 65536 → Ready s n m w
  ready_by l =
      let b = record_bounds s ws h.is in
      let k = h.nodes in
      record {
        small = l;
        labels = omega (arith, b.3);
        nodes = omega (arith, b.0);
        edges = few;
        long = h.long;
        from = λ i j. rw (parts i j).0 (edge_in i j).0;
        to = λ i j. rw (parts i j).1 (edge_in i j).1;
        kind = λ i j. rw (parts i j).2 (edge_in i j).2;
      }

  pub rises_by : Rises m w
  rises_by i j l k =
      let a = increasing_at (ranks (fields_of ws)) (record_rises s ws h.is) i j l (omega (arith, each_length rank m (fields_of ws) three_each)) in
      omega (arith, a, rank_at i (omega arith), rank_at j k)

  pub order_by : ByStart m w
  order_by i j l k = rank_from (get_or w i 0) (get_or w j 0) (rw (parts j k).2 (edge_in j k).2) (rises_by i j l k)

  labels_same : up_to (λ v. field s (27 + 32 * v) 32) n ≡ take (nodes_of ws) (drop 2 ws)
  labels_same =
      let b = record_bounds s ws h.is in
      let k = h.nodes in
      let o : length (take (nodes_of ws) (drop 2 ws)) ≡ nodes_of ws = length-take-le (nodes_of ws) (drop 2 ws) (omega (arith, length-drop 2 ws, b.2)) in
      ext_get_or 0 (up_to (λ v. field s (27 + 32 * v) 32) n) (take (nodes_of ws) (drop 2 ws)) (length_up_to (λ v. field s (27 + 32 * v) 32) n ∙ k ∙ sym o)
      (λ v l.
      let j : v < n = omega (arith, length_up_to (λ u. field s (27 + 32 * u) 32) n) in
      get_d_up_to (λ u. field s (27 + 32 * u) 32) n v 0 j
      ∙ labels_field s ws h.is v (omega arith)
      ∙ sym (get_or-take (nodes_of ws) (drop 2 ws) v 0 (omega arith) ∙ get_or-drop 2 ws v 0))

  edges_same : edges_at m w ≡ edges_in (fields_of ws)
  edges_same =
      up_to_same (λ i. edge_of_word (get_or w i 0)) (edge_at (fields_of ws)) m (λ i l. λ z. between ((parts i l).0 z) ((parts i l).1 z) ((parts i l).2 z))
      ∙ sym (edges_in_up_to (fields_of ws) m three_each)

  pub graph_same : graph_in s n m w ≡ graph_of ws
  unfolding graph_in graph_of
  graph_same = ap₂ with_edges labels_same edges_same

  pub sets_same : (P : Pattern) → match_sets P (graph_in s n m w) ≡ match_sets P (graph_of ws)
  sets_same P = ap (match_sets P) graph_same

  pub index_same : index_for n (edges_at m w) ≡ index_of (graph_of ws)
  unfolding graph_of
  index_same = ap₂ index_for (sym (length_up_to (λ v. field s (27 + 32 * v) 32) n) ∙ ap length labels_same) edges_same

-- its edges as pairs
pub ready_ends : {s : List ℕ} {n m : ℕ} {w : List ℕ} → Ready s n m w → Ends n m w
ready_ends r = record { most = r.edges; long = r.long; from = r.from; to = r.to }

-- ---- after a match the edges are there for the next
module _ {m : ℕ} {w w' : List ℕ} (e : Edges w w') where
  pub ready_again : {s : List ℕ} {n : ℕ} → Ready s n m w → Ready s n m w'
  ready_again r =
      let b = r.edges in
      record {
        small = r.small;
        labels = r.labels;
        nodes = r.nodes;
        edges = r.edges;
        long = e.long ∙ r.long;
        from = λ i l. rw (e.same i (omega arith)) (r.from i l);
        to = λ i l. rw (e.same i (omega arith)) (r.to i l);
        kind = λ i l. rw (e.same i (omega arith)) (r.kind i l);
      }

  pub rises_again : m ≤ 8192 → Rises m w → Rises m w'
  rises_again b r i j l k = rw (e.same i (omega arith), e.same j (omega arith)) (r i j l k)

  pub graph_again : (s : List ℕ) (n : ℕ) → m ≤ 8192 → graph_in s n m w' ≡ graph_in s n m w
  unfolding graph_in
  graph_again s n b =
      ap (with_edges (up_to (λ v. field s (27 + 32 * v) 32) n))
      (up_to_same (λ i. edge_of_word (get_or w' i 0)) (λ i. edge_of_word (get_or w i 0)) m (λ i l. ap edge_of_word (e.same i (omega arith))))
