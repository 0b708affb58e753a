-- A query read as a record, whole or without an edge: its content is accepted, and means the query as a graph.
use Prim.Native.Nat.{ℕ, zero, suc, ◌+◌, ◌-◌, ◌*◌, ◌/◌, ◌^◌, ◌<◌, ◌≤◌}
use mathlib.Core.Path.{◌≡◌, refl, sym, ap, ap₂, subst, ◌∙◌}
use mathlib.Core.Bool.{Bool, true, false, not}
use mathlib.Core.Logic.{⊎_elim}
use mathlib.Core.List.{List, [], ◌∷◌, ◌++◌, map}
use lib.ListN.{length, take, drop, get_or, length-append, length-drop, length-map, get_or-append}
use lib.Seq.{take_at, drop_at, drop-drop, get_or-take, get_or-drop, get_or-append-add, length-take-le}
use lib.Pow.{pow-lt}
use lib.Dec.{T}
use native.Mathlib.Omega.{arith}
use Rattle.packed.specs.Contents.{nodes_of, sorted_edges}
use Rattle.packed.specs.Plain.{Below, from_at, to_at, kind_at, Same, PlainEdges, PlainPattern}
use Rattle.packed.proofs.OrderCases.{lt_or_ge, trichotomy}
use Rattle.engine.specs.Lists.{each, keep, put}
use Rattle.engine.specs.Simulation.{Edge, same_edge, between, no_edge, edges_in, pattern_of, Graph, graph_of, as_graph}
use Rattle.matching.specs.Join.{without}
use Rattle.engine.proofs.ListLaws.{get_d_each}
use Rattle.engine.proofs.SimLaws.{same_edge_lem, same_edge_refl}
use Rattle.matching.proofs.PatternLaws.{nodes_in, pattern_is}
use Rattle.matching.proofs.EdgeLaws.{edge_at, edge_at_lem, edges_in-length}
use Rattle.matching.proofs.SortedGraphs.{Alike, NarrowEdges, ends_narrow, sorted_in, sorted_but}
use Rattle.packed.proofs.SortedEdges.{sorted_plain}
use Rattle.packed.proofs.MadeRecords.{Made, record_made, made_within}
use Rattle.containment.specs.Show.{as_record, graph_fields, fewer_fields}
use Rattle.containment.specs.Steps.{powers}

-- ---- edges without one
module _ (es : List ℕ) (nodes number e : ℕ) (p : PlainEdges 8 nodes number es) (h : e < number) where
  abbrev fewer : List ℕ
  fewer = take (3 * e) es ++ drop (3 * e + 3) es

  long : length es ≡ 3 * number
  long = p.among.three_each

  front_long : length (take (3 * e) es) ≡ 3 * e
  front_long = length-take-le (3 * e) es (omega (arith, long))

  low : (j : ℕ) → j < 3 * e → get_or fewer j 0 ≡ get_or es j 0
  low j l = get_or-append (take (3 * e) es) (drop (3 * e + 3) es) 0 j (omega (arith, front_long)) ∙ get_or-take (3 * e) es j 0 l

  high : (j k : ℕ) → 3 * e ≤ j → k ≡ j + 3 → get_or fewer j 0 ≡ get_or es k 0
  high j k l q =
      let i : ℕ = j - 3 * e in
      let z : j ≡ length (take (3 * e) es) + i = omega (arith, front_long) in
      let y : 3 * e + 3 + i ≡ k = omega arith in
      ap (λ (x : ℕ). get_or fewer x 0) z
      ∙ get_or-append-add (take (3 * e) es) (drop (3 * e + 3) es) i 0
      ∙ get_or-drop (3 * e + 3) es i 0
      ∙ ap (λ (x : ℕ). get_or es x 0) y

  fewer_long : length fewer ≡ 3 * (number - 1)
  fewer_long = length-append (take (3 * e) es) (drop (3 * e + 3) es) ∙ omega (arith, front_long, length-drop (3 * e + 3) es, long)

  -- where an edge stood
  record Stood (i at : ℕ) : Type 0 where
    from : from_at fewer i ≡ from_at es at
    to : to_at fewer i ≡ to_at es at
    kind : kind_at fewer i ≡ kind_at es at

  stood_low : (i : ℕ) → i < e → Stood i i
  stood_low i l = record { from = low (3 * i) (omega arith); to = low (3 * i + 1) (omega arith); kind = low (3 * i + 2) (omega arith) }

  stood_high : (i : ℕ) → e ≤ i → Stood i (i + 1)
  stood_high i l =
      record {
        from = high (3 * i) (3 * (i + 1)) (omega arith) (omega arith);
        to = high (3 * i + 1) (3 * (i + 1) + 1) (omega arith) (omega arith);
        kind = high (3 * i + 2) (3 * (i + 1) + 2) (omega arith) (omega arith);
      }

  stood : (i : ℕ) → i < number - 1 → (at : ℕ) × (at < number) × Stood i at
  stood i l = ⊎_elim (λ (k : i < e). (i, omega arith, stood_low i k)) (λ (k : e ≤ i). (i + 1, omega arith, stood_high i k)) (lt_or_ge i e)

  -- in the order in which they stood
  differs : {i j a b : ℕ} → Stood i a → Stood j b → a < b → b < number → Same fewer i j → ⊥
  differs {a = a} {b} s t l m x =
      p.differ a b l m (sym s.from ∙ x.0 ∙ t.from, sym s.to ∙ x.1 ∙ t.to, sym s.kind ∙ x.2 ∙ t.kind)

  pub fewer_edges_lem : PlainEdges 8 nodes (number - 1) fewer
  fewer_edges_lem =
      record {
        among = record {
          three_each = fewer_long;
          from_node = λ i l. let s = stood i l in subst (λ (v : ℕ). v < nodes) (sym s.2.from) (p.among.from_node s.0 s.1);
          to_node = λ i l. let s = stood i l in subst (λ (v : ℕ). v < nodes) (sym s.2.to) (p.among.to_node s.0 s.1);
          is_kind = λ i l. let s = stood i l in subst (λ (v : ℕ). v < 8) (sym s.2.kind) (p.among.is_kind s.0 s.1);
        };
        differ = λ i j l m.
            ⊎_elim
            (λ (k : j < e). differs (stood_low i (omega arith)) (stood_low j k) (omega arith) (omega arith))
            (λ (k : e ≤ j).
            ⊎_elim (λ (g : i < e). differs (stood_low i g) (stood_high j k) (omega arith) (omega arith))
            (λ (g : e ≤ i). differs (stood_high i g) (stood_high j k) (omega arith) (omega arith))
            (lt_or_ge i e))
            (lt_or_ge j e);
      }

-- ---- the same as lists of edges
edges_in_fewer : (e : ℕ) (es : List ℕ) (k : ℕ) → length es ≡ 3 * k → e < k
    → edges_in (take (3 * e) es ++ drop (3 * e + 3) es) ≡ take e (edges_in es) ++ drop (suc e) (edges_in es)
unfolding edges_in
edges_in_fewer e [] k n h = absurd (omega arith)
edges_in_fewer e (a ∷ []) k n h = absurd (omega arith)
edges_in_fewer e (a ∷ b ∷ []) k n h = absurd (omega arith)
edges_in_fewer zero (a ∷ b ∷ c ∷ es) k n h = refl
edges_in_fewer (suc e) (a ∷ b ∷ c ∷ es) k n h =
    let x : 3 * suc e ≡ suc (suc (suc (3 * e))) = omega arith in
    let y : 3 * suc e + 3 ≡ suc (suc (suc (3 * e + 3))) = omega arith in
    rw (y, x) (ap (λ (l : List Edge). between a b c ∷ l) (edges_in_fewer e es (k - 1) (omega arith) (omega arith)))

-- a test that only the place e fails keeps the others
put_yes : {A : Type 0} (b : Bool) (x : A) (l : List A) → b ≡ true → put b x l ≡ x ∷ l
put_yes b x l h = rw h

put_no : {A : Type 0} (b : Bool) (x : A) (l : List A) → b ≡ false → put b x l ≡ l
put_no b x l h = rw h

keep_all : {A : Type 0} (t : A → Bool) (d : A) (l : List A) → ((i : ℕ) → i < length l → t (get_or l i d) ≡ true) → keep t l ≡ l
unfolding keep
keep_all t d [] h = refl
keep_all t d (x ∷ l) h =
    put_yes (t x) x (keep t l) (h 0 (omega arith)) ∙ ap (λ m. x ∷ m) (keep_all t d l (λ i k. h (suc i) (omega arith)))

keep_but : {A : Type 0} (t : A → Bool) (d : A) (l : List A) (e : ℕ) → e < length l → t (get_or l e d) ≡ false
    → ((i : ℕ) → i < length l → (i ≡ e → ⊥) → t (get_or l i d) ≡ true) → keep t l ≡ take e l ++ drop (suc e) l
unfolding keep
keep_but t d [] e h n y = absurd (omega arith)
keep_but t d (x ∷ l) zero h n y = put_no (t x) x (keep t l) n ∙ keep_all t d l (λ i k. y (suc i) (omega arith) (λ (z : suc i ≡ 0). omega arith))
keep_but t d (x ∷ l) (suc e) h n y =
    put_yes (t x) x (keep t l) (y 0 (omega arith) (λ (z : 0 ≡ suc e). omega arith))
    ∙ ap (λ m. x ∷ m) (keep_but t d l e (omega arith) n (λ i k z. y (suc i) (omega arith) (λ (w : suc i ≡ suc e). z (omega arith))))

test_yes : (b : Bool) → T b → not b ≡ false
test_yes true h = refl
test_yes false h = absurd h

test_no : (b : Bool) → (T b → ⊥) → not b ≡ true
test_no true h = absurd (h tt)
test_no false h = refl

-- taking the edge e away leaves the others, since no edge stands twice
keep_others : (es : List ℕ) (nodes number e : ℕ) → PlainEdges 8 nodes number es → e < number
    → keep (λ f. not (same_edge (edge_at es e) f)) (edges_in es) ≡ edges_in (take (3 * e) es ++ drop (3 * e + 3) es)
keep_others es nodes number e p h =
    let three = p.among.three_each in
    let n = edges_in-length es number three in
    let at : (i : ℕ) → i < number → get_or (edges_in es) i no_edge ≡ edge_at es i = λ i l. edge_at_lem es number i three l in
    let same : (i j : ℕ) → edge_at es i ≡ edge_at es j → Same es i j = λ i j q. (ap (λ (f : Edge). f.from) q, ap (λ (f : Edge). f.to) q, ap (λ (f : Edge). f.kind) q) in
    let other : (i : ℕ) → i < number → (i ≡ e → ⊥) → T (same_edge (edge_at es e) (edge_at es i)) → ⊥ =
    λ i l z s.
    (let q = same_edge_lem (edge_at es e) (edge_at es i) s in
    trichotomy i e (λ k. p.differ i e k h (same i e (sym q))) z (λ k. p.differ e i k l (same e i q))) in
    keep_but (λ f. not (same_edge (edge_at es e) f)) no_edge (edges_in es) e (omega arith)
    (ap (λ (f : Edge). not (same_edge (edge_at es e) f)) (at e h) ∙ test_yes (same_edge (edge_at es e) (edge_at es e)) (same_edge_refl (edge_at es e)))
    (λ i l z. let k : i < number = omega arith in ap (λ (f : Edge). not (same_edge (edge_at es e) f)) (at i k) ∙ test_no (same_edge (edge_at es e) (edge_at es i)) (other i k z))
    ∙ sym (edges_in_fewer e es number three h)

-- ---- the content of an accepted query
abbrev pub graph : List ℕ → List Edge → Graph
graph l es = record { labels = l; edges = es }

map_each : (f : ℕ → ℕ) (l : List ℕ) → map f l ≡ each f l
unfolding each
map_each f [] = refl
map_each f (x ∷ l) = ap (λ (m : List ℕ). f x ∷ m) (map_each f l)

powers_each : (ls : List ℕ) → powers ls ≡ each (λ k. 2 ^ k) ls
unfolding powers
powers_each ls = map_each (λ k. 2 ^ k) ls

pub powers_length : (ls : List ℕ) → length (powers ls) ≡ length ls
unfolding powers
powers_length ls = length-map ls (λ k. 2 ^ k)

powers_below : (ls : List ℕ) → Below 32 ls → Below (2 ^ 32) (powers ls)
powers_below ls h i l =
    let k : i < length ls = omega (arith, powers_length ls) in
    let b = h i k in
    let q : get_or (powers ls) i 0 ≡ 2 ^ get_or ls i 0 = ap (λ (m : List ℕ). get_or m i 0) (powers_each ls) ∙ get_d_each (λ k. 2 ^ k) ls i 0 0 k in
    rw q (pow-lt {j = 32} b)

-- a record's content by its parts
pub graph_is : (nodes number : ℕ) (labels es : List ℕ) → length labels ≡ nodes → graph_of (nodes ∷ number ∷ (labels ++ es)) ≡ graph labels (edges_in es)
unfolding graph_of
graph_is nodes number labels es e =
    let z : 2 + nodes ≡ suc (suc nodes) = omega arith in
    ap₂ (λ (l m : List ℕ). graph l (edges_in m)) (take_at labels es nodes e)
    (ap (λ (k : ℕ). drop k (nodes ∷ number ∷ (labels ++ es))) z ∙ drop_at labels es nodes e)

module _ {ws : List ℕ} {bs : List Bool} (q : PlainPattern ws bs) where
  abbrev content : List ℕ
  content = q.nodes ∷ q.number ∷ (q.labels ++ q.es)

  pub labels_of : take (nodes_of ws) (drop 2 ws) ≡ q.labels
  labels_of = ap (λ (l : List ℕ). take (get_or l 0 0) (drop 2 l)) q.content ∙ take_at q.labels q.es q.nodes q.label_each

  pub es_of : drop (2 + nodes_of ws) ws ≡ q.es
  es_of =
      let z : 2 + q.nodes ≡ suc (suc q.nodes) = omega arith in
      ap (λ (l : List ℕ). drop (2 + get_or l 0 0) l) q.content
      ∙ ap (λ (k : ℕ). drop k content) z
      ∙ drop_at q.labels q.es q.nodes q.label_each

  abbrev parts : ℕ → List ℕ → List ℕ
  parts number es = q.nodes ∷ number ∷ (powers q.labels ++ es)

  -- the query as a record with these edges
  as_parts : (number : ℕ) (es : List ℕ) → length es ≡ 3 * number → as_record ws es ≡ parts number (sorted_edges es)
  unfolding as_record powers
  as_parts number es n = let z : length es / 3 ≡ number = omega arith in rw (labels_of, nodes_in q, z)

  pub graph_fields_lem : graph_fields ws ≡ parts q.number (sorted_edges q.es)
  unfolding graph_fields
  graph_fields_lem = ap (as_record ws) es_of ∙ as_parts q.number q.es q.edges.among.three_each

  abbrev fewer_edges : ℕ → List ℕ
  fewer_edges e = take (3 * e) q.es ++ drop (3 * e + 3) q.es

  few_nodes : q.nodes ≤ 4096
  few_nodes = omega (arith, q.most_nodes)

  module _ (e : ℕ) (h : e < q.number) where
    pub fewer_plain : PlainEdges 8 q.nodes (q.number - 1) (fewer_edges e)
    fewer_plain = fewer_edges_lem q.es q.nodes q.number e q.edges h

    pub fewer_fields_lem : fewer_fields ws e ≡ parts (q.number - 1) (sorted_edges (fewer_edges e))
    unfolding fewer_fields
    fewer_fields_lem =
        let z : 2 + nodes_of ws + 3 * e + 3 ≡ 2 + nodes_of ws + (3 * e + 3) = omega arith in
        let d : drop (2 + nodes_of ws + 3 * e + 3) ws ≡ drop (3 * e + 3) q.es =
        ap (λ (k : ℕ). drop k ws) z ∙ sym (drop-drop (3 * e + 3) (2 + nodes_of ws) ws) ∙ ap (drop (3 * e + 3)) es_of in
        ap₂ (λ (x y : List ℕ). as_record ws (take (3 * e) x ++ y)) es_of d ∙ as_parts (q.number - 1) (fewer_edges e) fewer_plain.among.three_each

  pub graph_made : Made 176 (graph_fields ws)
  graph_made =
      subst (Made 176) (sym graph_fields_lem)
      (made_within (omega (arith, q.most_nodes, q.most_edges)) (record_made q.nodes q.number (powers q.labels) (sorted_edges q.es) few_nodes (omega (arith, q.most_edges)) (powers_length q.labels ∙ q.label_each)
      (powers_below q.labels q.are_labels) (sorted_plain (omega arith) few_nodes q.edges)))

  pub fewer_made : (e : ℕ) → e < q.number → Made 176 (fewer_fields ws e)
  fewer_made e h =
      subst (Made 176) (sym (fewer_fields_lem e h))
      (made_within (omega (arith, q.most_nodes, q.most_edges)) (record_made q.nodes (q.number - 1) (powers q.labels) (sorted_edges (fewer_edges e)) few_nodes (omega (arith, q.most_edges)) (powers_length q.labels ∙ q.label_each)
      (powers_below q.labels q.are_labels) (sorted_plain (omega arith) few_nodes (fewer_plain e h))))

  as_graph_lem : as_graph (pattern_of ws) ≡ graph (powers q.labels) (edges_in q.es)
  unfolding as_graph
  as_graph_lem = rw (pattern_is q) (ap (λ (l : List ℕ). graph l (edges_in q.es)) (sym (powers_each q.labels)))

  first_is : graph_of (graph_fields ws) ≡ graph (powers q.labels) (edges_in (sorted_edges q.es))
  first_is =
      ap graph_of graph_fields_lem
      ∙ graph_is q.nodes q.number (powers q.labels) (sorted_edges q.es) (powers_length q.labels ∙ q.label_each)

  narrow : NarrowEdges (edges_in q.es)
  narrow = ends_narrow q.es q.nodes 8 q.number few_nodes (omega arith) q.edges.among

  -- the content means the query as a graph, its edges in another order
  pub graph_means : Alike (graph_of (graph_fields ws)) (as_graph (pattern_of ws))
  graph_means =
      rw (first_is, as_graph_lem) (
        record { same_labels = refl; more = λ f i. (sorted_in q.es narrow f).0 i },
        record { same_labels = refl; more = λ f i. (sorted_in q.es narrow f).1 i },
      )

  -- and the other the same without the edge
  pub fewer_means : (e : ℕ) → e < q.number → graph_of (fewer_fields ws e) ≡ without (edge_at q.es e) (graph_of (graph_fields ws))
  unfolding without
  fewer_means e h =
      ap graph_of (fewer_fields_lem e h)
      ∙ graph_is q.nodes (q.number - 1) (powers q.labels) (sorted_edges (fewer_edges e)) (powers_length q.labels ∙ q.label_each)
      ∙ ap (graph (powers q.labels)) (sorted_but (edge_at q.es e) q.es (fewer_edges e) narrow (sym (keep_others q.es q.nodes q.number e q.edges h)))
      ∙ ap (λ (G : Graph). graph G.labels (keep (λ f. not (same_edge (edge_at q.es e) f)) G.edges)) (sym first_is)
