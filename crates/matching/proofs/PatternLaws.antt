-- An accepted pattern by value and as content: the two mean the same pattern.
use Prim.Native.Nat.{ℕ, suc, ◌+◌, ◌*◌, ◌<◌}
use mathlib.Core.Path.{◌≡◌, sym, ap, ap₂, subst, ◌∙◌}
use mathlib.Core.Bool.{Bool}
use mathlib.Core.List.{List, ◌∷◌, ◌++◌}
use lib.ListN.{length, take, drop, get_or, get_or-append}
use lib.Seq.{get_or-take, get_or-append-add, length-take-le, take_at, drop_at, ext_get_or}
use lib.Dec.{T}
use native.Mathlib.Omega.{arith}
use Rattle.packed.specs.Contents.{nodes_of, edges_of}
use Rattle.packed.specs.Plain.{PlainPattern, from_at, to_at, kind_at}
use Rattle.packed.specs.ByValue.{HoldsPattern}
use Rattle.packed.specs.declared.by_value.Pattern.{Pattern as Given}
use Rattle.engine.specs.Simulation.{Edge, between, both_ways, Pattern, edges_in, pattern_of, sound}
use Rattle.engine.specs.Loaded.{pattern_in, Fair}
use Rattle.engine.specs.Loaded.{given_edge as given_at}
use Rattle.engine.specs.Lists.{up_to}
use Rattle.engine.specs.Matched.{Proper}
use Rattle.engine.proofs.UpToLaws.{up_to_same}
use Rattle.engine.proofs.MatchLaws.{SoundPattern, sound_by}
use Rattle.matching.proofs.EdgeLaws.{edge_at, edges_in_up_to, edges_in-length, edges_in_at, at_edges_in}

abbrev made : List ℕ → List Edge → Pattern
made l es = record { labels = l; edges = es; rule = both_ways }

module _ {ws : List ℕ} {bs : List Bool} (q : PlainPattern ws bs) where
  abbrev all : List ℕ
  all = q.nodes ∷ q.number ∷ (q.labels ++ q.es)

  fields_long : length q.es ≡ 3 * q.number
  fields_long = q.edges.among.three_each

  -- the content by its places
  label_in : (i u : ℕ) → i ≡ suc (suc u) → u < q.nodes → get_or ws i 0 ≡ get_or q.labels u 0
  label_in i u e h =
      ap₂ (λ (l : List ℕ) (j : ℕ). get_or l j 0) q.content e ∙ get_or-append q.labels q.es 0 u (omega (arith, q.label_each))

  end_in : (i j : ℕ) → i ≡ suc (suc (q.nodes + j)) → get_or ws i 0 ≡ get_or q.es j 0
  end_in i j e =
      ap₂ (λ (l : List ℕ) (k : ℕ). get_or l k 0) q.content (e ∙ ap (λ (k : ℕ). suc (suc (k + j))) (sym q.label_each))
      ∙ get_or-append-add q.labels q.es j 0

  pub nodes_in : nodes_of ws ≡ q.nodes
  nodes_in = ap (λ (l : List ℕ). get_or l 0 0) q.content

  pub edges_in_lem : edges_of ws ≡ q.number
  edges_in_lem = ap (λ (l : List ℕ). get_or l 1 0) q.content

  -- what the content means
  pub pattern_is : pattern_of ws ≡ made q.labels (edges_in q.es)
  unfolding pattern_of
  pattern_is =
      let z : 2 + q.nodes ≡ suc (suc q.nodes) = omega arith in
      let a : take (nodes_of ws) (drop 2 ws) ≡ q.labels =
      ap (λ (l : List ℕ). take (get_or l 0 0) (drop 2 l)) q.content ∙ take_at q.labels q.es q.nodes q.label_each in
      let b : drop (2 + nodes_of ws) ws ≡ q.es =
      ap (λ (l : List ℕ). drop (2 + get_or l 0 0) l) q.content
      ∙ ap (λ (k : ℕ). drop k all) z
      ∙ drop_at q.labels q.es q.nodes q.label_each in
      ap₂ (λ (l m : List ℕ). made l (edges_in m)) a b

  -- each end is a node, and each node is an end of an edge
  sound_made : SoundPattern (made q.labels (edges_in q.es))
  sound_made =
      record {
        ends = λ e i.
            let r = edges_in_at q.es q.number fields_long i in
            let n = q.label_each in
            let a = q.edges.among.from_node r.at r.below in
            let b = q.edges.among.to_node r.at r.below in
            let c : (from_at q.es r.at < length q.labels) × (to_at q.es r.at < length q.labels) = (omega arith, omega arith) in
            subst (λ f. (f.from < length q.labels) × (f.to < length q.labels)) (sym r.holds) c;
        touched = λ u l.
            let r = q.met u (omega (arith, q.label_each)) in
            (edge_at q.es r.0, at_edges_in q.es q.number fields_long r.0 r.1, r.2);
      }

  pub sound_of : T (sound (pattern_of ws))
  sound_of = subst (λ P. T (sound P)) (sym pattern_is) (sound_by (made q.labels (edges_in q.es)) sound_made)

  pub edges_many : length (pattern_of ws).edges ≡ edges_of ws
  edges_many = ap (λ (P : Pattern). length P.edges) pattern_is ∙ edges_in-length q.es q.number fields_long ∙ sym edges_in_lem

  module _ {p : Given} (h : HoldsPattern ws p) where
    nodes_are : p.nodes ≡ q.nodes
    nodes_are = h.nodes ∙ nodes_in

    pub edges_are : p.edges ≡ q.number
    edges_are = h.edges ∙ edges_in_lem

    label_at : (u : ℕ) → u < q.nodes → get_or p.labels u 0 ≡ get_or q.labels u 0
    label_at u l = h.labels.each u (omega (arith, nodes_in)) ∙ label_in (2 + 1 * u) u (omega arith) l

    from_at_lem : (e : ℕ) → e < q.number → get_or p.from e 0 ≡ from_at q.es e
    from_at_lem e l = h.from.each e (omega (arith, edges_in_lem)) ∙ end_in (2 + nodes_of ws + 3 * e) (3 * e) (omega (arith, nodes_in))

    to-at : (e : ℕ) → e < q.number → get_or p.to e 0 ≡ to_at q.es e
    to-at e l = h.to.each e (omega (arith, edges_in_lem)) ∙ end_in (3 + nodes_of ws + 3 * e) (3 * e + 1) (omega (arith, nodes_in))

    kind-at : (e : ℕ) → e < q.number → get_or p.kind e 0 ≡ kind_at q.es e
    kind-at e l = h.kind.each e (omega (arith, edges_in_lem)) ∙ end_in (4 + nodes_of ws + 3 * e) (3 * e + 2) (omega (arith, nodes_in))

    pub fair_by : Fair p
    fair_by =
        record {
          nodes = omega (arith, nodes_are, q.most_nodes);
          edges = omega (arith, edges_are, q.most_edges);
          labels_long = h.labels.long;
          from_long = h.from.long;
          to_long = h.to.long;
          kind_long = h.kind.long;
          labels = λ u l. let k : u < q.nodes = omega (arith, nodes_are) in rw (label_at u k) (q.are_labels u (omega (arith, q.label_each)));
          from = λ e l. let k : e < q.number = omega (arith, edges_are) in rw (from_at_lem e k) (omega (arith, nodes_are, q.edges.among.from_node e k));
          to = λ e l. let k : e < q.number = omega (arith, edges_are) in rw (to-at e k) (omega (arith, nodes_are, q.edges.among.to_node e k));
          kind = λ e l. let k : e < q.number = omega (arith, edges_are) in rw (kind-at e k) (q.edges.among.is_kind e k);
        }

    abbrev labels-front : List ℕ
    labels-front = take p.nodes p.labels

    front_long : length labels-front ≡ p.nodes
    front_long = length-take-le p.nodes p.labels (omega (arith, fair_by.nodes, h.labels.long))

    pub labels_same : take p.nodes p.labels ≡ q.labels
    labels_same =
        ext_get_or 0 labels-front q.labels (front_long ∙ nodes_are ∙ sym q.label_each)
        (λ i l. get_or-take p.nodes p.labels i 0 (omega (arith, front_long)) ∙ label_at i (omega (arith, front_long, nodes_are)))

    pub edges_same : up_to (given_at p) p.edges ≡ edges_in q.es
    edges_same =
        ap (up_to (given_at p)) edges_are
        ∙ up_to_same (given_at p) (edge_at q.es) q.number (λ i l. λ z. between (from_at_lem i l z) (to-at i l z) (kind-at i l z))
        ∙ sym (edges_in_up_to q.es q.number fields_long)

    -- by value it means the same
    pub pattern_same : pattern_in p ≡ pattern_of ws
    unfolding pattern_in
    pattern_same = ap₂ made labels_same edges_same ∙ sym pattern_is

    pub proper_by : Proper p
    proper_by = record { some = omega (arith, edges_are, q.some_edges); sound = subst (λ P. T (sound P)) (sym pattern_same) sound_of }
