-- What the formats of a pattern and of a record accept: two counts, labels and edges.
use Prim.Native.Nat.{ℕ, suc, ◌+◌, ◌^◌, ◌≤◌}
use mathlib.Core.Path.{◌≡◌, refl, ap, ◌∙◌}
use mathlib.Core.List.{List, [], ◌∷◌, ◌++◌}
use mathlib.Core.Bool.{Bool}
use mathlib.Core.Logic.{◌↔◌}
use lib.ListN.{length}
use lib.Dec.{lit≤}
use native.Mathlib.Omega.{arith}
use Rattle.packed.specs.Bits.{bits_of}
use Rattle.packed.specs.Format.{Format, done, ask, then, times}
use Rattle.packed.specs.Formats.{count_field, edges, all_ends, label, joined, pattern, rising, labels, record'}
use Rattle.packed.specs.OldRecord.{nothing, old_record}
use Rattle.packed.specs.Plain.{Laid, Below, field_bits, edge_bits, PlainEdges, PlainRising, PlainPattern, PlainGraph, PlainRecord}
use Rattle.packed.proofs.AcceptedLaws.{Accepts, accepts_same, Nothing, accepts_done, Asked, accepts_ask, accepts_test, Then, accepts_then}
use Rattle.packed.proofs.AcceptedEdges.{Fields, accepts_fields, EdgesLaid, accepts_edges, Met, all_met, met_all}
use Rattle.packed.proofs.AcceptedRising.{accepts_rising}

-- the widths and bounds of a graph's fields
record GraphSizes : Type 0 where
  wide_nodes : ℕ
  least_nodes : ℕ
  most_nodes : ℕ
  wide_number : ℕ
  least_number : ℕ
  most_number : ℕ
  wide_label : ℕ
  labels_bound : ℕ
  wide_end : ℕ
  wide_kind : ℕ
  -- every value in range fits its field
  nodes_fit : suc most_nodes ≤ 2 ^ wide_nodes
  number_fits : suc most_number ≤ 2 ^ wide_number
  label_fits : labels_bound ≤ 2 ^ wide_label
  ends_fit : most_nodes ≤ 2 ^ wide_end

module _ (z : GraphSizes) where
  record Graph (Edges : ℕ → ℕ → List ℕ → Type 0) (ws : List ℕ) (bs : List Bool) : Type 0 where
    nodes : ℕ
    number : ℕ
    marks : List ℕ
    es : List ℕ
    content : ws ≡ nodes ∷ number ∷ (marks ++ es)
    layout : bs ≡ bits_of z.wide_nodes nodes ++ (bits_of z.wide_number number ++ (field_bits z.wide_label marks ++ edge_bits z.wide_end z.wide_kind es))
    nodes-low : z.least_nodes ≤ nodes
    nodes-high : nodes ≤ z.most_nodes
    number-low : z.least_number ≤ number
    number-high : number ≤ z.most_number
    mark-each : length marks ≡ nodes
    are-marks : Below z.labels_bound marks
    edges : Edges nodes number es

  -- the format of the edges, and what it accepts
  module _ (tree : ℕ → ℕ → Format) (Edges : ℕ → ℕ → List ℕ → Type 0)
      (accepts-tree : (nodes number : ℕ) → nodes ≤ 2 ^ z.wide_end → (at : ℕ) → Accepts (tree nodes number) at (λ ws bs. Edges nodes number ws × (bs ≡ edge_bits z.wide_end z.wide_kind ws))) where
    abbrev Parts : Laid
    Parts =
        Asked z.wide_nodes z.least_nodes (suc z.most_nodes) (λ nodes.
        Asked z.wide_number z.least_number (suc z.most_number) (λ number.
        Then (Fields z.wide_label z.labels_bound nodes) (λ front ws bs. Edges nodes number ws × (bs ≡ edge_bits z.wide_end z.wide_kind ws))))

    graph-to : (ws : List ℕ) (bs : List Bool) → Parts ws bs → Graph Edges ws bs
    graph-to ws bs q =
        let nodes : ℕ = q.value in
        let n = q.after in
        let r = n.after in
        let f = r.before in
        let e = r.after in
        record {
          nodes = nodes;
          number = n.value;
          marks = r.first;
          es = r.second;
          content = q.content ∙ ap (λ (l : List ℕ). nodes ∷ l) n.content ∙ ap (λ (l : List ℕ). nodes ∷ n.value ∷ l) r.content;
          layout =
              q.layout
              ∙ ap (λ (l : List Bool). bits_of z.wide_nodes nodes ++ l) (
              n.layout
              ∙ ap (λ (l : List Bool). bits_of z.wide_number n.value ++ l) (
              r.layout
              ∙ ap (λ (l : List Bool). l ++ r.back) f.layout
              ∙ ap (λ (l : List Bool). field_bits z.wide_label r.first ++ l) e.1
              ));
          nodes-low = q.least;
          nodes-high = let m = q.most in omega arith;
          number-low = n.least;
          number-high = let m = n.most in omega arith;
          mark-each = f.many;
          are-marks = f.small;
          edges = e.0;
        }

    graph-by : (ws : List ℕ) (bs : List Bool) → Graph Edges ws bs → Parts ws bs
    graph-by ws bs q =
        record {
          value = q.nodes;
          rest = q.number ∷ (q.marks ++ q.es);
          body = bits_of z.wide_number q.number ++ (field_bits z.wide_label q.marks ++ edge_bits z.wide_end z.wide_kind q.es);
          content = q.content;
          layout = q.layout;
          least = q.nodes-low;
          most = let m = q.nodes-high in omega arith;
          fits = let m = q.nodes-high in let f = z.nodes_fit in omega arith;
          after = record {
            value = q.number;
            rest = q.marks ++ q.es;
            body = field_bits z.wide_label q.marks ++ edge_bits z.wide_end z.wide_kind q.es;
            content = refl;
            layout = refl;
            least = q.number-low;
            most = let m = q.number-high in omega arith;
            fits = let m = q.number-high in let f = z.number_fits in omega arith;
            after = record {
              first = q.marks;
              second = q.es;
              front = field_bits z.wide_label q.marks;
              back = edge_bits z.wide_end z.wide_kind q.es;
              content = refl;
              layout = refl;
              before = record { many = q.mark-each; small = q.are-marks; layout = refl };
              after = (q.edges, refl);
            };
          };
        }

    accepts-graph : (at : ℕ)
        → Accepts (count_field z.wide_nodes z.least_nodes z.most_nodes (λ nodes. count_field z.wide_number z.least_number z.most_number (λ number.
        then (times nodes (ask z.wide_label 0 z.labels_bound 3 (λ v. done))) (tree nodes number)))) at (Graph Edges)
    accepts-graph at =
        accepts_same (λ ws bs. (graph-to ws bs, graph-by ws bs))
        (accepts_ask z.wide_nodes z.least_nodes (suc z.most_nodes) 3 _ at _ (λ nodes l m.
        accepts_ask z.wide_number z.least_number (suc z.most_number) 3 _ (at + z.wide_nodes) _ (λ number l' m'.
        accepts_then (times nodes (ask z.wide_label 0 z.labels_bound 3 (λ v. done))) (tree nodes number) (at + z.wide_nodes + z.wide_number)
        (accepts_fields z.wide_label z.labels_bound 3 z.label_fits nodes (at + z.wide_nodes + z.wide_number))
        (λ ws bs r.
        accepts-tree nodes number (let f = z.ends_fit in omega arith) (at + z.wide_nodes + z.wide_number + length bs)))))

-- ---- edges in any order, each once, and what is asked of them as a whole
module _ (w wide nodes : ℕ) (fits : nodes ≤ 2 ^ w) (last : List ℕ → Format) (Last : List ℕ → Type 0)
    (accepts_last : (es : List ℕ) (at : ℕ) → Accepts (last es) at (λ ws bs. Last es × Nothing ws bs)) where
  plain_edges : (number : ℕ) (ws : List ℕ) (bs : List Bool) → EdgesLaid w wide nodes Last number 0 [] ws bs ↔ ((PlainEdges (2 ^ wide) nodes number ws × Last ws) × (bs ≡ edge_bits w wide ws))
  plain_edges number ws bs = (
    λ q. ((record { among = q.among; differ = λ i j h g s. q.differ i j h (omega arith) (omega arith) s }, q.last), q.layout),
    λ q. record {
      among = q.0.0.among;
      layout = q.1;
      differ = λ i j h g l s. q.0.0.differ i j h (omega arith) s;
      last = q.0.1;
    },
  )

  accepts_plain : (number at : ℕ) → Accepts (edges w wide nodes last number []) at (λ ws bs. (PlainEdges (2 ^ wide) nodes number ws × Last ws) × (bs ≡ edge_bits w wide ws))
  accepts_plain number at = accepts_same (plain_edges number) (accepts_edges w wide nodes fits last Last accepts_last number 0 at [] (omega arith))

-- ---- a pattern

abbrev pattern_sizes : GraphSizes
pattern_sizes =
    record {
      wide_nodes = 5;
      least_nodes = 1;
      most_nodes = 16;
      wide_number = 6;
      least_number = 1;
      most_number = 32;
      wide_label = 5;
      labels_bound = 32;
      wide_end = 4;
      wide_kind = 3;
      nodes_fit = lit≤ tt;
      number_fits = lit≤ tt;
      label_fits = lit≤ tt;
      ends_fit = lit≤ tt;
    }

accepts_joined : (nodes : ℕ) (es : List ℕ) (at : ℕ) → Accepts (joined nodes es) at (λ ws bs. Met nodes es × Nothing ws bs)
unfolding joined
accepts_joined nodes es at =
    accepts_same (λ ws bs. (λ q. (all_met nodes es q.0, q.1), λ q. (met_all nodes es q.0, q.1)))
    (accepts_test (all_ends nodes es) 7 (accepts_done at))

abbrev Joined : ℕ → ℕ → List ℕ → Type 0
Joined nodes number es = PlainEdges 8 nodes number es × Met nodes es

plain_pattern : (ws : List ℕ) (bs : List Bool) → Graph pattern_sizes Joined ws bs ↔ PlainPattern ws bs
plain_pattern ws bs = (
  λ q. record {
    nodes = q.nodes;
    number = q.number;
    labels = q.marks;
    es = q.es;
    content = q.content;
    layout = q.layout;
    some_nodes = q.nodes-low;
    most_nodes = q.nodes-high;
    some_edges = q.number-low;
    most_edges = q.number-high;
    label_each = q.mark-each;
    are_labels = q.are-marks;
    edges = q.edges.0;
    met = λ x h. let m = q.edges.1 x h in let n = q.edges.0.among.three_each in (m.0, let l = m.1 in omega arith, m.2);
  },
  λ q. record {
    nodes = q.nodes;
    number = q.number;
    marks = q.labels;
    es = q.es;
    content = q.content;
    layout = q.layout;
    nodes-low = q.some_nodes;
    nodes-high = q.most_nodes;
    number-low = q.some_edges;
    number-high = q.most_edges;
    mark-each = q.label_each;
    are-marks = q.are_labels;
    edges = (q.edges, λ x h. let m = q.met x h in let n = q.edges.among.three_each in (m.0, let l = m.1 in omega arith, m.2));
  },
)

pub accepts_pattern : (at : ℕ) → Accepts pattern at PlainPattern
unfolding pattern label
accepts_pattern at =
    accepts_same plain_pattern
    (accepts-graph pattern_sizes (λ nodes number. edges 4 3 nodes (joined nodes) number []) Joined
    (λ nodes number fits. accepts_plain 4 3 nodes fits (joined nodes) (Met nodes) (accepts_joined nodes) number) at)

-- ---- a record

abbrev record_sizes : ℕ → GraphSizes
record_sizes wide =
    record {
      wide_nodes = 13;
      least_nodes = 0;
      most_nodes = 4096;
      wide_number = 14;
      least_number = 0;
      most_number = 8192;
      wide_label = 32;
      labels_bound = 2 ^ 32;
      wide_end = 12;
      wide_kind = wide;
      nodes_fit = lit≤ tt;
      number_fits = lit≤ tt;
      label_fits = lit≤ tt;
      ends_fit = lit≤ tt;
    }

plain_record : (wide : ℕ) (Edges : ℕ → ℕ → List ℕ → Type 0) (ws : List ℕ) (bs : List Bool) → Graph (record_sizes wide) Edges ws bs ↔ PlainGraph wide Edges ws bs
plain_record wide Edges ws bs = (
  λ q. record {
    nodes = q.nodes;
    number = q.number;
    labels = q.marks;
    es = q.es;
    content = q.content;
    layout = q.layout;
    most_nodes = q.nodes-high;
    most_edges = q.number-high;
    labels_each = q.mark-each;
    are_labels = q.are-marks;
    edges = q.edges;
  },
  λ q. record {
    nodes = q.nodes;
    number = q.number;
    marks = q.labels;
    es = q.es;
    content = q.content;
    layout = q.layout;
    nodes-low = omega arith;
    nodes-high = q.most_nodes;
    number-low = omega arith;
    number-high = q.most_edges;
    mark-each = q.labels_each;
    are-marks = q.are_labels;
    edges = q.edges;
  },
)

pub accepts_record : (at : ℕ) → Accepts record' at PlainRecord
unfolding record' labels
accepts_record at =
    accepts_same (plain_record 3 (PlainRising 8))
    (accepts-graph (record_sizes 3) (λ nodes number. rising nodes number 0) (PlainRising 8) (λ nodes number fits. accepts_rising nodes fits number) at)

-- ---- a record as it was stored before

-- nothing is asked of the edges as a whole
accepts_any : (es : List ℕ) (at : ℕ) → Accepts (nothing es) at (λ ws bs. Unit {0} × Nothing ws bs)
accepts_any es at = accepts_same (λ ws bs. (λ q. (tt, q), λ q. q.1)) (accepts_done at)

pub accepts_old : (at : ℕ) → Accepts old_record at (PlainGraph 0 (PlainEdges 1))
unfolding old_record labels
accepts_old at =
    accepts_same (plain_record 0 (PlainEdges 1))
    (accepts-graph (record_sizes 0) (λ nodes number. edges 12 0 nodes nothing number []) (PlainEdges 1) (λ nodes number fits at.
    accepts_same (λ ws bs. (λ q. (q.0.0, q.1), λ q. ((q.0, tt), q.1)))
    (accepts_plain 12 0 nodes fits nothing (λ es. Unit {0}) accepts_any number at)) at)
