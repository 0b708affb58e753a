-- The converter: what it writes is accepted, and means the same record.
use Prim.Native.Nat.{ℕ, suc, ◌+◌, ◌<◌}
use mathlib.Core.Path.{◌≡◌, refl, sym, ap, ap₂, subst, ◌∙◌}
use mathlib.Core.Bool.{Bool}
use mathlib.Core.Logic.{◌↔◌}
use mathlib.Core.List.{List, [], ◌∷◌, ◌++◌}
use lib.ListN.{length, take, drop, get_or}
use lib.Seq.{take_at, drop_at}
use native.Mathlib.Omega.{arith}
use Rattle.packed.specs.Formats.{code, record'}
use Rattle.packed.specs.Contents.{sorted_edges}
use Rattle.packed.specs.Plain.{PlainEdges, PlainGraph}
use Rattle.packed.specs.OldRecord.{old_record, read_old_record, sorted_fields, record_sorted}
use Rattle.packed.specs.Calls.{accepted, read_record, record_written, fit, record_bytes}
use Rattle.packed.proofs.CallLaws.{read_says, read_finds, write_finds, accepted_by, judged_accepted}
use Rattle.packed.proofs.Accepted.{old_accepted, record_accepted, record_read_lem}
use Rattle.packed.proofs.SortedEdges.{sorted_plain}
use Rattle.packed.proofs.MadeRecords.{Made, record_made, made_within}
use Rattle.engine.specs.Lists.{In}
use Rattle.engine.specs.Simulation.{Pair, Edge, no_edge, Pattern, Graph, edges_in, graph_of, IsSim, match_sets}
use Rattle.matching.specs.Search.{sheet_bytes}
use Rattle.engine.proofs.ListLaws.{in_at}
use Rattle.matching.proofs.EdgeLaws.{edges_in_at}
use Rattle.matching.proofs.SortedGraphs.{Alike, ends_narrow, sorted_in, alike_sets, alike_views}
use Rattle.answering.specs.Demands.{no_more, Matching, OldFile, EndsSim, EndsMatching, AllKind0, Sorting}
use Rattle.containment.proofs.QueryGraph.{graph, graph_is}
use Rattle.answering.proofs.DemandRules.{full_words, full_judged}
use Rattle.answering.proofs.DemandFiles.{Says, hands_up, says_judged, says_fit}
use Rattle.answering.proofs.DemandsOneTwo.{lists_exactly}

-- the content of an old record by its parts
module _ {ws : List ℕ} {bs : List Bool} (p : PlainGraph 0 (PlainEdges 1) ws bs) where
  abbrev parts : List ℕ → List ℕ
  parts es = p.nodes ∷ p.number ∷ (p.labels ++ es)

  abbrev sorted : List ℕ
  sorted = sorted_edges p.es

  sorted_parts : sorted_fields ws ≡ parts sorted
  unfolding sorted_fields
  sorted_parts =
      let z : 2 + p.nodes ≡ suc (suc p.nodes) = omega arith in
      ap (λ (l : List ℕ). take (2 + get_or l 0 0) l ++ sorted_edges (drop (2 + get_or l 0 0) l)) p.content
      ∙ ap (λ (k : ℕ). take k (parts p.es) ++ sorted_edges (drop k (parts p.es))) z
      ∙ ap₂ (λ (x y : List ℕ). (p.nodes ∷ p.number ∷ x) ++ sorted_edges y) (take_at p.labels p.es p.nodes p.labels_each) (drop_at p.labels p.es p.nodes p.labels_each)

  sorted_made : Made 44036 (sorted_fields ws)
  sorted_made =
      subst (Made 44036) (sym sorted_parts)
      (made_within (omega (arith, p.most_nodes, p.most_edges))
      (record_made p.nodes p.number p.labels sorted p.most_nodes p.most_edges p.labels_each p.are_labels (sorted_plain (omega arith) p.most_nodes p.edges)))

  graph_old : graph_of ws ≡ graph p.labels (edges_in p.es)
  graph_old = ap graph_of p.content ∙ graph_is p.nodes p.number p.labels p.es p.labels_each

  graph_sorted : graph_of (sorted_fields ws) ≡ graph p.labels (edges_in sorted)
  graph_sorted = ap graph_of sorted_parts ∙ graph_is p.nodes p.number p.labels sorted p.labels_each

  sorted_alike : Alike (graph_of (sorted_fields ws)) (graph_of ws)
  sorted_alike =
      let n = ends_narrow p.es p.nodes 1 p.number p.most_nodes (omega arith) p.edges.among in
      rw (graph_sorted, graph_old) (
        record { same_labels = refl; more = λ f i. (sorted_in p.es n f).0 i },
        record { same_labels = refl; more = λ f i. (sorted_in p.es n f).1 i },
      )

module _ (s ws : List ℕ) (old : OldFile s ws) where
  body : List Bool
  body = ((old_accepted s ws).0 (read_says 40964 3 old_record s ws old).0).body

  plain : PlainGraph 0 (PlainEdges 1) ws body
  unfolding body
  plain = ((old_accepted s ws).0 (read_says 40964 3 old_record s ws old).0).laid

  made : Made 44036 (sorted_fields ws)
  made = sorted_made plain

  alike : Alike (graph_of (sorted_fields ws)) (graph_of ws)
  alike = sorted_alike plain

  old_kind : (f : Edge) → In f (graph_of ws).edges → f.kind ≡ 0
  old_kind f i =
      let e = plain.edges.among in
      let r = edges_in_at plain.es plain.number e.three_each (subst (λ (G : Graph). In f G.edges) (graph_old plain) i) in
      subst (λ (g : Edge). g.kind ≡ 0) (sym r.holds) (omega (arith, e.is_kind r.at r.below))

  sorted_kind : (f : Edge) → In f (graph_of (sorted_fields ws)).edges → f.kind ≡ 0
  sorted_kind f i = old_kind f (alike.0.more f i)

  gives : (room : ℕ) → record_sorted s room ≡ fit room (record_bytes (sorted_fields ws))
  unfolding record_sorted record_written
  gives room =
      judged_accepted (λ fs. record_written (sorted_fields fs) room) old
      ∙ judged_accepted (fit room) (accepted_by (write_finds 3 record' (sorted_fields ws)) made.is)

  is_record : read_record (record_bytes (sorted_fields ws)) ≡ accepted (sorted_fields ws)
  is_record = (record_read_lem (record_bytes (sorted_fields ws)) (sorted_fields ws)).1 (made.size, (record_accepted (record_bytes (sorted_fields ws)) (sorted_fields ws)).0 made.back)

-- where all kinds are 0, links are told apart by their ends alone
ends_sim : (P : Pattern) (G : Graph) → AllKind0 P → ((f : Edge) → In f G.edges → f.kind ≡ 0)
    → (R : ℕ → ℕ → Type 0) → IsSim P G R ↔ EndsSim P G R
ends_sim P G p g R = (
  λ s. record {
    fit = s.fit;
    follow = λ u v r e i l. let q = s.follow u v r e i l in (q.0, q.1, q.2, q.4);
    arrive = λ b u v r e i l. let q = s.arrive b u v r e i l in (q.0, q.1, q.2, q.4);
  },
  λ s. record {
    fit = s.fit;
    follow = λ u v r e i l. let q = s.follow u v r e i l in (q.0, q.1, q.2, g q.0 q.1 ∙ sym (p e i), q.3);
    arrive = λ b u v r e i l. let q = s.arrive b u v r e i l in (q.0, q.1, q.2, g q.0 q.1 ∙ sym (p e i), q.3);
  },
)

ends_matching : (P : Pattern) (G : Graph) → ((f : Edge) → In f G.edges → f.kind ≡ 0) → (e : Edge) → e.kind ≡ 0 → (f : Pair) → Matching P G e f ↔ EndsMatching P G e f
ends_matching P G g e k f = (
  λ m. (e.kind, m),
  λ m. let r = m.1 in record { whole = r.whole; link = r.link; edge = r.edge; kind = g r.link r.edge ∙ sym k; ends = r.ends; tail = r.tail; head = r.head },
)

lists_before : (s ws : List ℕ) → OldFile s ws → (P : Pattern) → AllKind0 P → (i : ℕ) → i < length P.edges → (f : Pair) → f.1 < 4096
    → In (code f.0 f.1) (get_or (match_sets P (graph_of (sorted_fields ws))) i []) ↔ EndsMatching P (graph_of (sorted_fields ws)) (get_or P.edges i no_edge) f
lists_before s ws o P p i l f k =
    let x = lists_exactly (record_bytes (sorted_fields ws)) (sorted_fields ws) (is_record s ws o) P i l f k in
    let y = ends_matching P (graph_of (sorted_fields ws)) (sorted_kind s ws o) (get_or P.edges i no_edge) (p _ (in_at P.edges i no_edge l)) f in
    (λ j. y.0 (x.0 j), λ m. x.1 (y.1 m))

pub sorting : (R : ℕ → ℕ → Type 0) → Sorting R
unfolding record_sorted
sorting R = record {
  accepts = λ s ws. (
    λ e. let r = read_says 40964 3 old_record s ws e in (r.1, (old_accepted s ws).0 r.0),
    λ q. accepted_by (read_finds 40964 3 old_record s q.0) ((old_accepted s ws).1 q.1),
  );
  files = λ s room. hands_up (says_judged (read_old_record s) (λ ws e. subst (Says no_more) (sym (sym (judged_accepted _ e) ∙ gives s ws e room)) (says_fit room _)));
  only = λ s room words f. let t = full_judged _ _ (full_words words _ f) in (t.0, t.1);
  gives = gives;
  is_record = is_record;
  items = λ s ws o. (alike s ws o).0.same_labels;
  links = λ s ws o f. ((alike s ws o).0.more f, (alike s ws o).1.more f);
  kinds = sorted_kind;
  sheets = λ s ws o P. ap sheet_bytes (alike_sets P (graph_of (sorted_fields ws)) (graph_of ws) (alike s ws o));
  extract_sheets = λ s ws o P. ap sheet_bytes (alike_views P (graph_of (sorted_fields ws)) (graph_of ws) (alike s ws o));
  as_before = λ s ws o P p. ends_sim P (graph_of (sorted_fields ws)) p (sorted_kind s ws o) R;
  lists_before = lists_before;
}
