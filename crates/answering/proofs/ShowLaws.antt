-- The two records shown for a query that is not covered: both are accepted, every view has the same sheet on both, and the query has not.
use Prim.Native.Nat.{ℕ, ◌<◌, ◌≤◌}
use mathlib.Core.Path.{◌≡◌, refl, sym, ap, ap₂, subst, ◌∙◌}
use mathlib.Core.Bool.{Bool, true, not}
use mathlib.Core.List.{List, [], ◌∷◌, ◌++◌}
use lib.ListN.{length, get_or}
use lib.Dec.{T, T_not}
use native.Mathlib.Omega.{arith}
use Rattle.packed.specs.Format.{ok, decode}
use Rattle.packed.specs.Formats.{pattern}
use Rattle.packed.specs.Contents.{sheet_fields}
use Rattle.packed.specs.Calls.{accepted, read_catalogue, read_record, record_bytes}
use Rattle.packed.specs.Plain.{PlainPattern}
use Rattle.packed.proofs.Accepted.{pattern_accepted, record_accepted, record_read_lem}
use Rattle.packed.proofs.AcceptedBounds.{catalogue_views}
use Rattle.packed.proofs.BookSheetLaws.{sheet_injective}
use Rattle.engine.specs.Lists.{In, here, there, each}
use Rattle.packed.proofs.MadeRecords.{Made}
use Rattle.engine.specs.Simulation.{Edge, same_edge, no_edge, Pattern, Graph, pattern_of, graph_of, as_graph, match_sets, view_sheet, bit}
use Rattle.matching.specs.Join.{matched, without}
use Rattle.matching.specs.Search.{sheet_bytes, book_bytes, view_sheets}
use Rattle.engine.proofs.ListLaws.{in_at, keep_in}
use Rattle.engine.proofs.SimLaws.{same_edge_refl}
use Rattle.matching.proofs.MatchSetLaws.{sets_length}
use Rattle.matching.proofs.EdgeLaws.{edge_at, edge_at_lem}
use Rattle.matching.proofs.SortedGraphs.{Alike, alike_sets, alike_views, alike_without}
use Rattle.matching.proofs.PatternLaws.{pattern_is, edges_in_lem, edges_many, sound_of}
use Rattle.matching.proofs.RecordLaws.{graph_narrow, graph_few}
use Rattle.matching.proofs.SheetBytes.{SheetFields, sets_sheet}
use Rattle.matching.proofs.Uncovered.{uncovered_views, uncovered_query}
use Rattle.matching.specs.Offered.{Offered, view_patterns}
use Rattle.matching.proofs.OfferedLaws.{views_number}
use Rattle.containment.specs.Choice.{every_view, lowest_unmatched}
use Rattle.containment.specs.Quote.{mapping, views_in_set}
use Rattle.containment.specs.Show.{graph_fields, fewer_fields}
use Rattle.answering.specs.Demands.{Leaves, lacking_in}
use Rattle.containment.proofs.QueryGraph.{graph_made, fewer_made, graph_means, fewer_means}
use Rattle.answering.proofs.QuoteLaws.{chosen_every, LowestEdge, lowest_edge, chosen_whole}

-- ---- sheets that differ as lists differ as bytes

-- lists can be read off the bytes of their sheet
pub bytes_injective : (ls ms : List (List ℕ)) → SheetFields ls → SheetFields ms → length ls ≡ length ms → sheet_bytes ls ≡ sheet_bytes ms → ls ≡ ms
bytes_injective ls ms a b n h =
    let p = a.back in
    let q = b.back in
    let f : sheet_fields ls ≡ sheet_fields ms = cc in
    sheet_injective ls ms n f

-- ---- the two records

-- the edge e of the query with content qs
abbrev pub query_edge : List ℕ → ℕ → Edge
query_edge qs e = get_or (pattern_of qs).edges e no_edge

-- what the query with content qs, read as a record, and the same without its edge e show of the views Ps
pub record Shows (qs : List ℕ) (Ps : List Pattern) (e : ℕ) : Type 0 where
  -- both are accepted as what they are
  pub first_read : read_record (record_bytes (graph_fields qs)) ≡ accepted (graph_fields qs)
  pub second_read : read_record (record_bytes (fewer_fields qs e)) ≡ accepted (fewer_fields qs e)
  pub means : Alike (graph_of (graph_fields qs)) (as_graph (pattern_of qs))
  pub lacks : graph_of (fewer_fields qs e) ≡ without (query_edge qs e) (graph_of (graph_fields qs))
  pub in_first : In (query_edge qs e) (graph_of (graph_fields qs)).edges
  pub not_second : In (query_edge qs e) (graph_of (fewer_fields qs e)).edges → ⊥
  -- every view's sheet is the same on both, the query's own is not
  pub same : (P : Pattern) → In P Ps → sheet_bytes (view_sheet P (graph_of (graph_fields qs))) ≡ sheet_bytes (view_sheet P (graph_of (fewer_fields qs e)))
  pub differs : sheet_bytes (match_sets (pattern_of qs) (graph_of (graph_fields qs))) ≡ sheet_bytes (match_sets (pattern_of qs) (graph_of (fewer_fields qs e))) → ⊥

not_without : (e : Edge) (G : Graph) → In e (without e G).edges → ⊥
unfolding without
not_without e G i = T_not (same_edge e e) (keep_in (λ f. not (same_edge e f)) G.edges i).1 (same_edge_refl e)

made_read : {most : ℕ} {fs : List ℕ} → most ≤ 44036 → Made most fs → read_record (record_bytes fs) ≡ accepted fs
made_read {fs = fs} h m = (record_read_lem (record_bytes fs) fs).1 (omega (arith, m.size), (record_accepted (record_bytes fs) fs).0 m.back)

module _ {qs : List ℕ} {bs : List Bool} (q : PlainPattern qs bs) where
  number_is : length (pattern_of qs).edges ≡ q.number
  number_is = edges_many q ∙ edges_in_lem q

  few_nodes : length (pattern_of qs).labels ≤ 4096
  few_nodes = omega (arith, ap (λ (P : Pattern). length P.labels) (pattern_is q), q.label_each, q.most_nodes)

  edge_is : (e : ℕ) → e < q.number → query_edge qs e ≡ edge_at q.es e
  edge_is e h = ap (λ (P : Pattern). get_or P.edges e no_edge) (pattern_is q) ∙ edge_at_lem q.es q.number e q.edges.among.three_each h

  -- the match sets of a pattern in a record that was made
  made_sheet : {most : ℕ} {fs : List ℕ} → Made most fs → SheetFields (match_sets (pattern_of qs) (graph_of fs))
  made_sheet {fs = fs} m = sets_sheet (pattern_of qs) (graph_of fs) (sound_of q) (graph_narrow (record_bytes fs) fs m.back) (graph_few (record_bytes fs) fs m.back)

  module _ (Ps : List Pattern) (e : ℕ) (h : e < length (pattern_of qs).edges) (unmatched : T (matched (pattern_of qs) Ps (query_edge qs e)) → ⊥) where
    below : e < q.number
    below = omega (arith, number_is)

    an-edge : In (query_edge qs e) (pattern_of qs).edges
    an-edge = in_at (pattern_of qs).edges e no_edge h

    lack : graph_of (fewer_fields qs e) ≡ without (query_edge qs e) (graph_of (graph_fields qs))
    lack = fewer_means q e below ∙ ap (λ f. without f (graph_of (graph_fields qs))) (sym (edge_is e below))

    -- what the two mean
    second-means : Alike (graph_of (fewer_fields qs e)) (without (query_edge qs e) (as_graph (pattern_of qs)))
    second-means = rw lack (alike_without (query_edge qs e) (graph_of (graph_fields qs)) (as_graph (pattern_of qs)) (graph_means q))

    pub shows_by : Shows qs Ps e
    unfolding as_graph
    shows_by =
        let Q = pattern_of qs in
        let first = graph_of (graph_fields qs) in
        let second = graph_of (fewer_fields qs e) in
        record {
          first_read = made_read (omega arith) (graph_made q);
          second_read = made_read (omega arith) (fewer_made q e below);
          means = graph_means q;
          lacks = lack;
          in_first = (graph_means q).1.more (query_edge qs e) an-edge;
          not_second = λ i. not_without (query_edge qs e) first (subst (λ (G : Graph). In (query_edge qs e) G.edges) lack i);
          same = λ P i.
              ap sheet_bytes
              (alike_views P first (as_graph Q) (graph_means q)
              ∙ uncovered_views Q Ps (query_edge qs e) unmatched P i
              ∙ sym (alike_views P second (without (query_edge qs e) (as_graph Q)) second-means));
          differs = λ b.
              uncovered_query Q (sound_of q) few_nodes (query_edge qs e) an-edge
              (sym (alike_sets Q first (as_graph Q) (graph_means q))
              ∙ bytes_injective (match_sets Q first) (match_sets Q second) (made_sheet (graph_made q)) (made_sheet (fewer_made q e below))
              (sets_length Q first ∙ sym (sets_length Q second)) b
              ∙ alike_sets Q second (without (query_edge qs e) (as_graph Q)) second-means);
        }

-- ---- of an accepted question and an accepted catalogue
module _ (s c qs : List ℕ) (cs : Offered) (p : decode pattern s ≡ ok qs) (d : read_catalogue c ≡ accepted cs.content) where
  few_views : length (view_patterns cs) ≤ 16
  few_views = let v = catalogue_views c cs.content d in omega (arith, views_number cs, v.many, v.most)

  -- the lowest edge that no view in a set matches
  pub lowest_in : (set : ℕ) → Leaves set qs cs → LowestEdge (pattern_of qs) (views_in_set set (view_patterns cs)) (lacking_in set qs cs)
  lowest_in set n =
      let q = ((pattern_accepted s qs).0 p).laid in
      let m = edges_many q in
      subst (λ (k : ℕ). LowestEdge (pattern_of qs) (views_in_set set (view_patterns cs)) (lowest_unmatched (mapping (pattern_of qs) (view_patterns cs)) set (length (view_patterns cs)) k)) m
      (lowest_edge (pattern_of qs) (view_patterns cs) set few_views (omega (arith, number_is q, q.most_edges)) (rw m n))

  -- where the views in a set don't cover the query, two accepted records on which each of them has the same sheet, byte for byte, and the query
  -- has not
  pub shows_in : (set : ℕ) → Leaves set qs cs → Shows qs (views_in_set set (view_patterns cs)) (lacking_in set qs cs)
  shows_in set n =
      let o = lowest_in set n in
      shows_by ((pattern_accepted s qs).0 p).laid (views_in_set set (view_patterns cs)) (lacking_in set qs cs) o.below o.unmatched

  -- of all views
  pub lowest_of : Leaves every_view qs cs → LowestEdge (pattern_of qs) (view_patterns cs) (lacking_in every_view qs cs)
  lowest_of n = rw (chosen_every (view_patterns cs) few_views) at (lowest_in every_view n)

-- ---- how long the sheets and the book are on these records

book_same : {A : Type 0} (f g : A → List (List ℕ)) (l : List A) → ((x : A) → In x l → sheet_bytes (f x) ≡ sheet_bytes (g x)) → book_bytes (each f l) ≡ book_bytes (each g l)
unfolding book_bytes each
book_same f g [] h = refl
book_same f g (x ∷ l) h = ap₂ (λ (a b : List ℕ). a ++ b) (h x (here refl)) (book_same f g l (λ y i. h y (there i)))

module _ (s c qs : List ℕ) (cs : Offered) (p : decode pattern s ≡ ok qs) (d : read_catalogue c ≡ accepted cs.content) where
  module _ (set : ℕ) (n : Leaves set qs cs) (all : (a : ℕ) → a < length (view_patterns cs) → bit set a ≡ true) where
    -- the two records have the same book, where all views are in the set
    pub shows_book : book_bytes (view_sheets cs (graph_of (graph_fields qs))) ≡ book_bytes (view_sheets cs (graph_of (fewer_fields qs (lacking_in set qs cs))))
    unfolding view_sheets
    shows_book =
        book_same (λ P. view_sheet P (graph_of (graph_fields qs))) (λ P. view_sheet P (graph_of (fewer_fields qs (lacking_in set qs cs)))) (view_patterns cs)
        (λ P i. (shows_in s c qs cs p d set n).same P (subst (λ l. In P l) (sym (chosen_whole set (view_patterns cs) all)) i))
