-- The views of a catalogue noted in the table of a quote, batch by batch.
use Prim.Native.Nat.{ℕ, zero, suc, ◌+◌, ◌-◌, ◌*◌, ◌<◌, ◌≤◌}
use mathlib.Core.Path.{◌≡◌, refl, sym, ap, ap₂, subst, ◌∙◌}
use mathlib.Core.List.{List, []}
use lib.ListN.{length, take, drop, get_or, replicate}
use lib.Seq.{get_or-take, length-take-le}
use lib.Dec.{T}
use native.Mathlib.Omega.{arith}
use Rattle.packed.specs.Format.{ok, decode}
use Rattle.packed.specs.Formats.{record'}
use Rattle.packed.specs.Contents.{nodes_of, edges_of, views_of, edge_counts, edge_word, edge_words, word_kind}
use Rattle.packed.specs.LoadedGraph.{Holds}
use Rattle.packed.specs.Matches.{matches_from, sum_of}
use Rattle.packed.specs.declared.by_value.Pattern.{Pattern as Given}
use Rattle.packed.proofs.AcceptedBounds.{catalogue_views}
use Rattle.packed.proofs.MatchLaws.{sum_next}
use Rattle.engine.specs.Lists.{In, here, there, up_to}
use Rattle.engine.specs.Simulation.{Edge, no_edge, bit, Pattern, pattern_of, graph_of, as_graph, match_sets, view_sheet}
use Rattle.engine.specs.Loaded.{given_edge, graph_in, Edges}
use Rattle.engine.specs.Masks.{OneOf}
use Rattle.engine.specs.Batches.{BatchMatched}
use Rattle.matching.specs.Offered.{Offered, offers, view_at, view_patterns}
use Rattle.matching.specs.Books.{Catalogued, EdgesCounted}
use Rattle.matching.specs.Batches.{StandsAt, BeginsAt, ViewIn, Fills, ViewMatched}
use Rattle.matching.specs.declared.batches.Filled.{Filled}
use Rattle.engine.proofs.ListLaws.{in_at, in_each}
use Rattle.engine.proofs.UpToLaws.{length_up_to}
use Rattle.engine.proofs.MatchedLaws.{edges_twice}
use Rattle.matching.proofs.EdgeLaws.{made_each}
use Rattle.matching.proofs.PatternLaws.{edges_in_lem}
use Rattle.matching.proofs.MarkedLaws.{given_long}
use Rattle.matching.proofs.BatchLaws.{sum_grows, count_of, table_of, begins_first, view_matched}
use Rattle.matching.proofs.SortedGraphs.{alike_sets}
use Rattle.matching.proofs.MatchSetLaws.{view_sheet_lem}
use Rattle.matching.proofs.RecordLaws.{sets_same, graph_again, rises_by, rises_again}
use Rattle.containment.specs.Quote.{mask_in, match_mask, mapping}
use Rattle.containment.specs.Show.{graph_fields}
use Rattle.containment.specs.Steps.{Query, Views, Present, Placed, Columns, noted_mask, BatchNoted, word_at}
use Rattle.containment.proofs.QueryGraph.{graph_fields_lem, graph_means}
use Rattle.containment.proofs.QueryLaws.{plain, few_edges, query_number, query_edge}
use Rattle.containment.proofs.MappingLaws.{noted_mask_lem, word_edge, mapping_none, mapping_columns, mapping_length, column_clear}

-- ---- the views
module _ {c : List ℕ} {k : ℕ} (v : Views c k) where
  pub views_many : length (views_of v.content) ≡ k
  views_many = (catalogue_views c v.content v.is).many ∙ sym v.number

  pub views_few : k ≤ 16
  views_few = omega (arith, v.number, (catalogue_views c v.content v.is).most)

  pub catalogued : length c ≤ 65536 → Catalogued c k
  catalogued l = record { small = l; fields = v.content; is = v.is; number = v.number }

-- the table after a views, of which the next begins on the byte; those in the set one are matched one-way
pub record Noted (q : Given) (c : List ℕ) (one k a byte : ℕ) (table : List ℕ) : Type 0 where
  pub ahead : BeginsAt c a byte
  pub is : (t : Query q) (v : Views c k) → table ≡ mapping (pattern_of t.content) (up_to (view_at (offers v.content one)) a)

pub noted_start : {q : Given} {c : List ℕ} {one k : ℕ} {table : List ℕ} → table ≡ replicate 512 0 → Noted q c one k 0 1 table
unfolding up_to
noted_start {c = c} e = record { ahead = begins_first c; is = λ t v. mapping_none (pattern_of t.content) e }

pub noted_end : {q : Given} {c : List ℕ} {one k a byte : ℕ} {table : List ℕ} → Noted q c one k a byte table → a ≡ k
    → (t : Query q) (v : Views c k) → table ≡ mapping (pattern_of t.content) (view_patterns (offers v.content one))
unfolding view_patterns
noted_end {one = one} h e t v =
    h.is t v ∙ ap (λ (n : ℕ). mapping (pattern_of t.content) (up_to (view_at (offers v.content one)) n)) (e ∙ sym (views_many v))

module _ {q : Given} {c : List ℕ} {one k a byte : ℕ} {table : List ℕ} (h : Noted q c one k a byte table) where
  pub noted_long : Query q → Views c k → length table ≡ 512
  noted_long t v = ap length (h.is t v) ∙ mapping_length (pattern_of t.content) (up_to (view_at (offers v.content one)) a)

  -- the columns of the next views are clear
  pub noted_clear : Query q → Views c k → (i e : ℕ) → a ≤ i → i < 16 → get_or table (16 * e + i) 0 ≡ 0
  noted_clear t v i e l m =
      let past = view_at (offers v.content one) in
      column_clear (pattern_of t.content) (up_to past a) table i e (omega (arith, length_up_to past a)) m (h.is t v)

-- ---- how many edges the views have
module _ {c : List ℕ} {k : ℕ} (counts : List ℕ) (h : EdgesCounted c k counts) (v : Views c k) where
  count_same : (j : ℕ) → j < k → get_or counts j 0 ≡ get_or (edge_counts v.content) j 0
  count_same j l = table_of v.content (h v.content v.is) j l ∙ sym (count_of v.content j)

  sum_same : (j : ℕ) → j ≤ k → sum_of j counts ≡ sum_of j (edge_counts v.content)
  unfolding sum_of
  sum_same zero l = refl
  sum_same (suc j) l = ap₂ (λ (x y : ℕ). x + y) (sum_same j (omega arith)) (count_same j (omega arith))

  -- a batch has 32 bits
  pub counts_few : {one a : ℕ} {r : Filled} → Fills c one k a r → sum_of r.next counts ≤ sum_of a counts + 32
  counts_few {a = a} {r} f =
      let l = f.most in
      let s = f.some in
      omega (arith, f.few v.content v.is, sum_same r.next l, sum_same a (omega arith))

pub bits_fit : (a j next : ℕ) (counts : List ℕ) (at : ℕ) → at + sum_of a counts ≡ sum_of j counts → j < next → sum_of next counts ≤ sum_of a counts + 32 → at + get_or counts j 0 ≤ 32
bits_fit a j next counts at s l few = omega (arith, s, sum_next j counts, sum_grows (j + 1) next counts (omega arith), few)

-- the places stay where the edges do
pub placed_again : {q : Given} {n m : ℕ} {w w' ps : List ℕ} → Edges w w' → m ≤ 8192 → Placed q n m w ps → Placed q n m w' ps
placed_again {ps = ps} g b d =
    record {
      fair = d.fair;
      edges = d.edges;
      some = d.some;
      each = λ e l. (let h = d.each e l in (h.0, g.same (get_or ps e 0) (omega (arith, h.0)) ∙ h.1));
    }

-- they are all at the front
module _ {q : Given} {n m : ℕ} {w ps : List ℕ} (d : Placed q n m w ps) where
  pub placed_many : length (take n ps) ≡ n
  placed_many = length-take-le n ps d.some

  pub placed_front : Placed q n m w (take n ps)
  placed_front = record { fair = d.fair; edges = d.edges; some = omega (arith, placed_many); each = λ e l. rw (get_or-take n ps e 0 l) (d.each e l) }

-- ---- the query's record in the workspace
in_place : {x : ℕ} {l : List ℕ} → In x l → OneOf (length l) (λ i. get_or l i 0 ≡ x)
in_place (here e) = record { at = 0; below = omega arith; holds = sym e }
in_place (there i) = let r = in_place i in record { at = suc r.at; below = omega (arith, r.below); holds = r.holds }

module _ {q : Given} {s : List ℕ} {n m : ℕ} {w : List ℕ} (t : Query q) (h : Holds s n m w) (reads : decode record' s ≡ ok (graph_fields t.content)) where
  fields_same : h.fields ≡ graph_fields t.content
  fields_same = let e = h.is in cc

  pub number_same : m ≡ q.edges
  number_same = h.edges ∙ ap edges_of (fields_same ∙ graph_fields_lem (plain t)) ∙ sym (edges_in_lem (plain t)) ∙ sym t.holds.edges

  pub number_few : m ≤ 32
  number_few = omega (arith, number_same, t.holds.edges, few_edges t)

  pub nodes_few : n ≤ 16
  nodes_few = omega (arith, h.nodes, ap nodes_of (fields_same ∙ graph_fields_lem (plain t)), (plain t).most_nodes)

  sets_query : (P : Pattern) → match_sets P (graph_in s n m w) ≡ match_sets P (as_graph (pattern_of t.content))
  sets_query P =
      sets_same h P ∙ ap (λ (ws : List ℕ). match_sets P (graph_of ws)) fields_same
      ∙ alike_sets P (graph_of (graph_fields t.content)) (as_graph (pattern_of t.content)) (graph_means (plain t))

  -- each edge of the query stands there
  front_in : (e : ℕ) → e < q.edges → In (word_at q e) (take m w)
  unfolding graph_of as_graph
  front_in e l =
      let gs : List ℕ = graph_fields t.content in
      let Q : Pattern = pattern_of t.content in
      let i : In (given_edge q e) Q.edges = subst (λ (f : Edge). In f Q.edges) (query_edge t e l) (in_at Q.edges e no_edge (omega (arith, query_number t))) in
      subst (In (word_at q e)) (sym (h.front ∙ ap (λ (ws : List ℕ). edge_words (drop (2 + nodes_of ws) ws)) fields_same ∙ made_each edge_word (drop (2 + nodes_of gs) gs)))
      (in_each (λ f. edge_word f.from f.to f.kind) ((graph_means (plain t)).1.more (given_edge q e) i))

  pub query_present : {w' : List ℕ} → Edges w w' → Present q m w'
  unfolding Present
  query_present g e l =
      let r = in_place (front_in e l) in
      let b = number_few in
      let j : r.at < m = omega (arith, r.below, length-take-le m w (omega (arith, h.long))) in
      record { at = r.at; below = j; holds = g.same r.at (omega arith) ∙ sym (get_or-take m w r.at 0 j) ∙ r.holds }

  -- ---- the next views' columns
  module _ {c : List ℕ} {one k a byte : ℕ} {table table' : List ℕ} (o : Noted q c one k a byte table) (v : Views c k) {r : Filled} (f : Fills c one k a r)
      (counts : List ℕ) (has : EdgesCounted c k counts) {w₁ w₂ : List ℕ} (g : Edges w w₁) (d : BatchMatched r.batch s n m w₁ w₂) {ps : List ℕ} (p : Placed q q.edges m w₂ ps)
      (cols : BatchNoted a r.next q.edges counts m w₂ ps table table') where
    abbrev Q : Pattern
    Q = pattern_of t.content

    abbrev offer : Offered
    offer = offers v.content one

    few : m ≤ 8192
    few = omega (arith, number_few)

    -- one of them
    module _ (i : ℕ) (since : a ≤ i) (before : i < r.next) where
      abbrev P : Pattern
      P = view_at offer i

      abbrev content : List ℕ
      content = get_or (views_of v.content) i []

      within : i < k
      within = omega (arith, f.most)

      -- where its bits begin
      at : ℕ
      at = sum_of i counts - sum_of a counts

      begins : at + sum_of a counts ≡ sum_of i counts
      unfolding at
      begins = omega (arith, sum_grows a i counts since)

      stands : StandsAt v.content a i at
      stands = omega (arith, begins, sum_same counts has v i (omega (arith, within)), sum_same counts has v a (omega (arith, within)))

      view : ViewIn offer r.batch i at
      view = f.views v.content v.is i at since before stands

      matched : ViewMatched offer i at s n m w₁ w₂
      matched = view_matched view d

      edges_many : length P.edges ≡ edges_of content
      edges_many = ap (λ (R : Pattern). length R.edges) (sym view.means) ∙ given_long view.given ∙ view.holds.edges

      number : get_or counts i 0 ≡ length P.edges
      number = count_same counts has v i within ∙ count_of v.content i ∙ sym edges_many

      sets-view : matches_from at m (length P.edges) w₂ ≡ view_sheet P (as_graph Q)
      sets-view =
          ap (λ (l : ℕ). matches_from at m l w₂) edges_many
          ∙ matched.sets
          ∙ view_sheet_lem P (graph_in s n m w₁)
          ∙ ap (match_sets P) (graph_again g s n few)
          ∙ sets_query P
          ∙ sym (view_sheet_lem P (as_graph Q))

      only : (j e : ℕ) → j < m → e < length P.edges → T (bit (get_or w₂ (8192 + j) 0) (at + e)) → (get_or P.edges e no_edge).kind ≡ word_kind (get_or w₂ j 0)
      only j e l b y = matched.only j e l (omega (arith, edges_many)) y ∙ ap word_kind (sym (d.edges.same j (omega (arith, few))))

      mask-view : (e : ℕ) → e < q.edges → noted_mask at (get_or counts i 0) m w₂ (get_or ps e 0) ≡ match_mask Q (get_or Q.edges e no_edge) P
      unfolding match_mask
      mask-view e j =
          ap (λ (l : ℕ). noted_mask at l m w₂ (get_or ps e 0)) number
          ∙ noted_mask_lem d.marked (rises_again (edges_twice g d.edges) few (rises_by h)) P.edges at only (get_or ps e 0) (p.each e j).0
          ∙ ap₂ (λ (b : Edge) (ls : List (List ℕ)). mask_in b P.edges ls) (word_edge p e j ∙ sym (query_edge t e j)) sets-view

    column-views : Columns a r.next (length Q.edges) (λ i e x. x ≡ match_mask Q (get_or Q.edges e no_edge) (view_at offer i)) table table'
    column-views =
        subst (λ (l : ℕ). Columns a r.next l (λ i e x. x ≡ match_mask Q (get_or Q.edges e no_edge) (view_at offer i)) table table') (sym (query_number t))
        (record {
          long = cols.long;
          each = λ i e l b j. cols.each i e l b j (at i l b) (begins i l b) ∙ mask-view i l b e j;
          rest = cols.rest;
        })

    table_more : table' ≡ mapping Q (up_to (view_at offer) r.next)
    table_more = mapping_columns Q (view_at offer) a r.next (omega (arith, f.some)) (o.is t v) column-views

pub noted_more : {q : Given} {s : List ℕ} {n m : ℕ} {w : List ℕ} → Holds s n m w → ((t : Query q) → decode record' s ≡ ok (graph_fields t.content))
    → {c : List ℕ} {one k a byte : ℕ} {table table' : List ℕ} → Noted q c one k a byte table → {r : Filled} → Fills c one k a r → (counts : List ℕ) → EdgesCounted c k counts
    → {w₁ w₂ : List ℕ} → Edges w w₁ → BatchMatched r.batch s n m w₁ w₂ → {ps : List ℕ} → Placed q q.edges m w₂ ps
    → BatchNoted a r.next q.edges counts m w₂ ps table table' → Noted q c one k r.next r.byte table'
noted_more h reads o f counts has g d p cols = record { ahead = f.ahead; is = λ t v. table_more t h (reads t) o v f counts has g d p cols }
