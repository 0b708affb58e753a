-- A query that its views cover is answered from their sheets as it is from the graph.
use mathlib.Core.Path.{◌≡◌, refl, sym, ap, subst, subst₂, ◌∙◌}
use mathlib.Core.Logic.{◌⊎◌, inl, inr, ◌↔◌}
use mathlib.Core.List.{List}
use Prim.Native.Nat.{ℕ, ◌≤◌, ◌<◌}
use native.Mathlib.Omega.{arith}
use lib.ListN.{length, get_or}
use lib.Dec.{T}
use Rattle.engine.specs.Lists.{In, each}
use Rattle.engine.specs.Simulation.{Pair, Edge, as_pair, bit, both_ways, Pattern, Graph, as_graph, ascending, match_sets, view_sheet, IsSim, sound}
use Rattle.engine.proofs.ByEdge.{row_of}
use Rattle.matching.proofs.ByEdge.{view_of, answer_to}
use Rattle.matching.specs.Join.{View, some_match, matched_by, matched, covered, join, complete, answer_sets}
use Rattle.engine.proofs.ListLaws.{every_in, some_in, each_same}
use Rattle.engine.proofs.SimLaws.{FitsInto, fits_say, fits_by, sim_is, sim_most}
use Rattle.engine.proofs.MatchLaws.{Sim, Total, Matches, matches_edge, row_say, row_by, own_label, Weaker, matches_through, SoundPattern, sound_say}
use Rattle.engine.proofs.CodeLaws.{ascending_same}
use Rattle.matching.proofs.MatchSetLaws.{Narrow, matches_narrow, sets_each, view_each}
use Rattle.matching.proofs.JoinLaws.{JoinedPair, join_candidate, join_supported, join_most, complete_say, complete_by, answer_say, answer_by_lem, answer_each, listed_pair, match_say, some_match_each, Found, candidates_say, candidates_by}

-- a query's edges have ends of 12 bits
pub narrow_query : (Q : Pattern) → SoundPattern Q → length Q.labels ≤ 4096 → Narrow (as_graph Q)
unfolding as_graph
narrow_query Q ok h f i = let r = ok.ends f i in (omega arith, omega arith)

-- the view, and its edge of the same kind, that an edge of the query matches
pub matched_say : (Q : Pattern) (Ps : List Pattern) → Narrow (as_graph Q) → (e : Edge) → e.to < 4096 → T (matched Q Ps e)
    → (P : Pattern) × In P Ps × (g : Edge) × In g P.edges × (g.kind ≡ e.kind) × Matches P (as_graph Q) g (as_pair e)
unfolding matched matched_by
matched_say Q Ps n e h t = of_view (some_in _ Ps t)
  where
    of_view : (P : Pattern) × In P Ps × T (some_match e P.edges (view_sheet P (as_graph Q)))
        → (P : Pattern) × In P Ps × (g : Edge) × In g P.edges × (g.kind ≡ e.kind) × Matches P (as_graph Q) g (as_pair e)
    of_view (P, p, s) =
        let list : Edge → List ℕ = λ g. ascending (row_of P (as_graph Q) g) in
        let r = some_in _ P.edges (subst T (ap (some_match e P.edges) (view_each P (as_graph Q)) ∙ some_match_each e list P.edges) s) in
        let m = match_say e r.0 (list r.0) r.2 in
        (P, p, r.0, r.1, m.0, row_say P (as_graph Q) (listed_pair {f = as_pair e} (row_of P (as_graph Q) r.0) h (λ f k. (matches_narrow n (row_say P (as_graph Q) k)).1) m.1))

module _ (Q : Pattern) (Ps : List Pattern) (G : Graph) (ok : SoundPattern Q) (nq : Narrow (as_graph Q)) (ng : Narrow G) where
  -- the views, with their sheets
  abbrev views : List View
  views = each (view_of G) Ps

  narrow_edge : {e : Edge} → In e Q.edges → e.to < 4096
  unfolding as_graph
  narrow_edge {e} i = (nq e i).1

  join_found : {e : Edge} {f : Pair} → JoinedPair Q views e f → In e Q.edges × Found Q Ps G e f
  join_found i = let c = join_candidate Q views i in (c.0, candidates_say Q Ps G nq ng (narrow_edge c.0) c.1)

  -- ---- the ends of what is kept are a simulation of the query in the graph
  pub KeptEnds : ℕ → ℕ → Type 0
  KeptEnds u v = (e : Edge) × (f : Pair) × JoinedPair Q views e f × (((e.from ≡ u) × (f.0 ≡ v)) ⊎ ((e.to ≡ u) × (f.1 ≡ v)))

  -- because only matched edges count, the ends have the right labels
  fits_of : (P : Pattern) {w u v : ℕ} → Sim P (as_graph Q) w u → Sim P G w v → u < length Q.labels → FitsInto Q G u v
  fits_of P {w} {u} {v} i j l =
      let f = fits_say P (as_graph Q) ((sim_is P (as_graph Q)).fit w u i) in
      let g = fits_say P G ((sim_is P G).fit w v j) in
      record { left = l; right = g.right; label = subst (λ k. T (bit (get_or G.labels v 0) k)) (own_label P Q f) g.label }

  ends_fit : (u v : ℕ) → KeptEnds u v → FitsInto Q G u v
  unfolding KeptEnds
  ends_fit u v (e, f, i, inl (p, q)) =
      let c = join_found i in
      subst₂ (FitsInto Q G) p q (fits_of c.1.view c.1.of_query.tail c.1.of_graph.tail (ok.ends e c.0).0)
  ends_fit u v (e, f, i, inr (p, q)) =
      let c = join_found i in
      subst₂ (FitsInto Q G) p q (fits_of c.1.view c.1.of_query.head c.1.of_graph.head (ok.ends e c.0).1)

  -- one more kept pair, and its head
  ends_next : (v : ℕ) (g : Edge) → (h : Pair) × JoinedPair Q views g h × (h.0 ≡ v)
      → (f : Edge) × In f G.edges × (f.from ≡ v) × (f.kind ≡ g.kind) × KeptEnds g.to f.to
  unfolding KeptEnds
  ends_next v g (h, k, q) =
      let c = (join_found k).1 in
      let m = c.of_graph in
      (m.link, m.edge, sym (ap (λ (p : Pair). p.0) m.ends) ∙ q, m.kind ∙ c.kind, (g, h, k, inr (refl, ap (λ (p : Pair). p.1) m.ends)))

  ends_follow : (u v : ℕ) → KeptEnds u v → (g : Edge) → In g Q.edges → g.from ≡ u
      → (f : Edge) × In f G.edges × (f.from ≡ v) × (f.kind ≡ g.kind) × KeptEnds g.to f.to
  unfolding KeptEnds
  ends_follow u v (e, f, i, inl (p, q)) g j t = let r = (join_supported Q views i).tail g j (t ∙ sym p) in ends_next v g (r.0, r.1, r.2 ∙ q)
  ends_follow u v (e, f, i, inr (p, q)) g j t = let r = (join_supported Q views i).head g j (t ∙ sym p) in ends_next v g (r.0, r.1, r.2 ∙ q)

  -- one more kept pair, and its tail
  ends_before : (v : ℕ) (g : Edge) → (h : Pair) × JoinedPair Q views g h × (h.1 ≡ v)
      → (f : Edge) × In f G.edges × (f.to ≡ v) × (f.kind ≡ g.kind) × KeptEnds g.from f.from
  unfolding KeptEnds
  ends_before v g (h, k, q) =
      let c = (join_found k).1 in
      let m = c.of_graph in
      (m.link, m.edge, sym (ap (λ (p : Pair). p.1) m.ends) ∙ q, m.kind ∙ c.kind, (g, h, k, inl (refl, ap (λ (p : Pair). p.0) m.ends)))

  ends_arrive : Q.rule ≡ both_ways → (u v : ℕ) → KeptEnds u v → (g : Edge) → In g Q.edges → g.to ≡ u
      → (f : Edge) × In f G.edges × (f.to ≡ v) × (f.kind ≡ g.kind) × KeptEnds g.from f.from
  unfolding KeptEnds
  ends_arrive b u v (e, f, i, inl (p, q)) g j t = let r = (join_supported Q views i).tail_back b g j (t ∙ sym p) in ends_before v g (r.0, r.1, r.2 ∙ q)
  ends_arrive b u v (e, f, i, inr (p, q)) g j t = let r = (join_supported Q views i).head_back b g j (t ∙ sym p) in ends_before v g (r.0, r.1, r.2 ∙ q)

  pub ends_sim : IsSim Q G KeptEnds
  ends_sim = record { fit = λ u v r. fits_by Q G (ends_fit u v r); follow = ends_follow; arrive = ends_arrive }

  joined_tail : {e : Edge} {f : Pair} → JoinedPair Q views e f → Sim Q G e.from f.0
  unfolding KeptEnds
  joined_tail {e} {f} i = sim_most Q G KeptEnds ends_sim e.from f.0 (e, f, i, inl (refl, refl))

  joined_head : {e : Edge} {f : Pair} → JoinedPair Q views e f → Sim Q G e.to f.1
  unfolding KeptEnds
  joined_head {e} {f} i = sim_most Q G KeptEnds ends_sim e.to f.1 (e, f, i, inr (refl, refl))

  complete_total : T (complete Q (join Q views)) → Total Q (Sim Q G)
  complete_total t u l = let c = ok.touched u l in let r = complete_say Q views t c.0 c.1 in which c.0 r.0 r.1 c.2
    where
      which : (e : Edge) (f : Pair) → JoinedPair Q views e f → (e.from ≡ u) ⊎ (e.to ≡ u) → (v : ℕ) × Sim Q G u v
      which e f i (inl p) = (f.0, subst (λ w. Sim Q G w f.0) p (joined_tail i))
      which e f i (inr p) = (f.1, subst (λ w. Sim Q G w f.1) p (joined_head i))

  -- what is kept matches the query's edge
  pub joined_matches : T (complete Q (join Q views)) → {e : Edge} {f : Pair} → JoinedPair Q views e f → Matches Q G e f
  joined_matches t i =
      let c = (join_found i).1 in
      let m = c.of_graph in
      record { whole = complete_total t; link = m.link; edge = m.edge; kind = m.kind ∙ c.kind; ends = m.ends; tail = joined_tail i; head = joined_head i }

  -- ---- what matches the query's edge is kept, where the views cover the query and have no stronger rules
  module _ (weaker : (P : Pattern) → In P Ps → Weaker P Q) (cover : T (covered Q Ps)) where
    -- from a partner of u, each edge that leaves u goes on
    matches-next : Total Q (Sim Q G) → {u v : ℕ} → Sim Q G u v → (g : Edge) → In g Q.edges → g.from ≡ u → (h : Pair) × Matches Q G g h × (h.0 ≡ v)
    matches-next a {u} {v} s g j p =
        let n = (sim_is Q G).follow u v s g j p in
        (as_pair n.0, matches_edge Q G g n.0 a n.1 n.3 (subst₂ (Sim Q G) (sym p) (sym n.2) s) n.4, n.2)

    -- and each that arrives at u goes back, where this is asked
    matches-before : Q.rule ≡ both_ways → Total Q (Sim Q G) → {u v : ℕ} → Sim Q G u v → (g : Edge) → In g Q.edges → g.to ≡ u → (h : Pair) × Matches Q G g h × (h.1 ≡ v)
    matches-before b a {u} {v} s g j p =
        let n = (sim_is Q G).arrive b u v s g j p in
        (as_pair n.0, matches_edge Q G g n.0 a n.1 n.3 n.4 (subst₂ (Sim Q G) (sym p) (sym n.2) s), n.2)

    matches-found : (e : Edge) (f : Pair) → In e Q.edges → Matches Q G e f → Found Q Ps G e f
    unfolding covered
    matches-found e f i m = from (matched_say Q Ps nq e (narrow_edge i) (every_in _ cover i))
      where
        from : (P : Pattern) × In P Ps × (g : Edge) × In g P.edges × (g.kind ≡ e.kind) × Matches P (as_graph Q) g (as_pair e) → Found Q Ps G e f
        from (P, p, g, j, s, k) = record { view = P; given = p; at = g; at_edge = j; kind = s; of_query = k; of_graph = matches_through P Q G (weaker P p) g e f s k m }

    Asked : Edge → Pair → Type 0
    Asked e f = In e Q.edges × Matches Q G e f

    pub matches_joined : (e : Edge) (f : Pair) → In e Q.edges → Matches Q G e f → JoinedPair Q views e f
    unfolding Asked
    matches_joined e f i m =
        join_most Q views Asked
        (λ g h a. (a.0, candidates_by Q Ps G nq ng (matches-found g h a.0 a.1)))
        (λ g h a. record {
          tail = next a.1.whole a.1.tail;
          head = next a.1.whole a.1.head;
          tail_back = λ b. before b a.1.whole a.1.tail;
          head_back = λ b. before b a.1.whole a.1.head;
        })
        e f (i, m)
      where
        next : Total Q (Sim Q G) → {u v : ℕ} → Sim Q G u v → (g : Edge) → In g Q.edges → g.from ≡ u → (h : Pair) × (In g Q.edges × Matches Q G g h) × (h.0 ≡ v)
        next a s g j p = let n = matches-next a s g j p in (n.0, (j, n.1), n.2)

        before : Q.rule ≡ both_ways → Total Q (Sim Q G) → {u v : ℕ} → Sim Q G u v → (g : Edge) → In g Q.edges → g.to ≡ u → (h : Pair) × (In g Q.edges × Matches Q G g h) × (h.1 ≡ v)
        before b a s g j p = let n = matches-before b a s g j p in (n.0, (j, n.1), n.2)

    total-complete : Total Q (Sim Q G) → T (complete Q (join Q views))
    total-complete a =
        complete_by Q views λ e i.
        let p = a e.from (ok.ends e i).0 in
        let n = matches-next a p.1 e i refl in
        (n.0, matches_joined e n.0 i n.1)

    -- the answer to an edge has the members of its row
    pub answer_row : (e : Edge) (f : Pair) → In e Q.edges → In f (answer_to Q views e) ↔ In f (row_of Q G e)
    answer_row e f i = (
      λ j. let r = answer_say Q views j in row_by Q G (joined_matches r.0 r.1),
      λ j. let m = row_say Q G j in answer_by_lem Q views (total-complete m.whole) (matches_joined e f i m),
    )

-- for every list of views that covers the query, each by its rule or a weaker one, answering from their sheets is searching the graph
pub covered_answer : (Q : Pattern) (Ps : List Pattern) → T (sound Q) → length Q.labels ≤ 4096 → ((P : Pattern) → In P Ps → Weaker P Q)
    → T (covered Q Ps) → (G : Graph) → Narrow G → answer_sets Q (each (view_of G) Ps) ≡ match_sets Q G
covered_answer Q Ps s h weaker c G n = answer_each Q (each (view_of G) Ps) ∙ each_same _ _ Q.edges list ∙ sym (sets_each Q G)
  where
    list : (e : Edge) → In e Q.edges → ascending (answer_to Q (each (view_of G) Ps) e) ≡ ascending (row_of Q G e)
    list e i =
        let ok = sound_say Q s in
        let nq = narrow_query Q ok h in
        ascending_same _ _ (λ f. (answer_row Q Ps G ok nq n weaker c e f i).0) (λ f. (answer_row Q Ps G ok nq n weaker c e f i).1)
