-- The part of a query that some of its edges are, and the part that views answer.
use mathlib.Core.Path.{◌≡◌, refl, sym, ap, ap₂, subst, ◌∙◌}
use mathlib.Core.Logic.{◌⊎◌, inl, inr, ⊎_elim, ◌↔◌}
use mathlib.Core.Bool.{Bool}
use mathlib.Core.List.{List}
use Prim.Native.Nat.{ℕ, ◌≤◌, ◌<◌, ◌^◌}
use native.Mathlib.Omega.{arith}
use lib.ListN.{length, get_or}
use lib.Dec.{T, eqb, eqb→eq}
use Rattle.packed.specs.Formats.{code}
use Rattle.engine.specs.Lists.{In, keep, each}
use Rattle.engine.specs.Simulation.{Pair, Edge, between, as_pair, no_edge, bit, Pattern, Graph, as_graph, fits, ascending, IsSim}
use Rattle.matching.specs.Join.{is_match, matched, covered}
use Rattle.matching.specs.Part.{rank, at_places, touches, number, moved, part_of}
use Rattle.engine.proofs.ByEdge.{row_of}
use Rattle.engine.proofs.ListLaws.{same_test, or_left, or_right, or_cases, equal_test, in_every, every_in, in_some, some_in, keep_in, in_keep, keep_all, each_in, in_each, each_all, length_each, get_d_each}
use Rattle.engine.proofs.SimLaws.{fits_say, fits_by, sim_is, sim_most}
use Rattle.engine.proofs.MatchLaws.{Sim, Matches, row_say, row_by, SoundPattern}
use Rattle.engine.proofs.CodeLaws.{ascending_say, ascending_by}
use Rattle.matching.proofs.PlaceLaws.{rank_apart, rank_below, rank_all, places_length, places_fewer, places_at, places_from, places_all, keep_places, places_each}
use Rattle.matching.proofs.MatchSetLaws.{Narrow, matches_narrow, subgraph_matches}
use Rattle.matching.proofs.JoinLaws.{match_say, match_by, listed_pair}
use Rattle.matching.proofs.Removed.{only, only_subgraph, matches_stays}
use Rattle.matching.proofs.Renumbered.{Renumbered, matches_renumbered}
use Rattle.matching.proofs.Covered.{narrow_query, matched_say}
use Rattle.matching.proofs.Uncovered.{matched_listed}

-- ---- the nodes at edges
pub touches_by : {es : List Edge} {e : Edge} → In e es → T (touches es e.from) × T (touches es e.to)
unfolding touches
touches_by {e = e} i = (in_some _ i (or_left _ _ (equal_test e.from refl)), in_some _ i (or_right (eqb e.from e.to) _ (equal_test e.to refl)))

pub touches_say : (es : List Edge) (v : ℕ) → T (touches es v) → (e : Edge) × In e es × ((e.from ≡ v) ⊎ (e.to ≡ v))
unfolding touches
touches_say es v t =
    let r = some_in _ es t in
    (r.0, r.1, ⊎_elim (λ q. inl (eqb→eq r.0.from v q)) (λ q. inr (eqb→eq r.0.to v q)) (or_cases _ _ r.2))

pub touches_at : (es : List Edge) {v : ℕ} → (e : Edge) × In e es × ((e.from ≡ v) ⊎ (e.to ≡ v)) → T (touches es v)
touches_at es (e, i, c) = ⊎_elim (λ q. subst (λ z. T (touches es z)) q (touches_by i).0) (λ q. subst (λ z. T (touches es z)) q (touches_by i).1) c

-- ---- the part that the edges are that the test takes
module _ (Q : Pattern) (ok : SoundPattern Q) (takes : Edge → Bool) where
  abbrev taken : List Edge
  taken = keep takes Q.edges

  abbrev f : ℕ → ℕ
  f = number taken

  taken_ends : {e : Edge} → In e taken → (e.from < length Q.labels) × (e.to < length Q.labels)
  taken_ends {e} i = ok.ends e (keep_in takes Q.edges i).0

  taken_node : (u : ℕ) → T (touches taken u) → u < length Q.labels
  taken_node u t =
      let r = touches_say taken u t in
      ⊎_elim (λ q. subst (λ z. z < length Q.labels) q (taken_ends r.1).0) (λ q. subst (λ z. z < length Q.labels) q (taken_ends r.1).1) r.2

  pub part_in : {e : Edge} → In e Q.edges → T (takes e) → In (moved (number (keep takes Q.edges)) e) (part_of takes Q).edges
  unfolding part_of
  part_in i t = in_each (moved f) (in_keep takes i t)

  -- each of its edges is the edge that it came from
  pub part_from : {h : Edge} → In h (part_of takes Q).edges → (e : Edge) × In e Q.edges × T (takes e) × (h ≡ moved (number (keep takes Q.edges)) e)
  unfolding part_of
  part_from i = let o = each_in (moved f) taken i in let k = keep_in takes Q.edges o.1 in (o.0, k.0, k.1, o.2)

  -- its edges by their numbers: how many there are, and where the edge number i stood
  pub part_number : length (part_of takes Q).edges ≡ rank (λ v. takes (get_or Q.edges v no_edge)) (length Q.edges)
  unfolding part_of
  part_number = length_each (moved f) taken ∙ ap length (keep_places takes Q.edges no_edge) ∙ places_length _ Q.edges

  pub part_edge : (i : ℕ) → i < length (part_of takes Q).edges
      → (v : ℕ) × (v < length Q.edges) × T (takes (get_or Q.edges v no_edge)) × (rank (λ u. takes (get_or Q.edges u no_edge)) v ≡ i)
      × (get_or (part_of takes Q).edges i no_edge ≡ moved (number (keep takes Q.edges)) (get_or Q.edges v no_edge))
  unfolding part_of
  part_edge i h =
      let at : ℕ → Bool = λ v. takes (get_or Q.edges v no_edge) in
      let k = keep_places takes Q.edges no_edge in
      let c = places_from at Q.edges i (omega (arith, length_each (moved f) taken, ap length k)) in
      let g : get_or taken i no_edge ≡ get_or Q.edges c.0 no_edge =
      ap₂ (λ (l : List Edge) (j : ℕ). get_or l j no_edge) k (sym c.3) ∙ places_at at Q.edges c.0 no_edge c.2 c.1 in
      (c.0, c.1, c.2, c.3, get_d_each (moved f) taken i no_edge no_edge (omega (arith, length_each (moved f) taken)) ∙ ap (moved f) g)

  -- the ends of each keep their labels
  pub part_labels : {e : Edge} → In e Q.edges → T (takes e)
      → (get_or (part_of takes Q).labels (number (keep takes Q.edges) e.from) 0 ≡ get_or Q.labels e.from 0)
      × (get_or (part_of takes Q).labels (number (keep takes Q.edges) e.to) 0 ≡ get_or Q.labels e.to 0)
  unfolding part_of
  part_labels {e} i t =
      let a = touches_by (in_keep takes i t) in
      let n = ok.ends e i in
      (places_at (touches taken) Q.labels e.from 0 a.0 n.0, places_at (touches taken) Q.labels e.to 0 a.1 n.1)

  -- it is a pattern each of whose nodes is at an edge
  pub part_sound : SoundPattern (part_of takes Q)
  unfolding part_of
  part_sound = record { ends = ends; touched = touched }
    where
      below : (u : ℕ) → T (touches taken u) → f u < length (at_places (touches taken) Q.labels)
      below u t = rank_below (touches taken) Q.labels u t (taken_node u t)

      ends : (h : Edge) → In h (each (moved f) taken) → (h.from < length (at_places (touches taken) Q.labels)) × (h.to < length (at_places (touches taken) Q.labels))
      ends h i =
          let o = each_in (moved f) taken i in
          let a = touches_by o.1 in
          subst (λ (z : Edge). (z.from < length (at_places (touches taken) Q.labels)) × (z.to < length (at_places (touches taken) Q.labels))) (sym o.2)
          (below o.0.from a.0, below o.0.to a.1)

      touched : (u : ℕ) → u < length (at_places (touches taken) Q.labels) → (e : Edge) × In e (each (moved f) taken) × ((e.from ≡ u) ⊎ (e.to ≡ u))
      touched u l =
          let c = places_from (touches taken) Q.labels u l in
          let r = touches_say taken c.0 c.2 in
          (moved f r.0, in_each (moved f) r.1, ⊎_elim (λ q. inl (ap f q ∙ c.3)) (λ q. inr (ap f q ∙ c.3)) r.2)

  pub part_few : length (part_of takes Q).labels ≤ length Q.labels
  unfolding part_of
  part_few = places_fewer (touches taken) Q.labels

  -- where all edges are taken, it is the query
  pub part_whole : ((e : Edge) → In e Q.edges → T (takes e)) → part_of takes Q ≡ Q
  unfolding part_of
  part_whole all = λ i. record { labels = places_all (touches taken) Q.labels touched i; edges = edges_same i; rule = Q.rule }
    where
      touched : (u : ℕ) → u < length Q.labels → T (touches taken u)
      touched u l = let r = ok.touched u l in touches_at taken (r.0, in_keep takes r.1 (all r.0 r.1), r.2)

      same : (u : ℕ) → u < length Q.labels → f u ≡ u
      same u l = rank_all (touches taken) u λ w k. touched w (omega arith)

      edges_same : each (moved f) taken ≡ Q.edges
      edges_same =
          each_all (moved f) taken (λ e i. let n = taken_ends i in λ j. between (same e.from n.0 j) (same e.to n.1 j) e.kind)
          ∙ keep_all takes Q.edges all

  -- ---- views on it

  in_only : {e : Edge} → In e Q.edges → T (takes e) → In e (only takes (as_graph Q)).edges
  unfolding only as_graph
  in_only i t = in_keep takes i t

  -- read as a graph it is the query with those edges alone, renumbered
  part_renumbered : Renumbered (number (keep takes Q.edges)) (only takes (as_graph Q)) (as_graph (part_of takes Q))
  unfolding only as_graph part_of
  part_renumbered = record {
    moves = refl;
    apart = λ v w a b q. rank_apart (touches taken) v w (touches_at taken a) (touches_at taken b) q;
    old_node = λ v a. omega (arith, taken_node v (touches_at taken a), length_each (λ k. 2 ^ k) Q.labels);
    new_node = λ v a.
        omega (arith, length_each (λ k. 2 ^ k) (at_places (touches taken) Q.labels), rank_below (touches taken) Q.labels v (touches_at taken a) (taken_node v (touches_at taken a)));
    same_label = λ v a.
        ap (λ l. get_or l (f v) 0) (sym (places_each (λ k. 2 ^ k) (touches taken) Q.labels))
        ∙ places_at (touches taken) (each (λ k. 2 ^ k) Q.labels) v 0 (touches_at taken a) (omega (arith, taken_node v (touches_at taken a), length_each (λ k. 2 ^ k) Q.labels));
  }

  -- an edge of it is matched as the edge that it came from is among those taken
  pub part_matches : (P : Pattern) → SoundPattern P → {e g : Edge} → In e Q.edges → T (takes e)
      → Matches P (as_graph (part_of takes Q)) g (as_pair (moved (number (keep takes Q.edges)) e)) ↔ Matches P (only takes (as_graph Q)) g (as_pair e)
  part_matches P s i t = matches_renumbered f (only takes (as_graph Q)) (as_graph (part_of takes Q)) part_renumbered P s (in_only i t)

  module _ (few : length Q.labels ≤ 4096) (Ps : List Pattern) (each_sound : (P : Pattern) → In P Ps → SoundPattern P) where
    pub part_narrow : Narrow (as_graph (part_of takes Q))
    part_narrow = narrow_query (part_of takes Q) part_sound (omega (arith, part_few))

    pub part_to : {e : Edge} → In e Q.edges → T (takes e) → number (keep takes Q.edges) e.to < 4096
    part_to {e} i t = omega (arith, (part_sound.ends (moved f e) (part_in i t)).1, part_few)

    -- an edge that is matched in it is matched in the query
    pub part_inside : (e : Edge) → In e Q.edges → T (takes e) → T (matched (part_of takes Q) Ps (moved (number (keep takes Q.edges)) e)) → T (matched Q Ps e)
    part_inside e i t h =
        let r = matched_say (part_of takes Q) Ps part_narrow (moved f e) (part_to i t) h in
        let m = (part_matches r.0 (each_sound r.0 r.1) i t).0 r.5 in
        matched_listed Q Ps r.0 r.1 e r.2 r.3 r.4
        (row_by r.0 (as_graph Q) (subgraph_matches r.0 (only takes (as_graph Q)) (as_graph Q) (only_subgraph takes (as_graph Q)) m))

    -- so a choice of edges that is covered has matched edges alone
    pub covered_inside : T (covered (part_of takes Q) Ps) → (e : Edge) → In e Q.edges → T (takes e) → T (matched Q Ps e)
    unfolding covered
    covered_inside c e i t = part_inside e i t (every_in _ c (part_in i t))

  -- ---- on any graph it lists at least what the query lists
  module _ (G : Graph) where
    -- partners of its nodes: those of the nodes that they came from
    abbrev By : ℕ → ℕ → Type 0
    By x v = (u : ℕ) × T (touches taken u) × Sim Q G u v × (f u ≡ x)

    by-fit : (x v : ℕ) → By x v → T (fits (part_of takes Q) G (x, v))
    unfolding part_of
    by-fit x v n =
        let s = fits_say Q G ((sim_is Q G).fit n.0 v n.2) in
        subst (λ z. T (fits (part_of takes Q) G (z, v))) n.3
        (fits_by (part_of takes Q) G (record {
          left = rank_below (touches taken) Q.labels n.0 n.1 s.left;
          right = s.right;
          label = subst (λ k. T (bit (get_or G.labels v 0) k)) (sym (places_at (touches taken) Q.labels n.0 0 n.1 s.left)) s.label;
        }))

    by-sim : IsSim (part_of takes Q) G By
    unfolding part_of
    by-sim = record {
      fit = by-fit;
      follow = λ x v n h i q.
          let o = each_in (moved f) taken i in
          let e = o.0 in
          let a = touches_by o.1 in
          let same : e.from ≡ n.0 = rank_apart (touches taken) e.from n.0 a.0 n.1 (sym (ap (λ (z : Edge). z.from) o.2) ∙ q ∙ sym n.3) in
          let k = (sim_is Q G).follow n.0 v n.2 e (keep_in takes Q.edges o.1).0 same in
          (k.0, k.1, k.2, k.3 ∙ sym (ap (λ (z : Edge). z.kind) o.2), (e.to, a.1, k.4, sym (ap (λ (z : Edge). z.to) o.2)));
      arrive = λ b x v n h i q.
          let o = each_in (moved f) taken i in
          let e = o.0 in
          let a = touches_by o.1 in
          let same : e.to ≡ n.0 = rank_apart (touches taken) e.to n.0 a.1 n.1 (sym (ap (λ (z : Edge). z.to) o.2) ∙ q ∙ sym n.3) in
          let k = (sim_is Q G).arrive b n.0 v n.2 e (keep_in takes Q.edges o.1).0 same in
          (k.0, k.1, k.2, k.3 ∙ sym (ap (λ (z : Edge). z.kind) o.2), (e.from, a.0, k.4, sym (ap (λ (z : Edge). z.from) o.2)));
    }

    pub part_matches_more : {e : Edge} {p : Pair} → In e Q.edges → T (takes e) → Matches Q G e p → Matches (part_of takes Q) G (moved (number (keep takes Q.edges)) e) p
    unfolding part_of
    part_matches_more {e} {p} i t m =
        let most = sim_most (part_of takes Q) G By by-sim in
        let a = touches_by (in_keep takes i t) in
        record {
          whole = λ x l.
              let c = places_from (touches taken) Q.labels x l in
              let n = m.whole c.0 c.1 in
              (n.0, most x n.0 (c.0, c.2, n.1, c.3));
          link = m.link;
          edge = m.edge;
          kind = m.kind;
          ends = m.ends;
          tail = most (f e.from) p.0 (e.from, a.0, m.tail, refl);
          head = most (f e.to) p.1 (e.to, a.1, m.head, refl);
        }

    pub part_lists_more : {e : Edge} → In e Q.edges → T (takes e) → {c : ℕ} → In c (ascending (row_of Q G e)) → In c (ascending (row_of (part_of takes Q) G (moved (number (keep takes Q.edges)) e)))
    part_lists_more {e} i t j =
        let r = ascending_say _ j in
        subst (λ z. In z (ascending (row_of (part_of takes Q) G (moved f e)))) (sym r.2) (ascending_by (row_by (part_of takes Q) G (part_matches_more i t (row_say Q G r.1))))

-- ---- the part that can be had: the edges that some view matches
module _ (Q : Pattern) (ok : SoundPattern Q) (few : length Q.labels ≤ 4096) (Ps : List Pattern) (each_sound : (P : Pattern) → In P Ps → SoundPattern P) where
  abbrev H : Graph
  H = as_graph (part_of (matched Q Ps) Q)

  abbrev new : Edge → Edge
  new = moved (number (keep (matched Q Ps) Q.edges))

  -- each of its edges is matched by the edges of views that match the edge that it came from, and by no others
  pub had_matches : {P : Pattern} → In P Ps → {e g : Edge} → In e Q.edges → T (matched Q Ps e) → In g P.edges
      → Matches P (as_graph (part_of (matched Q Ps) Q)) g (as_pair (moved (number (keep (matched Q Ps) Q.edges)) e)) ↔ Matches P (as_graph Q) g (as_pair e)
  had_matches {P} p i t j =
      let m = part_matches Q ok (matched Q Ps) P (each_sound P p) i t in (
        λ h. subgraph_matches P (only (matched Q Ps) (as_graph Q)) (as_graph Q) (only_subgraph (matched Q Ps) (as_graph Q)) (m.0 h),
        λ h. m.1 (matches_stays P (as_graph Q) (matched Q Ps) (λ e g x j k l. matched_listed Q Ps P p e g j k l) j h),
      )

  -- it is covered
  pub had_covered : T (covered (part_of (matched Q Ps) Q) Ps)
  unfolding covered
  had_covered = in_every _ _ λ h i.
      let o = part_from Q ok (matched Q Ps) i in
      let e = o.0 in
      let r = matched_say Q Ps (narrow_query Q ok few) e (omega (arith, (ok.ends e o.1).1)) o.2 in
      subst (λ z. T (matched (part_of (matched Q Ps) Q) Ps z)) (sym o.3)
      (matched_listed (part_of (matched Q Ps) Q) Ps r.0 r.1 (new e) r.2 r.3 r.4 (row_by r.0 H ((had_matches r.1 o.1 o.2 r.3).1 r.5)))

  -- and the same edges of the views match, by their lists
  pub had_is_match : {P : Pattern} → In P Ps → {e g : Edge} → In e Q.edges → T (matched Q Ps e) → In g P.edges
      → is_match (moved (number (keep (matched Q Ps) Q.edges)) e) g (ascending (row_of P (as_graph (part_of (matched Q Ps) Q)) g)) ≡ is_match e g (ascending (row_of P (as_graph Q) g))
  had_is_match {P} p {e} {g} i t j =
      same_test _ _
      (λ h. let s = match_say (new e) g _ h in
      match_by e g s.0 (ascending_by (row_by P (as_graph Q) ((had_matches p i t j).0 (listed H (new e) (part_narrow Q ok (matched Q Ps) few Ps each_sound) (part_to Q ok (matched Q Ps) few Ps each_sound i t) s.1)))))
      (λ h. let s = match_say e g _ h in
      match_by (new e) g s.0 (ascending_by (row_by P H ((had_matches p i t j).1 (listed (as_graph Q) e (narrow_query Q ok few) (omega (arith, (ok.ends e i).1)) s.1)))))
    where
      listed : (K : Graph) (h : Edge) → Narrow K → h.to < 4096 → In (code h.from h.to) (ascending (row_of P K g)) → Matches P K g (as_pair h)
      listed K h n l s = row_say P K (listed_pair {f = as_pair h} (row_of P K g) l (λ x k. (matches_narrow n (row_say P K k)).1) s)

  -- of a covered query it is the query
  pub had_whole : T (covered Q Ps) → part_of (matched Q Ps) Q ≡ Q
  unfolding covered
  had_whole c = part_whole Q ok (matched Q Ps) λ e i. every_in _ c i
