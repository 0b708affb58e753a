-- Edges of a query that no view matches: the views' sheets don't tell the query from the query without them, and the query's own sheet does.
use mathlib.Core.Path.{◌≡◌, refl, sym, ap, subst, ◌∙◌}
use mathlib.Core.Bool.{Bool, not}
use mathlib.Core.List.{List}
use Prim.Native.Nat.{ℕ, ◌^◌, ◌≤◌, ◌<◌}
use native.Mathlib.Omega.{arith}
use lib.ListN.{length, get_or}
use lib.Dec.{T, T_not, not_T}
use Rattle.packed.specs.Formats.{code}
use Rattle.engine.specs.Lists.{In}
use Rattle.engine.specs.Simulation.{Pair, Edge, same_edge, as_pair, bit, Pattern, Graph, as_graph, fits, ascending, match_sets, view_sheet, IsSim, sound}
use Rattle.engine.proofs.ByEdge.{row_of}
use Rattle.matching.specs.Join.{is_match, some_match, matched_by, matched, without}
use Rattle.engine.proofs.ListLaws.{keep_in, in_some, each_agree, length_each, get_d_each}
use Rattle.engine.proofs.Masks.{bit_self}
use Rattle.engine.proofs.SimLaws.{same_edge_lem, same_edge_refl, pair_edge, FitsInto, fits_by, sim_most}
use Rattle.engine.proofs.MatchLaws.{Matches, matches_edge, row_say, row_by, SoundPattern, sound_say}
use Rattle.engine.proofs.CodeLaws.{code_same, ascending_say, ascending_by}
use Rattle.matching.proofs.MatchSetLaws.{Narrow, sets_each, view_each, view_same}
use Rattle.matching.proofs.Removed.{only, without_only, only_sets}
use Rattle.matching.proofs.JoinLaws.{match_by, some_match_each}
use Rattle.matching.proofs.Covered.{narrow_query}

-- an edge that stands in the row of an edge of its kind of a view is matched
pub matched_listed : (Q : Pattern) (Ps : List Pattern) (P : Pattern) → In P Ps → (e g : Edge) → In g P.edges → g.kind ≡ e.kind → In (as_pair e) (row_of P (as_graph Q) g) → T (matched Q Ps e)
unfolding matched matched_by
matched_listed Q Ps P i e g j k l =
    let list : Edge → List ℕ = λ h. ascending (row_of P (as_graph Q) h) in
    let q = ap (some_match e P.edges) (view_each P (as_graph Q)) ∙ some_match_each e list P.edges in
    in_some _ i (subst T (sym q) (in_some (λ h. is_match e h (list h)) j (match_by e g k (ascending_by l))))

-- no view's sheet changes where edges go that no view matches
pub matched_views : (Q : Pattern) (Ps : List Pattern) (takes : Edge → Bool) → ((e : Edge) → In e Q.edges → T (matched Q Ps e) → T (takes e)) → (P : Pattern) → In P Ps
    → view_sheet P (as_graph Q) ≡ view_sheet P (only takes (as_graph Q))
unfolding as_graph
matched_views Q Ps takes h P i =
    view_same P (as_graph Q) (only takes (as_graph Q)) (only_sets P (as_graph Q) takes λ f g x j k l. h f x (matched_listed Q Ps P i f g j k l))

pub uncovered_views : (Q : Pattern) (Ps : List Pattern) (e : Edge) → (T (matched Q Ps e) → ⊥) → (P : Pattern) → In P Ps → view_sheet P (as_graph Q) ≡ view_sheet P (without e (as_graph Q))
uncovered_views Q Ps e n P i =
    matched_views Q Ps (λ f. not (same_edge e f)) (λ f j t. not_T (same_edge e f) λ s. n (subst (λ z. T (matched Q Ps z)) (sym (same_edge_lem e f s)) t)) P i
    ∙ ap (view_sheet P) (sym (without_only e (as_graph Q)))

module _ (Q : Pattern) (ok : SoundPattern Q) where
  -- each node of Q as its own partner
  Own : ℕ → ℕ → Type 0
  Own u v = (u ≡ v) × (u < length Q.labels)

  own_sim : IsSim Q (as_graph Q) Own
  unfolding as_graph Own
  own_sim = record {
    fit = λ u v r. subst (λ z. T (fits Q (as_graph Q) (u, z))) r.0 (fits_by Q (as_graph Q) (own u r.1));
    follow = λ u v r e i q. (e, i, q ∙ r.0, refl, (refl, (ok.ends e i).1));
    arrive = λ t u v r e i q. (e, i, q ∙ r.0, refl, (refl, (ok.ends e i).0));
  }
    where
      own : (u : ℕ) → u < length Q.labels → FitsInto Q (as_graph Q) u u
      own u l = record {
        left = l;
        right = omega (arith, length_each (λ k. 2 ^ k) Q.labels);
        label = subst (λ m. T (bit m (get_or Q.labels u 0))) (sym (get_d_each (λ k. 2 ^ k) Q.labels u 0 0 l)) (bit_self _);
      }

  -- a pattern's edge matches itself
  pub matches_self : {e : Edge} → In e Q.edges → Matches Q (as_graph Q) e (as_pair e)
  unfolding as_graph Own
  matches_self {e} i =
      matches_edge Q (as_graph Q) e e (λ u l. (u, sim_most Q (as_graph Q) Own own_sim u u (refl, l))) i refl
      (sim_most Q (as_graph Q) Own own_sim e.from e.from (refl, (ok.ends e i).0))
      (sim_most Q (as_graph Q) Own own_sim e.to e.to (refl, (ok.ends e i).1))

-- the list of no edge of its kind has the code of a removed edge
pub removed_unlisted : (P : Pattern) (G : Graph) → Narrow G → (e : Edge) → e.to < 4096 → (g : Edge) → g.kind ≡ e.kind → In (code e.from e.to) (ascending (row_of P (without e G) g)) → ⊥
unfolding without
removed_unlisted P G n e h g s j = of_pair (ascending_say _ j)
  where
    of_pair : (f : Pair) × In f (row_of P (without e G) g) × (code e.from e.to ≡ code f.0 f.1) → ⊥
    of_pair (f, k, q) =
        let r = row_say P (without e G) k in
        let m = keep_in _ G.edges r.edge in
        let p : as_pair e ≡ as_pair r.link = code_same h (n r.link m.0).1 (q ∙ ap (λ (x : Pair). code x.0 x.1) r.ends) in
        T_not (same_edge e r.link) m.1 (subst (λ z. T (same_edge e z)) (pair_edge p (sym (r.kind ∙ s))) (same_edge_refl e))

-- the query's own do
pub uncovered_query : (Q : Pattern) → T (sound Q) → length Q.labels ≤ 4096 → (e : Edge) → In e Q.edges → match_sets Q (as_graph Q) ≡ match_sets Q (without e (as_graph Q)) → ⊥
uncovered_query Q s h e i q =
    let ok = sound_say Q s in
    let p : ascending (row_of Q (as_graph Q) e) ≡ ascending (row_of Q (without e (as_graph Q)) e) = each_agree _ _ (sym (sets_each Q (as_graph Q)) ∙ q ∙ sets_each Q (without e (as_graph Q))) i in
    removed_unlisted Q (as_graph Q) (narrow_query Q ok h) e (omega (arith, (ok.ends e i).1)) e refl
    (subst (λ l. In (code e.from e.to) l) p (ascending_by (row_by Q (as_graph Q) (matches_self Q ok i))))
