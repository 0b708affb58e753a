-- An edge that enters a graph changes a view's lists exactly if the new list of an edge of its kind has it: no old list need be looked at.
use mathlib.Core.Path.{◌≡◌, refl, sym, ap, subst, ◌∙◌}
use mathlib.Core.Bool.{Bool, true, false, not}
use mathlib.Core.List.{List, [], ◌∷◌, ◌++◌}
use Prim.Native.Nat.{ℕ, ◌<◌}
use lib.Dec.{T, T_not, not_T}
use Rattle.packed.specs.Formats.{code}
use Rattle.engine.specs.Lists.{In, here, there, keep, put, some}
use Rattle.engine.specs.Simulation.{Edge, same_edge, Pattern, Graph, ascending, view_sheet}
use Rattle.matching.specs.Join.{is_match, some_match, without}
use Rattle.engine.proofs.ByEdge.{row_of}
use Rattle.engine.proofs.ListLaws.{in_cast, put_all, keep_all, each_agree, some_in, in_some}
use Rattle.engine.proofs.SimLaws.{same_edge_lem, same_edge_refl}
use Rattle.matching.proofs.MatchSetLaws.{Narrow, view_each, view_same}
use Rattle.matching.proofs.Removed.{unlisted_removed}
use Rattle.matching.proofs.Uncovered.{removed_unlisted}
use Rattle.matching.proofs.JoinLaws.{match_say, match_by, some_match_each}

-- the edge e at its place among others
abbrev pub entered : Graph → List Edge → Edge → List Edge → Graph
entered G before e after = record { labels = G.labels; edges = before ++ (e ∷ after) }

put_no : {A : Type 0} (b : Bool) (x : A) (l : List A) → (T b → ⊥) → put b x l ≡ l
put_no true x l h = absurd (h tt)
put_no false x l h = refl

-- without the edge the others are left, where it stands once
keep_entered : (e : Edge) (l m : List Edge) → (In e (l ++ m) → ⊥) → keep (λ f. not (same_edge e f)) (l ++ (e ∷ m)) ≡ l ++ m
unfolding keep
keep_entered e [] m n =
    put_no (not (same_edge e e)) e _ (λ t. T_not (same_edge e e) t (same_edge_refl e))
    ∙ keep_all _ m (λ x i. not_T (same_edge e x) (λ t. n (in_cast (sym (same_edge_lem e x t)) i)))
keep_entered e (x ∷ l) m n =
    put_all (not (same_edge e x)) x _ (not_T (same_edge e x) (λ t. n (here (same_edge_lem e x t)))) ∙ ap (λ k. x ∷ k) (keep_entered e l m (λ i. n (there i)))

-- the graph without it is the graph as it was
pub entered_without : (G : Graph) (before after : List Edge) (e : Edge) → G.edges ≡ before ++ after → (In e G.edges → ⊥) → without e (entered G before e after) ≡ G
unfolding without
entered_without G before after e place new = λ i. record { labels = G.labels; edges = (keep_entered e before after (λ j. new (subst (λ l. In e l) (sym place) j)) ∙ sym place) i }

-- the lists of P on G are those without the edge e, exactly if it matches no edge of P by them; by the rule of P
module _ (P : Pattern) (G : Graph) (e : Edge) where
  abbrev list : Graph → Edge → List ℕ
  list H g = ascending (row_of P H g)

  matched_is : some_match e P.edges (view_sheet P G) ≡ some (λ g. is_match e g (list G g)) P.edges
  matched_is = ap (some_match e P.edges) (view_each P G) ∙ some_match_each e (list G) P.edges

  pub unmatched_stays : (T (some_match e P.edges (view_sheet P G)) → ⊥) → view_sheet P (without e G) ≡ view_sheet P G
  unmatched_stays n =
      sym (view_same P G (without e G) (unlisted_removed P G e (λ g i k j. n (subst T (sym matched_is) (in_some (λ g. is_match e g (list G g)) i (match_by e g k j))))))

  pub matched_changes : Narrow G → e.to < 4096 → T (some_match e P.edges (view_sheet P G)) → view_sheet P (without e G) ≡ view_sheet P G → ⊥
  matched_changes n h t q =
      let r = some_in (λ g. is_match e g (list G g)) P.edges (subst T matched_is t) in
      let g = r.0 in
      let s = match_say e g (list G g) r.2 in
      removed_unlisted P G n e h g s.0
      (subst (λ l. In (code e.from e.to) l) (each_agree _ _ (sym (view_each P G) ∙ sym q ∙ view_each P (without e G)) r.1) s.1)
