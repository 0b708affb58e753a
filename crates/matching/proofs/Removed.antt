-- Edges that stand in no row of an edge of their kind can be removed, all at once.
use mathlib.Core.Path.{◌≡◌, refl, sym, ap, subst, subst₂, ◌∙◌}
use mathlib.Core.Bool.{Bool, not}
use Prim.Native.Nat.{ℕ}
use lib.Dec.{T, not_T}
use Rattle.packed.specs.Formats.{code}
use Rattle.engine.specs.Lists.{In, keep}
use Rattle.engine.specs.Simulation.{Pair, Edge, same_edge, as_pair, Pattern, Graph, fits, ascending, match_sets, IsSim}
use Rattle.engine.proofs.ByEdge.{row_of}
use Rattle.matching.specs.Join.{without}
use Rattle.engine.proofs.ListLaws.{keep_in, in_keep, each_same}
use Rattle.engine.proofs.SimLaws.{same_edge_lem, fits_say, fits_by, sim_is, sim_most}
use Rattle.engine.proofs.MatchLaws.{Sim, Total, Matches, matches_edge, row_say, row_by, Subgraph}
use Rattle.engine.proofs.CodeLaws.{ascending_by, ascending_same}
use Rattle.matching.proofs.MatchSetLaws.{sets_each, subgraph_matches}

-- G with those of its edges alone that the test takes
unfoldable pub only : (Edge → Bool) → Graph → Graph
only takes G = record { labels = G.labels; edges = keep takes G.edges }

pub only_subgraph : (takes : Edge → Bool) (G : Graph) → Subgraph (only takes G) G
unfolding only
only_subgraph takes G = record { same_labels = refl; more = λ f i. (keep_in _ G.edges i).0 }

pub without_only : (e : Edge) (G : Graph) → without e G ≡ only (λ f. not (same_edge e f)) G
unfolding without only
without_only e G = refl

-- every edge that stands in the row of an edge of its kind is taken
module _ (P : Pattern) (G : Graph) (takes : Edge → Bool)
    (listed : (f g : Edge) → In f G.edges → In g P.edges → g.kind ≡ f.kind → In (as_pair f) (row_of P G g) → T (takes f)) where
  abbrev H : Graph
  H = only takes G

  -- what matches an edge of P stays
  stays_in : (g f : Edge) → In g P.edges → Total P (Sim P G) → In f G.edges → f.kind ≡ g.kind → Sim P G g.from f.from → Sim P G g.to f.to → In f H.edges
  unfolding only
  stays_in g f i t j k a b = in_keep _ j (listed f g j i (sym k) (row_by P G (matches_edge P G g f t j k a b)))

  fit_stays : (u v : ℕ) → Sim P G u v → T (fits P H (u, v))
  unfolding only
  fit_stays u v i = let f = fits_say P G ((sim_is P G).fit u v i) in fits_by P H (record { left = f.left; right = f.right; label = f.label })

  sim_stays : Total P (Sim P G) → IsSim P H (Sim P G)
  sim_stays t = record {
    fit = fit_stays;
    follow = λ u v i g j q.
        let n = (sim_is P G).follow u v i g j q in
        (n.0, stays_in g n.0 j t n.1 n.3 (subst₂ (Sim P G) (sym q) (sym n.2) i) n.4, n.2, n.3, n.4);
    arrive = λ b u v i g j q.
        let n = (sim_is P G).arrive b u v i g j q in
        (n.0, stays_in g n.0 j t n.1 n.3 n.4 (subst₂ (Sim P G) (sym q) (sym n.2) i), n.2, n.3, n.4);
  }

  pub matches_stays : {g : Edge} {f : Pair} → In g P.edges → Matches P G g f → Matches P (only takes G) g f
  matches_stays {g} {f} i m =
      let down : (u v : ℕ) → Sim P G u v → Sim P H u v = sim_most P H (Sim P G) (sim_stays m.whole) in
      record {
        whole = λ u l. let p = m.whole u l in (p.0, down u p.0 p.1);
        link = m.link;
        edge = stays_in g m.link i m.whole m.edge m.kind (subst (λ (z : Pair). Sim P G g.from z.0) m.ends m.tail) (subst (λ (z : Pair). Sim P G g.to z.1) m.ends m.head);
        kind = m.kind;
        ends = m.ends;
        tail = down g.from f.0 m.tail;
        head = down g.to f.1 m.head;
      }

  -- the others can be removed, and no match set changes
  pub only_sets : match_sets P G ≡ match_sets P (only takes G)
  only_sets = sets_each P G ∙ each_same _ _ P.edges set ∙ sym (sets_each P H)
    where
      set : (g : Edge) → In g P.edges → ascending (row_of P G g) ≡ ascending (row_of P (only takes G) g)
      set g i =
          ascending_same (row_of P G g) (row_of P H g)
          (λ f j. row_by P H (matches_stays i (row_say P G j)))
          (λ f j. row_by P G (subgraph_matches P H G (only_subgraph takes G) (row_say P H j)))

-- one edge, whose code stands in the match set of no edge of its kind
pub unlisted_removed : (P : Pattern) (G : Graph) (e : Edge) → ((g : Edge) → In g P.edges → g.kind ≡ e.kind → In (code e.from e.to) (ascending (row_of P G g)) → ⊥)
    → match_sets P G ≡ match_sets P (without e G)
unlisted_removed P G e n =
    only_sets P G (λ f. not (same_edge e f))
    (λ f g i j k l. not_T (same_edge e f) λ t.
    let q : f ≡ e = sym (same_edge_lem e f t) in
    n g j (k ∙ ap (λ (z : Edge). z.kind) q) (subst (λ (z : Edge). In (code z.from z.to) (ascending (row_of P G g))) q (ascending_by l)))
    ∙ ap (match_sets P) (sym (without_only e G))
