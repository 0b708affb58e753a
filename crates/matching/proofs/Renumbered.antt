-- A graph whose nodes are renumbered, with those at no edge left out, has the same lists, renumbered.
use mathlib.Core.Path.{◌≡◌, refl, sym, ap, subst, subst₂, ◌∙◌}
use mathlib.Core.Logic.{◌⊎◌, inl, inr, ◌↔◌}
use Prim.Native.Nat.{ℕ, ◌<◌}
use lib.ListN.{length, get_or}
use lib.Dec.{T}
use Rattle.engine.specs.Lists.{In, each}
use Rattle.engine.specs.Simulation.{Pair, Edge, as_pair, bit, Pattern, Graph, fits, ascending, match_sets, IsSim}
use Rattle.matching.specs.Part.{moved}
use Rattle.engine.proofs.ByEdge.{row_of}
use Rattle.engine.proofs.ListLaws.{each_in, in_each, each_same}
use Rattle.engine.proofs.SimLaws.{fits_say, fits_by, sim_is, sim_most}
use Rattle.engine.proofs.MatchLaws.{Sim, Total, Matches, matches_edge, row_say, row_by, SoundPattern}
use Rattle.engine.proofs.CodeLaws.{ascending_same}
use Rattle.matching.proofs.MatchSetLaws.{sets_each}

-- v is an end of an edge
abbrev pub AtEdge : Graph → ℕ → Type 0
AtEdge G v = (e : Edge) × In e G.edges × ((e.from ≡ v) ⊎ (e.to ≡ v))

abbrev pub moved_pair : (ℕ → ℕ) → Pair → Pair
moved_pair f p = (f p.0, f p.1)

-- H has the edges of G between the nodes with the numbers f: different ends have different numbers, and each keeps its labels. Nothing is said of nodes at no edge,
-- which may differ: a simulation may lose them, and no list changes
pub record Renumbered (f : ℕ → ℕ) (G H : Graph) : Type 0 where
  pub moves : H.edges ≡ each (moved f) G.edges
  pub apart : (v w : ℕ) → AtEdge G v → AtEdge G w → f v ≡ f w → v ≡ w
  pub old_node : (v : ℕ) → AtEdge G v → v < length G.labels
  pub new_node : (v : ℕ) → AtEdge G v → f v < length H.labels
  pub same_label : (v : ℕ) → AtEdge G v → get_or H.labels (f v) 0 ≡ get_or G.labels v 0

module _ (f : ℕ → ℕ) (G H : Graph) (r : Renumbered f G H) where
  edge_new : {e : Edge} → In e G.edges → In (moved f e) H.edges
  edge_new {e} i = subst (λ l. In (moved f e) l) (sym r.moves) (in_each (moved f) i)

  edge_old : {h : Edge} → In h H.edges → (e : Edge) × In e G.edges × (h ≡ moved f e)
  edge_old {h} i = each_in (moved f) G.edges (subst (λ l. In h l) r.moves i)

  module _ (P : Pattern) where
    -- partners in H: the numbers of those partners in G that are at an edge
    abbrev New : ℕ → ℕ → Type 0
    New u x = (v : ℕ) × AtEdge G v × Sim P G u v × (f v ≡ x)

    new-sim : IsSim P H New
    new-sim = record {
      fit = λ u x n.
          let s = fits_say P G ((sim_is P G).fit u n.0 n.2) in
          subst (λ z. T (fits P H (u, z))) n.3
          (fits_by P H (record {
            left = s.left;
            right = r.new_node n.0 n.1;
            label = subst (λ m. T (bit m (get_or P.labels u 0))) (sym (r.same_label n.0 n.1)) s.label;
          }));
      follow = λ u x n e i q.
          let k = (sim_is P G).follow u n.0 n.2 e i q in
          (moved f k.0, edge_new k.1, ap f k.2 ∙ n.3, k.3, (k.0.to, (k.0, k.1, inr refl), k.4, refl));
      arrive = λ b u x n e i q.
          let k = (sim_is P G).arrive b u n.0 n.2 e i q in
          (moved f k.0, edge_new k.1, ap f k.2 ∙ n.3, k.3, (k.0.from, (k.0, k.1, inl refl), k.4, refl));
    }

    -- partners in G: the ends of edges whose numbers are partners in H
    abbrev Old : ℕ → ℕ → Type 0
    Old u v = AtEdge G v × Sim P H u (f v)

    old-sim : IsSim P G Old
    old-sim = record {
      fit = λ u v n.
          let s = fits_say P H ((sim_is P H).fit u (f v) n.1) in
          fits_by P G (record {
            left = s.left;
            right = r.old_node v n.0;
            label = subst (λ m. T (bit m (get_or P.labels u 0))) (r.same_label v n.0) s.label;
          });
      follow = λ u v n e i q.
          let k = (sim_is P H).follow u (f v) n.1 e i q in
          let o = edge_old k.1 in (
            o.0,
            o.1,
            r.apart o.0.from v (o.0, o.1, inl refl) n.0 (sym (ap (λ (z : Edge). z.from) o.2) ∙ k.2),
            sym (ap (λ (z : Edge). z.kind) o.2) ∙ k.3,
            ((o.0, o.1, inr refl), subst (λ (z : Edge). Sim P H e.to z.to) o.2 k.4),
          );
      arrive = λ b u v n e i q.
          let k = (sim_is P H).arrive b u (f v) n.1 e i q in
          let o = edge_old k.1 in (
            o.0,
            o.1,
            r.apart o.0.to v (o.0, o.1, inr refl) n.0 (sym (ap (λ (z : Edge). z.to) o.2) ∙ k.2),
            sym (ap (λ (z : Edge). z.kind) o.2) ∙ k.3,
            ((o.0, o.1, inl refl), subst (λ (z : Edge). Sim P H e.from z.from) o.2 k.4),
          );
    }

    module _ (ok : SoundPattern P) where
      -- where all nodes of P have partners, each has one that is at an edge
      at_edge : (K : Graph) → Total P (Sim P K) → (u : ℕ) → u < length P.labels → (v : ℕ) × AtEdge K v × Sim P K u v
      at_edge K t u l = let c = ok.touched u l in which c.0 c.1 c.2
        where
          at-end : (e h : Edge) → In h K.edges → Sim P K e.from h.from → Sim P K e.to h.to → (e.from ≡ u) ⊎ (e.to ≡ u) → (v : ℕ) × AtEdge K v × Sim P K u v
          at-end e h j a b (inl q) = (h.from, (h, j, inl refl), subst (λ w. Sim P K w h.from) q a)
          at-end e h j a b (inr q) = (h.to, (h, j, inr refl), subst (λ w. Sim P K w h.to) q b)

          which : (e : Edge) → In e P.edges → (e.from ≡ u) ⊎ (e.to ≡ u) → (v : ℕ) × AtEdge K v × Sim P K u v
          which e i c =
              let a = t e.from (ok.ends e i).0 in
              let k = (sim_is P K).follow e.from a.0 a.1 e i refl in
              at-end e k.0 k.1 (subst (Sim P K e.from) (sym k.2) a.1) k.4 c

      old-end : {x : ℕ} → AtEdge H x → (v : ℕ) × AtEdge G v × (x ≡ f v)
      old-end (h, i, inl q) = let o = edge_old i in (o.0.from, (o.0, o.1, inl refl), sym q ∙ ap (λ (z : Edge). z.from) o.2)
      old-end (h, i, inr q) = let o = edge_old i in (o.0.to, (o.0, o.1, inr refl), sym q ∙ ap (λ (z : Edge). z.to) o.2)

      pub matches_new : {e : Edge} {p : Pair} → Matches P G e p → Matches P H e (moved_pair f p)
      matches_new {e} {p} m = record {
        whole = λ u l. let a = at_edge G m.whole u l in (f a.0, sim_most P H New new-sim u (f a.0) (a.0, a.1, a.2, refl));
        link = moved f m.link;
        edge = edge_new m.edge;
        kind = m.kind;
        ends = ap (moved_pair f) m.ends;
        tail = sim_most P H New new-sim e.from (f p.0) (p.0, (m.link, m.edge, inl (sym (ap (λ (z : Pair). z.0) m.ends))), m.tail, refl);
        head = sim_most P H New new-sim e.to (f p.1) (p.1, (m.link, m.edge, inr (sym (ap (λ (z : Pair). z.1) m.ends))), m.head, refl);
      }

      pub matches_old : {e : Edge} {x : Pair} → Matches P H e x → (p : Pair) × Matches P G e p × (x ≡ moved_pair f p)
      matches_old {e} {x} m =
          let o = edge_old m.edge in
          let g = o.0 in
          let q : x ≡ moved_pair f (as_pair g) = m.ends ∙ ap as_pair o.2 in (
            as_pair g,
            matches_edge P G e g
                (λ u l. let a = at_edge H m.whole u l in let b = old-end a.1 in (b.0, sim_most P G Old old-sim u b.0 (b.1, subst (Sim P H u) b.2 a.2)))
                o.1
                (sym (ap (λ (z : Edge). z.kind) o.2) ∙ m.kind)
                (sim_most P G Old old-sim e.from g.from ((g, o.1, inl refl), subst (λ (z : Pair). Sim P H e.from z.0) q m.tail))
                (sim_most P G Old old-sim e.to g.to ((g, o.1, inr refl), subst (λ (z : Pair). Sim P H e.to z.1) q m.head)),
            q,
          )

      -- each list has the renumbered pairs
      pub renumbered_sets : match_sets P H ≡ each (λ e. ascending (each (moved_pair f) (row_of P G e))) P.edges
      renumbered_sets = sets_each P H ∙ each_same _ _ P.edges (λ e i. list e)
        where
          list : (e : Edge) → ascending (row_of P H e) ≡ ascending (each (moved_pair f) (row_of P G e))
          list e =
              ascending_same (row_of P H e) (each (moved_pair f) (row_of P G e))
              (λ x i. let o = matches_old (row_say P H i) in subst (λ z. In z (each (moved_pair f) (row_of P G e))) (sym o.2) (in_each (moved_pair f) (row_by P G o.1)))
              (λ x i. let o = each_in (moved_pair f) (row_of P G e) i in subst (λ z. In z (row_of P H e)) (sym o.2) (row_by P H (matches_new (row_say P G o.1))))

      -- the ends of an edge of G match exactly if their numbers do
      pub matches_renumbered : {e g : Edge} → In e G.edges → Matches P H g (as_pair (moved f e)) ↔ Matches P G g (as_pair e)
      matches_renumbered {e} {g} i = (back, matches_new)
        where
          back : Matches P H g (as_pair (moved f e)) → Matches P G g (as_pair e)
          back m =
              let o = matches_old m in
              let n = o.1 in
              let y : o.0.0 ≡ e.from = r.apart _ _ (n.link, n.edge, inl (sym (ap (λ (z : Pair). z.0) n.ends))) (e, i, inl refl) (sym (ap (λ (z : Pair). z.0) o.2)) in
              let z : o.0.1 ≡ e.to = r.apart _ _ (n.link, n.edge, inr (sym (ap (λ (z : Pair). z.1) n.ends))) (e, i, inr refl) (sym (ap (λ (z : Pair). z.1) o.2)) in
              subst₂ (λ c d. Matches P G g (c, d)) y z n
