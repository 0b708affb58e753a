-- What it is for an edge of a graph to match an edge of a pattern; fewer edges, fewer matches; composition; what `sound` says.
use mathlib.Core.Path.{◌≡◌, refl, sym, subst, ◌∙◌}
use mathlib.Core.Logic.{◌⊎◌, inl, inr}
use mathlib.Core.List.{List, []}
use Prim.Native.Nat.{ℕ, ◌^◌, ◌<◌}
use native.Mathlib.Omega.{arith}
use lib.ListN.{length, get_or}
use lib.Dec.{T, eqb, eqb→eq, eqb_refl, ltb→lt, lt→ltb}
use Rattle.engine.specs.Lists.{◌or◌, In, below}
use Rattle.engine.specs.Simulation.{Pair, Edge, as_pair, bit, both_ways, Pattern, Graph, as_graph, sim, total, row, IsSim, MatchingBy, sound}
use Rattle.engine.proofs.ByEdge.{row_of}
use Rattle.engine.proofs.ListLaws.{and_left, and_right, both, or_left, or_right, or_cases, equal_test, cond_case, not_in_none, in_cast, every_in, in_every, some_in, in_some, keep_in, in_keep, each_in, in_each, length_each, get_d_each, below_in, in_below}
use Rattle.engine.proofs.Masks.{bit_one}
use Rattle.engine.proofs.SimLaws.{has_in, in_has, FitsInto, fits_say, fits_by, sim_is, sim_most}

abbrev pub Sim : Pattern → Graph → ℕ → ℕ → Type 0
Sim P G u v = In (u, v) (sim P G)

-- every node of P has a partner in R
abbrev pub Total : Pattern → (ℕ → ℕ → Type 0) → Type 0
Total P R = (u : ℕ) → u < length P.labels → (v : ℕ) × R u v

module _ (P : Pattern) (s : List Pair) where
  pub total_say : T (total P s) → Total P (λ u v. In (u, v) s)
  unfolding total
  total_say h u l =
      let r = some_in _ s (every_in _ h (in_below _ u l)) in
      (r.0.1, subst (λ z. In (z, r.0.1) s) (eqb→eq r.0.0 u r.2) r.1)

  pub total_by : Total P (λ u v. In (u, v) s) → T (total P s)
  unfolding total
  total_by f = in_every _ _ λ u i. in_some _ (f u (below_in _ i)).1 (eqb_refl u)

-- the pair f matches the edge e of P by the greatest simulation
abbrev pub Matches : Pattern → Graph → Edge → Pair → Type 0
Matches P G = MatchingBy (Sim P G) P G

module _ (P : Pattern) (G : Graph) where
  pub row_in : {e : Edge} {f : Pair} → In f (row G (sim P G) e) → (h : Edge) × In h G.edges × (f ≡ as_pair h) × (h.kind ≡ e.kind) × Sim P G e.from h.from × Sim P G e.to h.to
  unfolding row
  row_in {e} i =
      let r = each_in as_pair _ i in
      let k = keep_in _ G.edges r.1 in
      let b = and_right _ _ k.1 in
      (r.0, k.0, r.2, eqb→eq r.0.kind e.kind (and_left _ _ k.1), has_in _ (and_left _ _ b), has_in _ (and_right _ _ b))

  pub in_row : (e h : Edge) → In h G.edges → h.kind ≡ e.kind → Sim P G e.from h.from → Sim P G e.to h.to → In (as_pair h) (row G (sim P G) e)
  unfolding row
  in_row e h i k a b = in_each as_pair (in_keep _ i (both _ _ (equal_test h.kind k) (both _ _ (in_has a) (in_has b))))

  -- an edge of G, by its ends
  pub matches_edge : (e h : Edge) → Total P (Sim P G) → In h G.edges → h.kind ≡ e.kind → Sim P G e.from h.from → Sim P G e.to h.to → Matches P G e (as_pair h)
  matches_edge e h t i k a b = record { whole = t; link = h; edge = i; kind = k; ends = refl; tail = a; head = b }

  pub row_say : {e : Edge} {f : Pair} → In f (row_of P G e) → Matches P G e f
  unfolding row_of
  row_say {e} {f} =
      cond_case (λ l. In f l → Matches P G e f) (total P (sim P G)) (row G (sim P G) e) []
      (λ t i. let k = row_in i in subst (Matches P G e) (sym k.2) (matches_edge e k.0 (total_say P (sim P G) t) k.1 k.3 k.4 k.5))
      (λ t i. absurd (not_in_none i))

  pub row_by : {e : Edge} {f : Pair} → Matches P G e f → In f (row_of P G e)
  unfolding row_of
  row_by {e} {f} h =
      cond_case (λ l. In f l) (total P (sim P G)) (row G (sim P G) e) []
      (λ t. in_cast (sym h.ends)
      (in_row e h.link h.edge h.kind (subst (λ z. Sim P G e.from z.0) h.ends h.tail) (subst (λ z. Sim P G e.to z.1) h.ends h.head)))
      (λ t. absurd (t (total_by P (sim P G) h.whole)))

-- G is a subgraph of H: the same nodes, perhaps fewer edges
pub record Subgraph (G H : Graph) : Type 0 where
  pub same_labels : G.labels ≡ H.labels
  pub more : (f : Edge) → In f G.edges → In f H.edges

pub subgraph_sim : (P : Pattern) (G H : Graph) (R : ℕ → ℕ → Type 0) → Subgraph G H → IsSim P G R → IsSim P H R
subgraph_sim P G H R m s = record {
  fit = λ u v r. let f = fits_say P G (s.fit u v r) in fits_by P H (record {
    left = f.left;
    right = subst (λ l. v < length l) m.same_labels f.right;
    label = subst (λ l. T (bit (get_or l v 0) (get_or P.labels u 0))) m.same_labels f.label;
  });
  follow = λ u v r e i q. let n = s.follow u v r e i q in (n.0, m.more n.0 n.1, n.2, n.3, n.4);
  arrive = λ t u v r e i q. let n = s.arrive t u v r e i q in (n.0, m.more n.0 n.1, n.2, n.3, n.4);
}

pub subgraph_fewer : (P : Pattern) (G H : Graph) → Subgraph G H → (u v : ℕ) → Sim P G u v → Sim P H u v
subgraph_fewer P G H m u v i = sim_most P H (Sim P G) (subgraph_sim P G H (Sim P G) m (sim_is P G)) u v i

-- the label of a node of a pattern read as a graph
pub own_label : (P Q : Pattern) {w u : ℕ} → FitsInto P (as_graph Q) w u → get_or P.labels w 0 ≡ get_or Q.labels u 0
unfolding as_graph
own_label P Q {w} {u} f =
    let r : u < length Q.labels = omega (arith, f.right, length_each (λ k. 2 ^ k) Q.labels) in
    bit_one _ _ (subst (λ m. T (bit m (get_or P.labels w 0))) (get_d_each (λ k. 2 ^ k) Q.labels u 0 0 r) f.label)

-- through a node of Q that has the label of P's
pub fits_through : (P Q : Pattern) (G : Graph) {w u v : ℕ} → FitsInto P (as_graph Q) w u → FitsInto Q G u v → FitsInto P G w v
fits_through P Q G {v = v} f g = record {
  left = f.left;
  right = g.right;
  label = subst (λ k. T (bit (get_or G.labels v 0) k)) (sym (own_label P Q f)) g.label;
}

-- the rule of P asks no more than that of Q: a simulation both ways is one one-way
abbrev pub Weaker : Pattern → Pattern → Type 0
Weaker P Q = P.rule ≡ both_ways → Q.rule ≡ both_ways

pub compose : (P Q : Pattern) (G : Graph) → Weaker P Q → (R S : ℕ → ℕ → Type 0) → IsSim P (as_graph Q) R → IsSim Q G S → IsSim P G (λ w v. (u : ℕ) × R w u × S u v)
unfolding as_graph
compose P Q G weaker R S r s = record {
  fit = λ w v p. fits_by P G (fits_through P Q G (fits_say P (as_graph Q) (r.fit w p.0 p.1)) (fits_say Q G (s.fit p.0 v p.2)));
  follow = λ w v p x i q.
      let a = r.follow w p.0 p.1 x i q in
      let b = s.follow p.0 v p.2 a.0 a.1 a.2 in
      (b.0, b.1, b.2, b.3 ∙ a.3, (a.0.to, a.4, b.4));
  arrive = λ t w v p x i q.
      let a = r.arrive t w p.0 p.1 x i q in
      let b = s.arrive (weaker t) p.0 v p.2 a.0 a.1 a.2 in
      (b.0, b.1, b.2, b.3 ∙ a.3, (a.0.from, a.4, b.4));
}

-- the greatest simulation of P in Q, followed by that of Q in G, lies in that of P in G
pub sim_through : (P Q : Pattern) (G : Graph) → Weaker P Q → (w u v : ℕ) → Sim P (as_graph Q) w u → Sim Q G u v → Sim P G w v
sim_through P Q G weaker w u v i j =
    sim_most P G (λ a c. (b : ℕ) × Sim P (as_graph Q) a b × Sim Q G b c) (compose P Q G weaker (Sim P (as_graph Q)) (Sim Q G) (sim_is P (as_graph Q)) (sim_is Q G)) w v (u, i, j)

-- an edge that matches an edge that matches an edge of its kind
pub matches_through : (P Q : Pattern) (G : Graph) → Weaker P Q → (g e : Edge) (f : Pair) → g.kind ≡ e.kind → Matches P (as_graph Q) g (as_pair e) → Matches Q G e f → Matches P G g f
unfolding as_graph
matches_through P Q G weaker g e f k a b = record {
  whole = λ w l.
      let p = a.whole w l in
      let q = b.whole p.0 (omega (arith, (fits_say P (as_graph Q) ((sim_is P (as_graph Q)).fit w p.0 p.1)).right, length_each (λ k. 2 ^ k) Q.labels)) in
      (q.0, sim_through P Q G weaker w p.0 q.0 p.1 q.1);
  link = b.link;
  edge = b.edge;
  kind = b.kind ∙ sym k;
  ends = b.ends;
  tail = sim_through P Q G weaker g.from e.from f.0 a.tail b.tail;
  head = sim_through P Q G weaker g.to e.to f.1 a.head b.head;
}

-- what `sound` says
pub record SoundPattern (P : Pattern) : Type 0 where
  pub ends : (e : Edge) → In e P.edges → (e.from < length P.labels) × (e.to < length P.labels)
  pub touched : (u : ℕ) → u < length P.labels → (e : Edge) × In e P.edges × ((e.from ≡ u) ⊎ (e.to ≡ u))

pub sound_say : (P : Pattern) → T (sound P) → SoundPattern P
unfolding sound
sound_say P h = record {
  ends = λ e i. let r = every_in _ (and_left _ _ h) i in (ltb→lt e.from _ (and_left _ _ r), ltb→lt e.to _ (and_right _ _ r));
  touched = λ u l.
      let r = some_in _ P.edges (every_in _ (and_right _ _ h) (in_below _ u l)) in
      (r.0, r.1, which r.0 u (or_cases _ _ r.2));
}
  where
    which : (e : Edge) (u : ℕ) → T (eqb e.from u) ⊎ T (eqb e.to u) → (e.from ≡ u) ⊎ (e.to ≡ u)
    which e u (inl t) = inl (eqb→eq e.from u t)
    which e u (inr t) = inr (eqb→eq e.to u t)

pub sound_by : (P : Pattern) → SoundPattern P → T (sound P)
unfolding sound
sound_by P s =
    both _ _
    (in_every _ P.edges λ e i. let r = s.ends e i in both _ _ (lt→ltb e.from _ r.0) (lt→ltb e.to _ r.1))
    (in_every _ (below (length P.labels)) λ u i. let r = s.touched u (below_in _ i) in in_some _ r.1 (which r.0 u r.2))
  where
    which : (e : Edge) (u : ℕ) → (e.from ≡ u) ⊎ (e.to ≡ u) → T (eqb e.from u or eqb e.to u)
    which e u (inl q) = or_left _ _ (equal_test e.from q)
    which e u (inr q) = or_right (eqb e.from u) _ (equal_test e.to q)
