-- The graph of a record that a link enters: that of the record, with the link at its place.
use Prim.Native.Nat.{ℕ, zero, suc, ◌*◌, ◌≤◌}
use mathlib.Core.Path.{◌≡◌, refl, sym, ap, ap₂, subst, ◌∙◌}
use mathlib.Core.Logic.{◌⊎◌, ◌↔◌, inl, inr, ⊎_elim}
use mathlib.Core.List.{List, [], ◌∷◌, ◌++◌}
use mathlib.Core.Bool.{Bool, true, false, ◌&&◌}
use lib.ListN.{length, take, drop, take-append-drop}
use lib.Dec.{eqb}
use native.Mathlib.Omega.{arith}
use borrow.Author.Tests.{eqb-true, eq-eqb}
use Rattle.packed.specs.Format.{ok, decode}
use Rattle.packed.specs.Formats.{record', rank, linked}
use Rattle.packed.specs.Contents.{edges_of, ranks}
use Rattle.packed.specs.Entered.{edges_in as edge_fields, entered as entered_fields, MayEnter, lower}
use Rattle.packed.proofs.OrderCases.{or_cases, or_neither, and_both}
use Rattle.packed.proofs.GraphLaws.{record_among}
use Rattle.packed.proofs.EnteredLaws.{Entered, record_enters}
use Rattle.engine.specs.Lists.{In, here, there}
use Rattle.engine.specs.Simulation.{Edge, between, Graph, edges_in, graph_of}
use Rattle.engine.proofs.ListLaws.{not_in_none, in_cases, append_in, in_append_left, in_append_right}
use Rattle.matching.proofs.EnterLaws.{entered}

-- ---- edges by their fields
-- the fields of so many whole edges, and what follows them
edges_both : (j m : ℕ) (es fs : List ℕ) → length es ≡ 3 * m → j ≤ m → edges_in (take (3 * j) es ++ fs) ≡ edges_in (take (3 * j) es) ++ edges_in fs
unfolding edges_in
edges_both zero m es fs e h = refl
edges_both (suc j) m [] fs e h = absurd (omega arith)
edges_both (suc j) m (a ∷ []) fs e h = absurd (omega arith)
edges_both (suc j) m (a ∷ b ∷ []) fs e h = absurd (omega arith)
edges_both (suc j) zero (a ∷ b ∷ k ∷ es) fs e h = absurd (omega arith)
edges_both (suc j) (suc m) (a ∷ b ∷ k ∷ es) fs e h =
    let z : 3 * suc j ≡ suc (suc (suc (3 * j))) = omega arith in
    ap (λ (i : ℕ). edges_in (take i (a ∷ b ∷ k ∷ es) ++ fs)) z
    ∙ ap (λ (l : List Edge). between a b k ∷ l) (edges_both j m es fs (omega arith) (omega arith))
    ∙ ap (λ (i : ℕ). edges_in (take i (a ∷ b ∷ k ∷ es)) ++ edges_in fs) (sym z)

edges_cons : (a b k : ℕ) (es : List ℕ) → edges_in (a ∷ b ∷ k ∷ es) ≡ between a b k ∷ edges_in es
unfolding edges_in
edges_cons a b k es = refl

same_fields : (x y z a b k : ℕ) → (eqb x a && (eqb y b && eqb z k)) ≡ true → between a b k ≡ between x y z
same_fields x y z a b k t =
    let u = and_both (eqb x a) (eqb y b && eqb z k) t in
    let v = and_both (eqb y b) (eqb z k) u.1 in
    let p = eqb-true x a u.0 in
    let q = eqb-true y b v.0 in
    let r = eqb-true z k v.1 in
    λ i. between (sym p i) (sym q i) (sym r i)

fields_same : (x y z a b k : ℕ) → between a b k ≡ between x y z → (eqb x a && (eqb y b && eqb z k)) ≡ true
fields_same x y z a b k e =
    rw (eq-eqb x a (sym (ap (λ f. f.from) e)), eq-eqb y b (sym (ap (λ f. f.to) e)), eq-eqb z k (sym (ap (λ f. f.kind) e)))

-- an edge is among them exactly if the test of a record says so
pub linked_in : (a b k : ℕ) (es : List ℕ) → linked a b k es ≡ true → In (between a b k) (edges_in es)
unfolding linked edges_in
linked_in a b k [] t = absurd (let z : ◌≡◌ {A = ℕ} 0 1 = cc in omega arith)
linked_in a b k (x ∷ []) t = absurd (let z : ◌≡◌ {A = ℕ} 0 1 = cc in omega arith)
linked_in a b k (x ∷ y ∷ []) t = absurd (let z : ◌≡◌ {A = ℕ} 0 1 = cc in omega arith)
linked_in a b k (x ∷ y ∷ z ∷ es) t =
    ⊎_elim (λ e. here (same_fields x y z a b k e)) (λ e. there (linked_in a b k es e)) (or_cases (eqb x a && (eqb y b && eqb z k)) (linked a b k es) t)

pub not_linked : (a b k : ℕ) (es : List ℕ) → linked a b k es ≡ false → In (between a b k) (edges_in es) → ⊥
unfolding linked edges_in
not_linked a b k [] t i = not_in_none i
not_linked a b k (x ∷ []) t i = not_in_none i
not_linked a b k (x ∷ y ∷ []) t i = not_in_none i
not_linked a b k (x ∷ y ∷ z ∷ es) t i =
    let o = or_neither (eqb x a && (eqb y b && eqb z k)) (linked a b k es) t in
    ⊎_elim
    (λ e. (let p = fields_same x y z a b k e in let q = o.0 in let w : ◌≡◌ {A = Bool} true false = sym p ∙ q in let z : ◌≡◌ {A = ℕ} 0 1 = cc in omega arith))
    (λ j. not_linked a b k es o.1 j)
    (in_cases i)

-- ---- the graph
module _ (s ws : List ℕ) (e : decode record' s ≡ ok ws) (a b k : ℕ) (g : MayEnter ws a b k) where
  abbrev es : List ℕ
  es = edge_fields ws

  abbrev place : ℕ
  place = lower (rank a b k) (ranks es)

  enters : Entered ws a b k
  enters = record_enters s ws e a b k g

  long : length es ≡ 3 * edges_of ws
  long = (record_among s ws e).three_each

  -- the edges before the link and those after it
  abbrev pub links_before : List Edge
  links_before = edges_in (take (3 * place) es)

  abbrev pub links_after : List Edge
  links_after = edges_in (drop (3 * place) es)

  pub links_split : (graph_of ws).edges ≡ links_before ++ links_after
  unfolding graph_of
  links_split = ap edges_in (sym (take-append-drop (3 * place) es)) ∙ edges_both place (edges_of ws) es (drop (3 * place) es) long enters.place.0

  pub graph_entered : graph_of (entered_fields ws a b k) ≡ entered (graph_of ws) links_before (between a b k) links_after
  unfolding graph_of
  graph_entered =
      ap₂ (λ (l : List ℕ) (f : List Edge). record { labels = l; edges = f })
      (ap (λ (i : ℕ). take i (drop 2 (entered_fields ws a b k))) enters.nodes ∙ enters.labels)
      (ap edges_in enters.place.1
      ∙ edges_both place (edges_of ws) es (a ∷ b ∷ k ∷ drop (3 * place) es) long enters.place.0
      ∙ ap (λ (l : List Edge). links_before ++ l) (edges_cons a b k (drop (3 * place) es)))

  pub link_new : In (between a b k) (graph_of ws).edges → ⊥
  unfolding graph_of
  link_new i = not_linked a b k es g.new i

  -- the old edges and the new one
  pub links_entered : (f : Edge) → In f (graph_of (entered_fields ws a b k)).edges ↔ ((f ≡ between a b k) ⊎ In f (graph_of ws).edges)
  links_entered f = (
    λ i. ⊎_elim
        (λ j. inr (old (in_append_left links_after j)))
        (λ j. ⊎_elim (λ q. inl q) (λ q. inr (old (in_append_right links_before q))) (in_cases j))
        (append_in links_before (now i)),
    λ o. back (⊎_elim
        (λ q. in_append_right links_before (here q))
        (λ i. ⊎_elim (λ j. in_append_left (between a b k ∷ links_after) j) (λ j. in_append_right links_before (there j)) (append_in links_before (split i)))
        o),
  )
    where
      old : In f (links_before ++ links_after) → In f (graph_of ws).edges
      old i = subst (λ (l : List Edge). In f l) (sym links_split) i

      split : In f (graph_of ws).edges → In f (links_before ++ links_after)
      split i = subst (λ (l : List Edge). In f l) links_split i

      now : In f (graph_of (entered_fields ws a b k)).edges → In f (links_before ++ (between a b k ∷ links_after))
      now i = subst (λ (G : Graph). In f G.edges) graph_entered i

      back : In f (links_before ++ (between a b k ∷ links_after)) → In f (graph_of (entered_fields ws a b k)).edges
      back i = subst (λ (G : Graph). In f G.edges) (sym graph_entered) i
