-- The match sets edge by edge, the order of a graph's edges, and what a sheet needs of a list.
use mathlib.Core.Path.{◌≡◌, refl, sym, ap, subst, ◌∙◌}
use mathlib.Core.Bool.{Bool}
use mathlib.Core.List.{List, []}
use Prim.Native.Nat.{ℕ, ◌^◌, ◌≤◌, ◌<◌}
use native.Mathlib.Omega.{arith}
use lib.ListN.{length, get_or}
use lib.Dec.{eqb}
use Rattle.packed.specs.Formats.{code}
use Rattle.packed.specs.Distinct.{Increasing}
use Rattle.packed.specs.Contents.{distinct}
use Rattle.packed.proofs.DistinctMerge.{increasing_at}
use Rattle.engine.specs.Lists.{◌and◌, In, keep, gather, each}
use Rattle.engine.specs.Simulation.{Pair, Edge, has, as_pair, no_edge, Pattern, Graph, sim, total, row, ascending, match_sets, view_sheet}
use Rattle.engine.proofs.ByEdge.{row_of}
use Rattle.engine.proofs.ListLaws.{cond_case, keep_length, gather_in, each_in, in_each, each_same, length_each, get_d_each, in_at}
use Rattle.engine.proofs.MatchLaws.{Matches, row_say, row_by, Subgraph, subgraph_fewer}
use Rattle.engine.proofs.CodeLaws.{ascending_say, ascending_same, ascending_increasing, ascending_length, distinct_fewer}

-- the ends of each edge have 12 bits
abbrev pub Narrow : Graph → Type 0
Narrow G = (f : Edge) → In f G.edges → (f.from < 4096) × (f.to < 4096)

pub matches_narrow : {P : Pattern} {G : Graph} {e : Edge} {f : Pair} → Narrow G → Matches P G e f → (f.0 < 4096) × (f.1 < 4096)
matches_narrow n m = subst (λ z. (z.0 < 4096) × (z.1 < 4096)) (sym m.ends) (n m.link m.edge)

module _ (P : Pattern) (G : Graph) where
  pub sets_each : match_sets P G ≡ each (λ e. ascending (row_of P G e)) P.edges
  unfolding match_sets row_of
  sets_each = refl

  pub sets_length : length (match_sets P G) ≡ length P.edges
  sets_length = ap length sets_each ∙ length_each (λ e. ascending (row_of P G e)) P.edges

  -- the sheet of a view has the match sets
  pub view_sheet_lem : view_sheet P G ≡ match_sets P G
  unfolding view_sheet
  view_sheet_lem = refl

  pub view_each : view_sheet P G ≡ each (λ e. ascending (row_of P G e)) P.edges
  view_each = view_sheet_lem ∙ sets_each

  pub view_length : length (view_sheet P G) ≡ length P.edges
  view_length = ap length view_sheet_lem ∙ sets_length

  -- the match set of the edge number i
  pub set_at : (i : ℕ) → i < length P.edges → get_or (match_sets P G) i [] ≡ ascending (row_of P G (get_or P.edges i no_edge))
  set_at i h = ap (λ ls. get_or ls i []) sets_each ∙ get_d_each (λ e. ascending (row_of P G e)) P.edges i no_edge [] h

  -- each match set is that of an edge
  pub sets_in : {l : List ℕ} → In l (match_sets P G) → (e : Edge) × In e P.edges × (l ≡ ascending (row_of P G e))
  sets_in {l} i = each_in _ P.edges (subst (λ ls. In l ls) sets_each i)

  pub row_length : (e : Edge) → length (row_of P G e) ≤ length G.edges
  unfolding row_of row
  row_length e = cond_case (λ l. length l ≤ length G.edges) (total P (sim P G)) (row G (sim P G) e) [] (λ t. omega (arith, length_each as_pair (keep both_ends G.edges), keep_length both_ends G.edges)) (λ t. omega arith)
    where
      both_ends : Edge → Bool
      both_ends f = eqb f.kind e.kind and (has (e.from, f.from) (sim P G) and has (e.to, f.to) (sim P G))

pub view_same : (P : Pattern) (G H : Graph) → match_sets P G ≡ match_sets P H → view_sheet P G ≡ view_sheet P H
view_same P G H q = view_sheet_lem P G ∙ q ∙ sym (view_sheet_lem P H)

-- ---- the same edges in another order
pub subgraph_matches : (P : Pattern) (G H : Graph) → Subgraph G H → {e : Edge} {f : Pair} → Matches P G e f → Matches P H e f
subgraph_matches P G H w {e} {f} m = record {
  whole = λ u l. let p = m.whole u l in (p.0, subgraph_fewer P G H w u p.0 p.1);
  link = m.link;
  edge = w.more m.link m.edge;
  kind = m.kind;
  ends = m.ends;
  tail = subgraph_fewer P G H w e.from f.0 m.tail;
  head = subgraph_fewer P G H w e.to f.1 m.head;
}

-- graphs with the same labels and the same edges, in whatever order, have the same match sets
pub order_free : (P : Pattern) (G H : Graph) → Subgraph G H → Subgraph H G → match_sets P G ≡ match_sets P H
order_free P G H a b = sets_each P G ∙ each_same _ _ P.edges (λ e i. set e) ∙ sym (sets_each P H)
  where
    set : (e : Edge) → ascending (row_of P G e) ≡ ascending (row_of P H e)
    set e =
        ascending_same (row_of P G e) (row_of P H e)
        (λ f i. row_by P H (subgraph_matches P G H a (row_say P G i)))
        (λ f i. row_by P G (subgraph_matches P H G b (row_say P H i)))

-- ---- what a sheet needs of a list: its codes rise, have 24 bits, and are at most 8192
pub record Listable (l : List ℕ) : Type 0 where
  pub rises : (i j : ℕ) → i < j → j < length l → get_or l i 0 < get_or l j 0
  pub small : (i : ℕ) → i < length l → get_or l i 0 < 2 ^ 24
  pub most : length l ≤ 8192

pub listable_by : (l : List ℕ) → Increasing l → ((c : ℕ) → In c l → c < 2 ^ 24) → length l ≤ 8192 → Listable l
listable_by l n s h = record { rises = increasing_at l n; small = λ i k. s _ (in_at l i 0 k); most = h }

pub sets_listable : (P : Pattern) (G : Graph) → Narrow G → length G.edges ≤ 8192 → (l : List ℕ) → In l (match_sets P G) → Listable l
sets_listable P G n h l i = of-edge (sets_in P G i)
  where
    of-edge : (e : Edge) × In e P.edges × (l ≡ ascending (row_of P G e)) → Listable l
    of-edge (e, j, q) = subst Listable (sym q) (listable_by (ascending (row_of P G e)) (ascending_increasing (row_of P G e)) small most)
      where
        small : (c : ℕ) → In c (ascending (row_of P G e)) → c < 2 ^ 24
        small c k = let r = ascending_say _ k in let z = matches_narrow n (row_say P G r.1) in omega arith

        most : length (ascending (row_of P G e)) ≤ 8192
        most = omega (arith, ascending_length (row_of P G e), row_length P G e)

-- ---- a book made from a graph has at most as many different pairs as the graph has edges
pub set_edge : (P : Pattern) (G : Graph) {l : List ℕ} {c : ℕ} → In l (match_sets P G) → In c l → In c (each (λ f. code f.from f.to) G.edges)
set_edge P G {l} {c} i j = of-list (sets_in P G i)
  where
    of-edge : (e : Edge) → (f : Pair) × In f (row_of P G e) × (c ≡ code f.0 f.1) → In c (each (λ f. code f.from f.to) G.edges)
    of-edge e (f, k, q) =
        let m = row_say P G k in
        subst (λ z. In z (each (λ f. code f.from f.to) G.edges)) (sym (q ∙ ap (λ (p : Pair). code p.0 p.1) m.ends)) (in_each (λ f. code f.from f.to) m.edge)

    of-list : (e : Edge) × In e P.edges × (l ≡ ascending (row_of P G e)) → In c (each (λ f. code f.from f.to) G.edges)
    of-list (e, k, q) = of-edge e (ascending_say _ (subst (λ z. In c z) q j))

pub book_pairs_lem : (Ps : List Pattern) (G : Graph) → length (distinct (gather (λ P. gather (λ l. l) (view_sheet P G)) Ps)) ≤ length G.edges
book_pairs_lem Ps G =
    omega (
      arith,
      distinct_fewer (gather (λ P. gather (λ l. l) (view_sheet P G)) Ps) (each (λ f. code f.from f.to) G.edges)
          (λ c i. let p = gather_in _ Ps i in let r = gather_in (λ l. l) (view_sheet p.0 G) p.2 in set_edge p.0 G (subst (λ ls. In r.0 ls) (view_sheet_lem p.0 G) r.1) r.2),
      length_each (λ f. code f.from f.to) G.edges,
    )
