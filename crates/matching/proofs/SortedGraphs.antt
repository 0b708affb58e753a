-- Edges put in order by their ranks: the same edges, and the same match sets.
use Prim.Native.Nat.{ℕ, ◌/◌, ◌%◌, ◌<◌, ◌≤◌}
use mathlib.Core.Path.{◌≡◌, refl, sym, ap, subst, ◌∙◌}
use mathlib.Core.Bool.{Bool, true, false, not}
use mathlib.Core.Logic.{◌↔◌}
use mathlib.Core.List.{List, [], ◌∷◌}
use lib.Dec.{T}
use Rattle.std.specs.Cmp.{both_ways}
use native.Mathlib.Omega.{arith}
use Rattle.packed.specs.Formats.{rank}
use Rattle.packed.specs.Contents.{member, distinct, ranks, from_ranks, sorted_edges}
use Rattle.packed.specs.Plain.{EdgesAmong}
use Rattle.packed.specs.Distinct.{BelowHead, Increasing}
use Rattle.packed.proofs.DistinctLaws.{distinct_increasing, member_distinct, increasing_unique}
use Rattle.engine.specs.Lists.{In, each, keep, put}
use Rattle.engine.specs.Simulation.{Edge, between, same_edge, Pattern, Graph, edges_in, match_sets, view_sheet}
use Rattle.matching.specs.Join.{without}
use Rattle.engine.proofs.ListLaws.{each_in, in_each, keep_in, in_keep}
use Rattle.engine.proofs.CodeLaws.{in_member, member_in}
use Rattle.engine.proofs.MatchLaws.{Subgraph}
use Rattle.matching.proofs.MatchSetLaws.{order_free, view_same}
use Rattle.matching.proofs.EdgeLaws.{edges_in_at, made_each}

-- ---- graphs with the same labels and the same edges, in whatever order
abbrev pub Alike : Graph → Graph → Type 0
Alike G H = Subgraph G H × Subgraph H G

pub alike_sets : (P : Pattern) (G H : Graph) → Alike G H → match_sets P G ≡ match_sets P H
alike_sets P G H a = order_free P G H a.0 a.1

pub alike_views : (P : Pattern) (G H : Graph) → Alike G H → view_sheet P G ≡ view_sheet P H
alike_views P G H a = view_same P G H (alike_sets P G H a)

pub alike_without : (e : Edge) (G H : Graph) → Alike G H → Alike (without e G) (without e H)
unfolding without
alike_without e G H a = (fewer G H a.0, fewer H G a.1)
  where
    fewer : (G H : Graph) → Subgraph G H → Subgraph (without e G) (without e H)
    fewer G H s =
        record {
          same_labels = s.same_labels;
          more = λ f i. let k = keep_in (λ g. not (same_edge e g)) G.edges i in in_keep (λ g. not (same_edge e g)) (s.more f k.0) k.1;
        }

-- ---- edges and their ranks
abbrev rank_as : Edge → ℕ
rank_as f = rank f.from f.to f.kind

-- the edge with a rank
abbrev edge_of : ℕ → Edge
edge_of c = between (c / 8 / 4096) (c / 8 % 4096) (c % 8)

-- the ranks tell the edges apart
abbrev pub NarrowEdges : List Edge → Type 0
NarrowEdges es = (f : Edge) → In f es → (f.to < 4096) × (f.kind < 8)

pub ends_narrow : (es : List ℕ) (nodes kinds number : ℕ) → nodes ≤ 4096 → kinds ≤ 8 → EdgesAmong nodes kinds number es → NarrowEdges (edges_in es)
ends_narrow es nodes kinds number few narrow p f i =
    let r = edges_in_at es number p.three_each i in
    let l = p.to_node r.at r.below in
    let k = p.is_kind r.at r.below in
    subst (λ (g : Edge). (g.to < 4096) × (g.kind < 8)) (sym r.holds) (omega arith, omega arith)

edge_back : (f : Edge) → (f.to < 4096) × (f.kind < 8) → edge_of (rank_as f) ≡ f
edge_back f h =
    let l = h.0 in
    let k = h.1 in
    let x : rank_as f / 8 / 4096 ≡ f.from = omega arith in
    let y : rank_as f / 8 % 4096 ≡ f.to = omega arith in
    let z : rank_as f % 8 ≡ f.kind = omega arith in
    λ i. between (x i) (y i) (z i)

edges_in_ranks : (l : List ℕ) → edges_in (from_ranks l) ≡ each edge_of l
unfolding edges_in from_ranks each
edges_in_ranks [] = refl
edges_in_ranks (c ∷ l) = ap (λ (t : List Edge). edge_of c ∷ t) (edges_in_ranks l)

module _ (es : List ℕ) (narrow : NarrowEdges (edges_in es)) where
  -- an edge is there where its rank is
  rank_in : {f : Edge} → In f (edges_in es) → In (rank_as f) (distinct (ranks es))
  rank_in {f} i =
      member_in _ (member_distinct (rank_as f) (ranks es) ∙ in_member (subst (λ l. In (rank_as f) l) (sym (made_each rank es)) (in_each rank_as i)))

  in_rank : {c : ℕ} → In c (distinct (ranks es)) → (f : Edge) × In f (edges_in es) × (c ≡ rank_as f)
  in_rank {c} i =
      each_in rank_as (edges_in es) (subst (λ l. In c l) (made_each rank es) (member_in _ (sym (member_distinct c (ranks es)) ∙ in_member i)))

  -- the same edges
  pub sorted_in : (f : Edge) → In f (edges_in (sorted_edges es)) ↔ In f (edges_in es)
  unfolding sorted_edges
  sorted_in f = (
    λ i.
        let r = each_in edge_of (distinct (ranks es)) (subst (λ l. In f l) (edges_in_ranks (distinct (ranks es))) i) in
        let k = in_rank r.1 in
        subst (λ g. In g (edges_in es)) (sym (r.2 ∙ ap edge_of k.2 ∙ edge_back k.0 (narrow k.0 k.1))) k.1,
    λ i.
        subst (λ l. In f l) (sym (edges_in_ranks (distinct (ranks es))))
        (subst (λ g. In g (each edge_of (distinct (ranks es)))) (edge_back f (narrow f i)) (in_each edge_of (rank_in i))),
  )

-- ---- without some of them
keep_each : {A B : Type 0} (t : B → Bool) (f : A → B) (l : List A) → keep t (each f l) ≡ each f (keep (λ x. t (f x)) l)
unfolding keep each
keep_each t f [] = refl
keep_each t f (x ∷ l) = go (t (f x)) (keep_each t f l)
  where
    go : (b : Bool) → keep t (each f l) ≡ each f (keep (λ y. t (f y)) l) → put b (f x) (keep t (each f l)) ≡ each f (put b x (keep (λ y. t (f y)) l))
    go true h = ap (λ m. f x ∷ m) h
    go false h = h

below_next : (x y : ℕ) (l : List ℕ) → x < y → BelowHead y l → BelowHead x l
unfolding BelowHead
below_next x y [] h b = tt
below_next x y (z ∷ l) h b = omega arith

keep_below : (t : ℕ → Bool) (x : ℕ) (l : List ℕ) → BelowHead x l → Increasing l → BelowHead x (keep t l)
unfolding keep BelowHead Increasing
keep_below t x [] b i = tt
keep_below t x (y ∷ l) b i = go (t y) (keep_below t x l (below_next x y l b i.0) i.1)
  where
    go : (c : Bool) → BelowHead x (keep t l) → BelowHead x (put c y (keep t l))
    go true h = b
    go false h = h

keep_increasing : (t : ℕ → Bool) (l : List ℕ) → Increasing l → Increasing (keep t l)
unfolding keep Increasing
keep_increasing t [] i = tt
keep_increasing t (x ∷ l) i = go (t x) (keep_increasing t l i.1)
  where
    go : (c : Bool) → Increasing (keep t l) → Increasing (put c x (keep t l))
    go true h = (keep_below t x l i.0 i.1, h)
    go false h = h

-- the edges without e, put in order, are those put in order, without e
module _ (e : Edge) (es fewer : List ℕ) (narrow : NarrowEdges (edges_in es)) (q : edges_in fewer ≡ keep (λ f. not (same_edge e f)) (edges_in es)) where
  abbrev t : Edge → Bool
  t f = not (same_edge e f)

  abbrev u : ℕ → Bool
  u x = t (edge_of x)

  narrow' : NarrowEdges (edges_in fewer)
  narrow' f i = narrow f (keep_in t (edges_in es) (subst (λ l. In f l) q i)).0

  to : (c : ℕ) → In c (distinct (ranks fewer)) → In c (keep u (distinct (ranks es)))
  to c i =
      let k = in_rank fewer narrow' i in
      let r = keep_in t (edges_in es) (subst (λ l. In k.0 l) q k.1) in
      subst (λ x. In x (keep u (distinct (ranks es)))) (sym k.2)
      (in_keep u (rank_in es narrow r.0) (subst (λ g. T (t g)) (sym (edge_back k.0 (narrow k.0 r.0))) r.1))

  by : (c : ℕ) → In c (keep u (distinct (ranks es))) → In c (distinct (ranks fewer))
  by c i =
      let k = keep_in u (distinct (ranks es)) i in
      let r = in_rank es narrow k.0 in
      let g : T (t r.0) = subst (λ f. T (t f)) (ap edge_of r.2 ∙ edge_back r.0 (narrow r.0 r.1)) k.1 in
      subst (λ x. In x (distinct (ranks fewer))) (sym r.2) (rank_in fewer narrow' (subst (λ l. In r.0 l) (sym q) (in_keep t r.1 g)))

  members : (z : ℕ) → member z (distinct (ranks fewer)) ≡ member z (keep u (distinct (ranks es)))
  members z =
      both_ways (member z (distinct (ranks fewer))) (member z (keep u (distinct (ranks es)))) (λ h. in_member (to z (member_in _ h))) (λ h. in_member (by z (member_in _ h)))

  ranks_but : distinct (ranks fewer) ≡ keep u (distinct (ranks es))
  ranks_but = increasing_unique _ _ (distinct_increasing (ranks fewer)) (keep_increasing u (distinct (ranks es)) (distinct_increasing (ranks es))) members

  pub sorted_but : edges_in (sorted_edges fewer) ≡ keep (λ f. not (same_edge e f)) (edges_in (sorted_edges es))
  unfolding sorted_edges
  sorted_but =
      edges_in_ranks (distinct (ranks fewer))
      ∙ ap (each edge_of) ranks_but
      ∙ sym (keep_each t edge_of (distinct (ranks es)))
      ∙ ap (keep t) (sym (edges_in_ranks (distinct (ranks es))))
