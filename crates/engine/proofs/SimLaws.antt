-- `sim` is a simulation, and every simulation lies in it.
use mathlib.Core.Path.{◌≡◌, refl, sym, subst}
use mathlib.Core.Bool.{Bool}
use mathlib.Core.List.{List}
use Prim.Native.Nat.{ℕ, ◌<◌}
use lib.ListN.{length, get_or}
use lib.Dec.{T, eqb, eqb→eq, eqb_refl, ltb→lt, lt→ltb}
use Rattle.engine.specs.Lists.{◌and◌, ◌implies◌, In, every, some, keep}
use Rattle.engine.specs.Simulation.{Pair, same, has, Edge, same_edge, between, as_pair, every_pair, bit, Rule, one_way, both_ways, asks_arrivals, Pattern, Graph, fits, follows_out, follows_in, follows, sim, IsSim}
use Rattle.engine.proofs.ListLaws.{and_left, and_right, both, use_if, make_if, equal_test, in_cast, every_in, in_every, some_in, in_some, keep_in, in_keep, in_gather, in_each, in_below}
use Rattle.engine.proofs.GreatestLaws.{greatest_part, greatest_ok, greatest_all}

-- pairs
pub same_eq : (a b : Pair) → T (same a b) → a ≡ b
unfolding same
same_eq a b h = λ i. (eqb→eq a.0 b.0 (and_left _ _ h) i, eqb→eq a.1 b.1 (and_right _ _ h) i)

pub same_refl : (a : Pair) → T (same a a)
unfolding same
same_refl a = both _ _ (eqb_refl a.0) (eqb_refl a.1)

-- edges
pub same_edge_lem : (e f : Edge) → T (same_edge e f) → e ≡ f
unfolding same_edge
same_edge_lem e f h = λ i.
    between (eqb→eq e.from f.from (and_left _ _ h) i) (eqb→eq e.to f.to (and_left _ _ (and_right _ _ h)) i)
    (eqb→eq e.kind f.kind (and_right _ _ (and_right _ _ h)) i)

pub same_edge_refl : (e : Edge) → T (same_edge e e)
unfolding same_edge
same_edge_refl e = both _ _ (eqb_refl e.from) (both _ _ (eqb_refl e.to) (eqb_refl e.kind))

-- by its ends and its kind
pub pair_edge : {e f : Edge} → as_pair e ≡ as_pair f → e.kind ≡ f.kind → e ≡ f
pair_edge p k = λ i. between (p i).0 (p i).1 (k i)

pub has_in : (a : Pair) {l : List Pair} → T (has a l) → In a l
unfolding has
has_in a {l} h = let r = some_in (same a) l h in in_cast (sym (same_eq a r.0 r.2)) r.1

pub in_has : {a : Pair} {l : List Pair} → In a l → T (has a l)
unfolding has
in_has {a} i = in_some (same a) i (same_refl a)

pub in_pairs : (n m u v : ℕ) → u < n → v < m → In (u, v) (every_pair n m)
unfolding every_pair
in_pairs n m u v hu hv = in_gather _ (in_below n u hu) (in_each _ (in_below m v hv))

-- rules
pub asks_say : (r : Rule) → T (asks_arrivals r) → r ≡ both_ways
unfolding asks_arrivals
asks_say one_way t = elim t [ ]
asks_say both_ways t = refl

pub asks_by : {r : Rule} → r ≡ both_ways → T (asks_arrivals r)
unfolding asks_arrivals
asks_by e = subst (λ (r : Rule). T (asks_arrivals r)) (sym e) tt

pub not_both : one_way ≡ both_ways → ⊥
unfolding asks_arrivals
not_both e = asks_by e

-- what a fit says
pub record FitsInto (P : Pattern) (G : Graph) (u v : ℕ) : Type 0 where
  pub left : u < length P.labels
  pub right : v < length G.labels
  pub label : T (bit (get_or G.labels v 0) (get_or P.labels u 0))

-- ---- what it is to follow, by the end of an edge that is at a node and its other end
module _ (near far : Edge → ℕ) where
  abbrev Followed : Pattern → Graph → (ℕ → ℕ → Type 0) → ℕ → ℕ → Type 0
  Followed P G R u v = (e : Edge) → In e P.edges → near e ≡ u → (f : Edge) × In f G.edges × (near f ≡ v) × (f.kind ≡ e.kind) × R (far e) (far f)

  abbrev followed : Pattern → Graph → List Pair → Pair → Bool
  followed P G l x = every (λ e. eqb (near e) x.0 implies some (λ f. eqb (near f) x.1 and (eqb f.kind e.kind and has (far e, far f) l)) G.edges) P.edges

  module _ (P : Pattern) (G : Graph) (l : List Pair) {u v : ℕ} where
    followed-say : T (followed P G l (u, v)) → Followed P G (λ a b. In (a, b) l) u v
    followed-say t e j q =
        let r = some_in _ G.edges (use_if _ _ (every_in _ t j) (equal_test (near e) q)) in
        let k = and_right _ _ r.2 in
        (r.0, r.1, eqb→eq (near r.0) v (and_left _ _ r.2), eqb→eq r.0.kind e.kind (and_left _ _ k), has_in _ (and_right _ _ k))

    followed-by : Followed P G (λ a b. In (a, b) l) u v → T (followed P G l (u, v))
    followed-by h =
        in_every _ P.edges λ e i. make_if _ _ λ t.
        let j = h e i (eqb→eq (near e) u t) in
        in_some _ j.1 (both _ _ (equal_test (near j.0) j.2) (both _ _ (equal_test j.0.kind j.3) (in_has j.4)))

module _ (P : Pattern) (G : Graph) where
  pub fits_say : {u v : ℕ} → T (fits P G (u, v)) → FitsInto P G u v
  unfolding fits
  fits_say {u} {v} h = record {
    left = ltb→lt u _ (and_left _ _ h);
    right = ltb→lt v _ (and_left _ _ (and_right _ _ h));
    label = and_right _ _ (and_right _ _ h);
  }

  pub fits_by : {u v : ℕ} → FitsInto P G u v → T (fits P G (u, v))
  unfolding fits
  fits_by {u} {v} f = both _ _ (lt→ltb u _ f.left) (both _ _ (lt→ltb v _ f.right) f.label)

  -- where the search starts
  pub in_start : {u v : ℕ} → T (fits P G (u, v)) → In (u, v) (keep (fits P G) (every_pair (length P.labels) (length G.labels)))
  in_start {u} {v} t = let f = fits_say {u = u} {v = v} t in in_keep _ (in_pairs _ _ u v f.left f.right) t

  pub sim_is : IsSim P G (λ u v. In (u, v) (sim P G))
  unfolding sim follows follows_out follows_in
  sim_is = record {
    fit = λ u v i. (keep_in _ _ (greatest_part _ _ (u, v) i)).1;
    follow = λ u v i. followed-say (λ e. e.from) (λ e. e.to) P G _ (and_left _ _ (greatest_ok (follows P G) _ (u, v) i));
    arrive = λ r u v i. followed-say (λ e. e.to) (λ e. e.from) P G _ (use_if _ _ (and_right _ _ (greatest_ok (follows P G) _ (u, v) i)) (asks_by r));
  }

  pub sim_most : (R : ℕ → ℕ → Type 0) → IsSim P G R → (u v : ℕ) → R u v → In (u, v) (sim P G)
  unfolding sim follows follows_out follows_in
  sim_most R s u v r =
      greatest_all (follows P G) (λ x. R x.0 x.1)
      (λ l f x q.
      both _ _
      (followed-by (λ e. e.from) (λ e. e.to) P G l λ e i p.
      let n = s.follow x.0 x.1 q e i p in
      (n.0, n.1, n.2, n.3, f (e.to, n.0.to) n.4))
      (make_if _ _ λ t. followed-by (λ e. e.to) (λ e. e.from) P G l λ e i p.
      let n = s.arrive (asks_say P.rule t) x.0 x.1 q e i p in
      (n.0, n.1, n.2, n.3, f (e.from, n.0.from) n.4)))
      _
      (λ x q. in_start (s.fit x.0 x.1 q))
      (u, v) r
