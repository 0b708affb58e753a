-- What is left of what the pairs are held for is the greatest choice from it: what rests supports itself, and what supports itself is left.
use mathlib.Core.Path.{◌≡◌, refl, ap, ◌∙◌, sym, subst}
use mathlib.Core.Logic.{⊎_elim}
use mathlib.Core.Bool.{Bool}
use mathlib.Core.List.{List, [], ◌∷◌}
use Prim.Native.Nat.{ℕ, ◌<◌, ◌/◌, ◌%◌, ◌^◌}
use native.Mathlib.Omega.{arith}
use lib.ListN.{get_or}
use lib.Dec.{T}
use Rattle.packed.specs.Limits.{pair_width}
use Rattle.packed.specs.Contents.{word_from, word_to}
use Rattle.packed.specs.declared.by_value.Pattern.{Pattern as Given}
use Rattle.engine.specs.Lists.{In, here, there, gather}
use Rattle.engine.specs.Simulation.{Pair, Edge, both_ways, Pattern, has}
use Rattle.engine.specs.Loaded.{given_edge}
use Rattle.engine.specs.Masks.{Has, OneOf}
use Rattle.engine.specs.Sweeping.{from_of, to_of, Ends, held_at}
use Rattle.engine.specs.Rounds.{End, OffersBy, SupportsBy, Supports, SupportsBack, Shape}
use Rattle.matching.specs.Join.{pair_of, Offer, Kept, choice}
use Rattle.matching.specs.Components.{pair_at, Holds}
use Rattle.engine.proofs.ListLaws.{in_cases, in_cast, not_in_none, gather_in, in_gather}
use Rattle.engine.proofs.SimLaws.{has_in, in_has}
use Rattle.matching.proofs.JoinLaws.{KeepsAt, Supported, ChoicePair, choice_candidate, choice_supported, choice_most}

-- ---- the ends of what is kept
-- the nodes that stand for nodes of the query as the ends of a pair that is kept for an edge
ends_of : Kept → List Pair
ends_of k = (k.0.from, k.1.0) ∷ (k.0.to, k.1.1) ∷ []

pub stands : List Kept → ℕ → ℕ → Bool
stands l u v = has (u, v) (gather ends_of l)

module _ {l : List Kept} where
  tail_stands : {e : Edge} {f : Pair} → In (e, f) l → T (stands l e.from f.0)
  unfolding stands ends_of
  tail_stands i = in_has (in_gather ends_of i (here refl))

  head_stands : {e : Edge} {f : Pair} → In (e, f) l → T (stands l e.to f.1)
  unfolding stands ends_of
  head_stands i = in_has (in_gather ends_of i (there (here refl)))

  -- what holds of both ends of each pair that is kept holds of all that stands
  pub stands_all : (R : ℕ → ℕ → Type 0) → ((e : Edge) (f : Pair) → In (e, f) l → R e.from f.0 × R e.to f.1) → {u v : ℕ} → T (stands l u v) → R u v
  unfolding stands ends_of
  stands_all R h {u} {v} t = from (gather_in ends_of l (has_in (u, v) t))
    where
      from : (k : Kept) × In k l × In (u, v) (ends_of k) → R u v
      from (k, i, j) =
          let r = h k.0 k.1 i in
          ⊎_elim (λ (p : (u, v) ≡ (k.0.from, k.1.0)). subst (λ (x : Pair). R x.0 x.1) (sym p) r.0)
          (λ m. ⊎_elim (λ (p : (u, v) ≡ (k.0.to, k.1.1)). subst (λ (x : Pair). R x.0 x.1) (sym p) r.1) (λ n. absurd (not_in_none n)) (in_cases m))
          (in_cases j)

-- ---- what rests
-- of what the words w held, w' hold what is left: for the edges of P, whose numbers have L, it lies in the masks of the nodes, and each edge that may leave a
-- node is held there, and both ways each that may arrive
pub record Rested (q : Given) (n d : ℕ) (w w' leave arrive : List ℕ) (P : Pattern) (L : ℕ → Type 0) : Type 0 where
  pub small : (i : ℕ) → i < d → get_or w i 0 < 2 ^ pair_width
  pub ends : Ends n d w
  pub same : (i : ℕ) → i < d → get_or w' i 0 ≡ get_or w i 0
  pub part : (i e : ℕ) → i < d → Has (held_at w' i) e → Has (held_at w i) e
  pub asked : (e : ℕ) → e < q.edges → L e → In (given_edge q e) P.edges
  pub only : (g : Edge) → In g P.edges → OneOf q.edges (λ e. (g ≡ given_edge q e) × L e)
  pub shape : Shape q.from q.to q.edges leave arrive
  pub within : (i e : ℕ) → i < d → e < q.edges → L e → Has (held_at w' i) e → Has (get_or leave (from_of w' i) 0) e × Has (get_or arrive (to_of w' i) 0) e
  pub begins : (v k : ℕ) → v < n → k < q.edges → Has (get_or leave v 0) k → OneOf d (λ j. (from_of w' j ≡ v) × Has (held_at w' j) k)
  pub closes : P.rule ≡ both_ways → (v k : ℕ) → v < n → k < q.edges → Has (get_or arrive v 0) k → OneOf d (λ j. (to_of w' j ≡ v) × Has (held_at w' j) k)

module _ {q : Given} {n d : ℕ} {w w' leave arrive : List ℕ} {P : Pattern} {L : ℕ → Type 0} (R : Rested q n d w w' leave arrive P L) where
  -- a pair begins and ends where its word says
  pair_from : (i : ℕ) → i < d → (pair_at w i).0 ≡ from_of w i
  unfolding pair_of
  pair_from i l = let z = R.small i l in omega arith

  pair_to : (i : ℕ) → i < d → (pair_at w i).1 ≡ to_of w i
  unfolding pair_of
  pair_to i l = refl

  from_same : (i : ℕ) → i < d → from_of w' i ≡ from_of w i
  from_same i l = ap (λ (y : ℕ). y / 4096 % 4096) (R.same i l)

  to_same : (i : ℕ) → i < d → to_of w' i ≡ to_of w i
  to_same i l = ap (λ (y : ℕ). y % 4096) (R.same i l)

  -- the pair i is left for the edge e
  abbrev After : ℕ → ℕ → Type 0
  After i e = Has (held_at w' i) e

  -- ---- it supports itself
  -- the pair f is left for the edge g
  abbrev Marks : Edge → Pair → Type 0
  Marks g f = OneOf q.edges (λ k. (g ≡ given_edge q k) × L k × OneOf d (λ i. (f ≡ pair_at w i) × After i k))

  -- at one end of links and pairs: near reads it from a word, and here are the links' ends
  module _ (near : End) (here : List ℕ) (end : Edge → ℕ) (at : Pair → ℕ) (link-end : (k : ℕ) → end (given_edge q k) ≡ get_or here k 0)
      (pair_end : (i : ℕ) → i < d → at (pair_at w i) ≡ near (get_or w i 0)) where
    marks-at : (u v : ℕ) {x : ℕ} → v ≡ x → ((k : ℕ) → k < q.edges → get_or here k 0 ≡ u → OneOf d (λ j. (near (get_or w' j 0) ≡ v) × After j k))
        → KeepsAt end at P Marks u x
    marks-at u v y h e j p =
        let o = R.only e j in
        let r = h o.at o.below (sym (ap end o.holds.0 ∙ link-end o.at) ∙ p) in (
          pair_at w r.at,
          record { at = o.at; below = o.below; holds = (o.holds.0, o.holds.1, record { at = r.at; below = r.below; holds = (refl, r.holds.1) }) },
          pair_end r.at r.below ∙ ap near (sym (R.same r.at r.below)) ∙ r.holds.0 ∙ y,
        )

  supports : (i e : ℕ) → i < d → e < q.edges → L e → After i e → Supported P Marks (given_edge q e) (pair_at w i)
  supports i e l le t h =
      let m = R.within i e l le t h in
      let f = from_of w' i in
      let c = to_of w' i in
      let a : f < n = (let z = R.ends.from i l in let y = from_same i l in omega arith) in
      let b : c < n = (let z = R.ends.to i l in let y = to_same i l in omega arith) in
      let x = from_same i l ∙ sym (pair_from i l) in
      let y = to_same i l ∙ sym (pair_to i l) in
      record {
        tail = from (get_or q.from e 0) f x (λ k lk p. R.begins f k a lk (R.shape.out_out f e k le lk (sym p) m.0));
        head = from (get_or q.to e 0) c y (λ k lk p. R.begins c k b lk (R.shape.in_out c e k le lk (sym p) m.1));
        tail_back = λ r. to (get_or q.from e 0) f x (λ k lk p. R.closes r f k a lk (R.shape.out_in f e k le lk (sym p) m.0));
        head_back = λ r. to (get_or q.to e 0) c y (λ k lk p. R.closes r c k b lk (R.shape.in_in c e k le lk (sym p) m.1));
      }
    where
      from : (u v : ℕ) {x : ℕ} → v ≡ x → ((k : ℕ) → k < q.edges → get_or q.from k 0 ≡ u → OneOf d (λ j. (from_of w' j ≡ v) × After j k)) → KeepsAt (λ g. g.from) (λ h. h.0) P Marks u x
      from = marks-at word_from q.from (λ g. g.from) (λ h. h.0) (λ k. refl) pair_from

      to : (u v : ℕ) {x : ℕ} → v ≡ x → ((k : ℕ) → k < q.edges → get_or q.to k 0 ≡ u → OneOf d (λ j. (to_of w' j ≡ v) × After j k)) → KeepsAt (λ g. g.to) (λ h. h.1) P Marks u x
      to = marks-at word_to q.to (λ g. g.to) (λ h. h.1) (λ k. refl) pair_to

  module _ (cs : Offer) (first : Holds q d w cs) where
    abbrev J : List Kept
    J = choice P cs

    pub left_candidate : (i e : ℕ) → i < d → e < q.edges → After i e → In (pair_at w i) (cs (given_edge q e))
    left_candidate i e l le h = first.listed i e l le (R.part i e l h)

    -- what is left is chosen
    pub left_chosen : (i e : ℕ) → i < d → e < q.edges → L e → After i e → In (given_edge q e, pair_at w i) J
    left_chosen i e l le t h =
        choice_most P cs Marks
        (λ g f c. let o = c.holds.2 in
        let z = sym c.holds.0 in (
          in_cast z (R.asked c.at c.below c.holds.1),
          subst (λ (y : Edge). In f (cs y)) z (in_cast (sym o.holds.0) (left_candidate o.at c.at o.below c.below o.holds.1)),
        ))
        (λ g f c. let o = c.holds.2 in
        subst (λ (y : Edge). Supported P Marks y f) (sym c.holds.0)
        (subst (Supported P Marks (given_edge q c.at)) (sym o.holds.0) (supports o.at c.at o.below c.below c.holds.1 o.holds.1)))
        (given_edge q e) (pair_at w i) (record { at = e; below = le; holds = (refl, t, record { at = i; below = l; holds = (refl, h) }) })

    -- ---- what is chosen is left
    chosen_at : (e : ℕ) → e < q.edges → {f : Pair} → In (given_edge q e, f) J → (i : ℕ) × (i < d) × (f ≡ pair_at w i)
    chosen_at e le {f} j = first.among e f le (choice_candidate P cs j).1

    chosen-before : (i e : ℕ) → i < d → e < q.edges → In (given_edge q e, pair_at w i) J → Has (held_at w i) e
    chosen-before i e l le j = first.held i e l le (choice_candidate P cs j).1

    -- the ends of what is chosen
    abbrev Stand : ℕ → ℕ → Type 0
    Stand u v = T (stands J u v)

    from-stands : (i e : ℕ) → i < d → In (given_edge q e, pair_at w i) J → Stand (get_or q.from e 0) (from_of w i)
    from-stands i e l j = subst (λ (v : ℕ). Stand (get_or q.from e 0) v) (pair_from i l) (tail_stands j)

    to-stands : (i e : ℕ) → i < d → In (given_edge q e, pair_at w i) J → Stand (get_or q.to e 0) (to_of w i)
    to-stands i e l j = subst (λ (v : ℕ). Stand (get_or q.to e 0) v) (pair_to i l) (head_stands j)

    pub stands_below : (u v : ℕ) → Stand u v → v < 4096
    stands_below u v h = stands_all (λ x y. y < 4096) below h
      where
        below : (g : Edge) (x : Pair) → In (g, x) J → (x.0 < 4096) × (x.1 < 4096)
        below g x j =
            let c = R.only g (choice_candidate P cs j).0 in
            let o = chosen_at c.at c.below (subst (λ (y : Edge). In (y, x) J) c.holds.0 j) in
            let a = pair_from o.0 o.1 in
            let b = pair_to o.0 o.1 in
            subst (λ (y : Pair). (y.0 < 4096) × (y.1 < 4096)) (sym o.2) (omega arith, omega arith)

    -- at the two ends of links and pairs: the far end of a pair that is chosen stands as that of the link
    module _ (near far : End) (here there : List ℕ) (end : Edge → ℕ) (at : Pair → ℕ) (link-end : (k : ℕ) → end (given_edge q k) ≡ get_or here k 0)
        (pair_end : (i : ℕ) → i < d → at (pair_at w i) ≡ near (get_or w i 0))
        (far-stands : (i e : ℕ) → i < d → In (given_edge q e, pair_at w i) J → Stand (get_or there e 0) (far (get_or w i 0)))
        (keeps : (g : Edge) (f : Pair) → In (g, f) J → KeepsAt end at P (ChoicePair P cs) g.from f.0 × KeepsAt end at P (ChoicePair P cs) g.to f.1) where
      offers : (e : ℕ) → e < q.edges → {f : Pair} → In (given_edge q e, f) J → OffersBy near far there d w Stand (at f) e
      offers e le {f} j =
          let o = chosen_at e le j in
          let i : In (given_edge q e, pair_at w o.0) J = subst (λ (x : Pair). In (given_edge q e, x) J) o.2 j in
          record {
            at = o.0;
            below = o.1;
            holds = (sym (ap at o.2 ∙ pair_end o.0 o.1), chosen-before o.0 e o.1 le i, far-stands o.0 e o.1 i);
          }

      stands-supported : (M : ℕ → Type 0) → ((e v : ℕ) → e < q.edges → M e → Stand (get_or here e 0) v → L e) → SupportsBy near far here there q.edges M d w Stand
      stands-supported M due u v h e le y a =
          stands_all (λ x z. end (given_edge q e) ≡ x → OffersBy near far there d w Stand z e)
          (λ g f j. let r = keeps g f j in (λ p. from (r.0 (given_edge q e) asked p), λ p. from (r.1 (given_edge q e) asked p)))
          h (link-end e ∙ a)
        where
          asked : In (given_edge q e) P.edges
          asked = R.asked e le (due e v le y (subst (λ (x : ℕ). Stand x v) (sym a) h))

          from : {z : ℕ} → (f : Pair) × In (given_edge q e, f) J × (at f ≡ z) → OffersBy near far there d w Stand z e
          from (f, j, p) = subst (λ (z : ℕ). OffersBy near far there d w Stand z e) p (offers e le j)

    -- they support themselves for the links with M, where those of what stands have L
    pub chosen_supports : (M : ℕ → Type 0) → ((e v : ℕ) → e < q.edges → M e → Stand (get_or q.from e 0) v → L e) → Supports q.from q.to q.edges M d w Stand
    chosen_supports =
        stands-supported word_from word_to q.from q.to (λ g. g.from) (λ h. h.0) (λ k. refl) pair_from to-stands
        (λ g f j. let r = choice_supported P cs j in (r.tail, r.head))

    pub chosen_backs : P.rule ≡ both_ways → (M : ℕ → Type 0) → ((e v : ℕ) → e < q.edges → M e → Stand (get_or q.to e 0) v → L e) → SupportsBack q.from q.to q.edges M d w Stand
    chosen_backs b =
        stands-supported word_to word_from q.to q.from (λ g. g.to) (λ h. h.1) (λ k. refl) pair_to from-stands
        (λ g f j. let r = choice_supported P cs j in (r.tail_back b, r.head_back b))

    -- so where pairs between what stands stay, what is chosen is left
    pub chosen_left : ((i e : ℕ) → i < d → e < q.edges → Stand (get_or q.from e 0) (from_of w i) → Stand (get_or q.to e 0) (to_of w i) → Has (held_at w i) e → After i e)
        → (i e : ℕ) → i < d → e < q.edges → In (given_edge q e, pair_at w i) J → After i e
    chosen_left stays i e l le j = stays i e l le (from-stands i e l j) (to-stands i e l j) (chosen-before i e l le j)
