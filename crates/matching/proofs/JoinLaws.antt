-- The join: its three laws by members, its candidates where the sheets are those of a graph, and what each list of an answer is.
use mathlib.Core.Path.{◌≡◌, refl, sym, ap, subst, ◌∙◌}
use mathlib.Core.Logic.{⊎_elim}
use mathlib.Core.Bool.{Bool, true, false, cond}
use mathlib.Core.List.{List, [], ◌∷◌}
use Prim.Native.Nat.{ℕ, zero, suc, ◌<◌, zero-le, suc-le-suc}
use native.Mathlib.Nat.{le_of_suc-le-suc, not-suc-le-zero}
use native.Mathlib.Omega.{arith}
use lib.ListN.{length, get_or}
use lib.Dec.{T, eqb, eqb→eq}
use Rattle.packed.specs.Formats.{code}
use Rattle.engine.specs.Lists.{◌and◌, ◌or◌, ◌implies◌, In, here, there, some, gather, each}
use Rattle.engine.specs.Simulation.{Pair, Edge, same_edge, as_pair, no_edge, one_way, both_ways, Pattern, Graph, as_graph, ascending, view_sheet}
use Rattle.engine.proofs.ByEdge.{row_of}
use Rattle.matching.proofs.ByEdge.{view_of, answer_to}
use Rattle.matching.specs.Join.{View, pair_of, is_match, some_match, under, candidates, Kept, supported_out, supported_in, supported, Offer, choice, join, complete, kept_for, answer_sets}
use Rattle.engine.proofs.ListLaws.{and_left, and_right, both, or_left, or_right, or_cases, use_if, make_if, equal_test, cond_case, not_in_none, in_cast, every_in, in_every, some_in, in_some, keep_in, in_keep, append_in, in_append_left, in_append_right, gather_in, in_gather, each_in, in_each}
use Rattle.engine.proofs.GreatestLaws.{greatest_part, greatest_ok, greatest_all}
use Rattle.engine.proofs.SimLaws.{same_edge_lem, same_edge_refl, asks_say, asks_by, not_both}
use Rattle.engine.proofs.MatchLaws.{Matches, row_say, row_by}
use Rattle.engine.proofs.CodeLaws.{in_member, member_in, code_same, ascending_say, ascending_by}
use Rattle.matching.proofs.MatchSetLaws.{Narrow, matches_narrow, view_each}

-- ---- what `supported` says, for any choice K of pairs
-- each edge of Q that has u at its end keeps a pair that has v at the same end
abbrev pub KeepsAt : (Edge → ℕ) → (Pair → ℕ) → Pattern → (Edge → Pair → Type 0) → ℕ → ℕ → Type 0
KeepsAt end at Q K u v = (g : Edge) → In g Q.edges → end g ≡ u → (h : Pair) × K g h × (at h ≡ v)

pub record Supported (Q : Pattern) (K : Edge → Pair → Type 0) (e : Edge) (f : Pair) : Type 0 where
  pub tail : KeepsAt (λ g. g.from) (λ h. h.0) Q K e.from f.0
  pub head : KeepsAt (λ g. g.from) (λ h. h.0) Q K e.to f.1
  pub tail_back : Q.rule ≡ both_ways → KeepsAt (λ g. g.to) (λ h. h.1) Q K e.from f.0
  pub head_back : Q.rule ≡ both_ways → KeepsAt (λ g. g.to) (λ h. h.1) Q K e.to f.1

-- one-way the edges that leave are all
pub supported_one : {Q : Pattern} {K : Edge → Pair → Type 0} {e : Edge} {f : Pair} → Q.rule ≡ one_way
    → KeepsAt (λ g. g.from) (λ h. h.0) Q K e.from f.0 → KeepsAt (λ g. g.from) (λ h. h.0) Q K e.to f.1 → Supported Q K e f
supported_one r t h =
    record { tail = t; head = h; tail_back = λ b. absurd (not_both (sym r ∙ b)); head_back = λ b. absurd (not_both (sym r ∙ b)) }

module _ (end : Edge → ℕ) (at : Pair → ℕ) (Q : Pattern) (l : List Kept) (u v : ℕ) where
  abbrev keeps_at : Edge → Bool
  keeps_at g = eqb (end g) u implies some (λ j. same_edge j.0 g and eqb (at j.1) v) l

  keeps_say : ((g : Edge) → In g Q.edges → T (keeps_at g)) → KeepsAt end at Q (λ g h. In (g, h) l) u v
  keeps_say t g i q =
      let r = some_in _ l (use_if _ _ (t g i) (equal_test (end g) q)) in
      (r.0.1, subst (λ z. In (z, r.0.1) l) (same_edge_lem r.0.0 g (and_left _ _ r.2)) r.1, eqb→eq _ v (and_right _ _ r.2))

  keeps_by : KeepsAt end at Q (λ g h. In (g, h) l) u v → (g : Edge) → In g Q.edges → T (keeps_at g)
  keeps_by k g i =
      make_if _ _ λ t. let r = k g i (eqb→eq (end g) u t) in in_some _ r.1 (both _ _ (same_edge_refl g) (equal_test (at r.0) r.2))

module _ (Q : Pattern) (l : List Kept) where
  pub supported_say : {e : Edge} {f : Pair} → T (supported Q l (e, f)) → Supported Q (λ g h. In (g, h) l) e f
  unfolding supported supported_out supported_in
  supported_say t = record {
    tail = keeps_say (λ g. g.from) (λ h. h.0) Q l _ _ (λ g i. and_left _ _ (every_in _ (and_left _ _ t) i));
    head = keeps_say (λ g. g.from) (λ h. h.0) Q l _ _ (λ g i. and_right _ _ (every_in _ (and_left _ _ t) i));
    tail_back = λ r. keeps_say (λ g. g.to) (λ h. h.1) Q l _ _ (λ g i. and_left _ _ (every_in _ (use_if _ _ (and_right _ _ t) (asks_by r)) i));
    head_back = λ r. keeps_say (λ g. g.to) (λ h. h.1) Q l _ _ (λ g i. and_right _ _ (every_in _ (use_if _ _ (and_right _ _ t) (asks_by r)) i));
  }

  pub supported_by : {e : Edge} {f : Pair} → Supported Q (λ g h. In (g, h) l) e f → T (supported Q l (e, f))
  unfolding supported supported_out supported_in
  supported_by s =
      both _ _
      (in_every _ Q.edges λ g i.
      both _ _ (keeps_by (λ g. g.from) (λ h. h.0) Q l _ _ s.tail g i) (keeps_by (λ g. g.from) (λ h. h.0) Q l _ _ s.head g i))
      (make_if _ _ λ t.
      let r = asks_say Q.rule t in
      in_every _ Q.edges λ g i.
      both _ _ (keeps_by (λ g. g.to) (λ h. h.1) Q l _ _ (s.tail_back r) g i) (keeps_by (λ g. g.to) (λ h. h.1) Q l _ _ (s.head_back r) g i))

-- a larger choice supports what a smaller one does
pub supported_more : (Q : Pattern) (K L : Edge → Pair → Type 0) → ((e : Edge) (f : Pair) → K e f → L e f) → {e : Edge} {f : Pair} → Supported Q K e f → Supported Q L e f
supported_more Q K L m s = record { tail = more s.tail; head = more s.head; tail_back = λ r. more (s.tail_back r); head_back = λ r. more (s.head_back r) }
  where
    more : {end : Edge → ℕ} {at : Pair → ℕ} {u v : ℕ} → KeepsAt end at Q K u v → KeepsAt end at Q L u v
    more k g i q = let r = k g i q in (r.0, m g r.0 r.1, r.2)

-- ---- the greatest choice is one from the candidates, is supported by itself, and holds every such choice
module _ (Q : Pattern) (cs : Offer) where
  abbrev pub ChoicePair : Edge → Pair → Type 0
  ChoicePair e f = In (e, f) (choice Q cs)

  pub choice_candidate : {e : Edge} {f : Pair} → ChoicePair e f → In e Q.edges × In f (cs e)
  choice_candidate {e} {f} i =
      let r = gather_in _ Q.edges (greatest_part _ _ (e, f) i) in
      let s = each_in _ (cs r.0) r.2 in
      let p : e ≡ r.0 = ap (λ k. k.0) s.2 in
      let q : f ≡ s.0 = ap (λ k. k.1) s.2 in
      (in_cast (sym p) r.1, subst (λ z. In f (cs z)) (sym p) (in_cast (sym q) s.1))

  pub choice_supported : {e : Edge} {f : Pair} → ChoicePair e f → Supported Q ChoicePair e f
  choice_supported {e} {f} i = supported_say Q _ (greatest_ok (supported Q) _ (e, f) i)

  pub choice_most : (K : Edge → Pair → Type 0) → ((e : Edge) (f : Pair) → K e f → In e Q.edges × In f (cs e)) → ((e : Edge) (f : Pair) → K e f → Supported Q K e f) → (e : Edge) (f : Pair) → K e f → ChoicePair e f
  choice_most K c s e f k =
      greatest_all (supported Q) (λ j. K j.0 j.1)
      (λ l m j q. supported_by Q l (supported_more Q K (λ g h. In (g, h) l) (λ g h r. m (g, h) r) (s j.0 j.1 q)))
      _
      (λ j q. let r = c j.0 j.1 q in in_gather _ r.0 (in_each _ r.1))
      (e, f) k

-- ---- the pairs kept for an edge
module _ (l : List Kept) where
  pub kept_in : {e : Edge} {f : Pair} → In f (kept_for l e) → In (e, f) l
  unfolding kept_for
  kept_in {e} {f} i =
      let r = each_in _ _ i in
      let s = keep_in _ l r.1 in
      subst (λ z. In (e, z) l) (sym r.2) (subst (λ z. In (z, r.0.1) l) (same_edge_lem r.0.0 e s.1) s.0)

  pub in_kept : {e : Edge} {f : Pair} → In (e, f) l → In f (kept_for l e)
  unfolding kept_for
  in_kept {e} {f} i = in_each (λ k. k.1) {x = (e, f)} (in_keep _ i (same_edge_refl e))

-- ---- the join is the greatest choice from the views' candidates
module _ (Q : Pattern) (vs : List View) where
  abbrev pub JoinedPair : Edge → Pair → Type 0
  JoinedPair e f = In (e, f) (join Q vs)

  pub join_candidate : {e : Edge} {f : Pair} → JoinedPair e f → In e Q.edges × In f (candidates Q vs e)
  unfolding join
  join_candidate i = choice_candidate Q (candidates Q vs) i

  pub join_supported : {e : Edge} {f : Pair} → JoinedPair e f → Supported Q JoinedPair e f
  unfolding join
  join_supported i = choice_supported Q (candidates Q vs) i

  pub join_most : (K : Edge → Pair → Type 0) → ((e : Edge) (f : Pair) → K e f → In e Q.edges × In f (candidates Q vs e)) → ((e : Edge) (f : Pair) → K e f → Supported Q K e f) → (e : Edge) (f : Pair) → K e f → JoinedPair e f
  unfolding join
  join_most = choice_most Q (candidates Q vs)

  -- ---- the lists of the answer
  pub complete_say : T (complete Q (join Q vs)) → (e : Edge) → In e Q.edges → (f : Pair) × JoinedPair e f
  unfolding complete
  complete_say t e i =
      let r = some_in _ (join Q vs) (every_in _ t i) in
      (r.0.1, subst (λ z. In (z, r.0.1) (join Q vs)) (same_edge_lem r.0.0 e r.2) r.1)

  pub complete_by : ((e : Edge) → In e Q.edges → (f : Pair) × JoinedPair e f) → T (complete Q (join Q vs))
  unfolding complete
  complete_by h = in_every _ Q.edges λ e i. in_some _ (h e i).1 (same_edge_refl e)

  pub answer_say : {e : Edge} {f : Pair} → In f (answer_to Q vs e) → T (complete Q (join Q vs)) × JoinedPair e f
  unfolding answer_to
  answer_say {e} {f} =
      cond_case (λ l. In f l → T (complete Q (join Q vs)) × JoinedPair e f) (complete Q (join Q vs)) (kept_for (join Q vs) e) []
      (λ t i. (t, kept_in _ i))
      (λ t i. absurd (not_in_none i))

  pub answer_by_lem : {e : Edge} {f : Pair} → T (complete Q (join Q vs)) → JoinedPair e f → In f (answer_to Q vs e)
  unfolding answer_to
  answer_by_lem {e} {f} t i = cond_case (λ l. In f l) (complete Q (join Q vs)) (kept_for (join Q vs) e) [] (λ h. in_kept _ i) (λ h. absurd (h t))

  pub answer_each : answer_sets Q vs ≡ each (λ e. ascending (answer_to Q vs e)) Q.edges
  unfolding answer_sets answer_to
  answer_each = refl

-- ---- candidates
pub code_pair : {f : Pair} → f.1 < 4096 → pair_of (code f.0 f.1) ≡ f
unfolding pair_of
code_pair {f} h = pair_same (omega arith) (omega arith)
  where
    pair_same : {g : Pair} → g.0 ≡ f.0 → g.1 ≡ f.1 → g ≡ f
    pair_same a b = λ i. (a i, b i)

pub pair_code : (c : ℕ) → code (pair_of c).0 (pair_of c).1 ≡ c
unfolding pair_of
pair_code c = omega arith

-- a list of codes has the pair
pub listed_pair : {f : Pair} (l : List Pair) → f.1 < 4096 → ((g : Pair) → In g l → g.1 < 4096) → In (code f.0 f.1) (ascending l) → In f l
listed_pair l h n i = let r = ascending_say l i in in_cast (sym (code_same h (n r.0 r.1) r.2)) r.1

-- what it is for an edge of a view to match
pub match_say : (e g : Edge) (l : List ℕ) → T (is_match e g l) → (g.kind ≡ e.kind) × In (code e.from e.to) l
unfolding is_match
match_say e g l t = (eqb→eq g.kind e.kind (and_left _ _ t), member_in l (true_by _ (and_right _ _ t)))
  where
    true_by : (b : Bool) → T b → b ≡ true
    true_by true t = refl
    true_by false t = absurd t

pub match_by : (e g : Edge) {l : List ℕ} → g.kind ≡ e.kind → In (code e.from e.to) l → T (is_match e g l)
unfolding is_match
match_by e g k i = both _ _ (equal_test g.kind k) (subst T (sym (in_member i)) tt)

-- one that matches, by its number
module _ (e : Edge) where
  pub some_match_say : (gs : List Edge) (ls : List (List ℕ)) → T (some_match e gs ls)
      → (f : ℕ) × (f < length gs) × ((get_or gs f no_edge).kind ≡ e.kind) × In (code e.from e.to) (get_or ls f [])
  unfolding some_match
  some_match_say [] ls t = absurd t
  some_match_say (g ∷ gs) [] t = absurd t
  some_match_say (g ∷ gs) (l ∷ ls) t =
      ⊎_elim
      (λ m. let r = match_say e g l m in (0, suc-le-suc zero-le, r.0, r.1))
      (λ m. let r = some_match_say gs ls m in (suc r.0, suc-le-suc r.1, r.2, r.3))
      (or_cases _ _ t)

  pub some_match_by : (gs : List Edge) (ls : List (List ℕ)) (f : ℕ) → f < length gs → (get_or gs f no_edge).kind ≡ e.kind → In (code e.from e.to) (get_or ls f [])
      → T (some_match e gs ls)
  unfolding some_match
  some_match_by [] ls f h k i = absurd (not-suc-le-zero h)
  some_match_by (g ∷ gs) [] f h k i = absurd (not_in_none i)
  some_match_by (g ∷ gs) (l ∷ ls) zero h k i = or_left _ _ (match_by e g k i)
  some_match_by (g ∷ gs) (l ∷ ls) (suc f) h k i = or_right (is_match e g l) _ (some_match_by gs ls f (le_of_suc-le-suc h) k i)

  -- where each has its own list
  pub some_match_each : (a : Edge → List ℕ) (l : List Edge) → some_match e l (each a l) ≡ some (λ g. is_match e g (a g)) l
  unfolding some_match each some
  some_match_each a [] = refl
  some_match_each a (g ∷ l) = ap (λ b. is_match e g (a g) or b) (some_match_each a l)

module _ (e : Edge) (a b : Edge → List ℕ) where
  pub under_in : (l : List Edge) {c : ℕ} → In c (under e l (each a l) (each b l)) → (g : Edge) × In g l × T (is_match e g (a g)) × In c (b g)
  unfolding under each
  under_in [] i = absurd (not_in_none i)
  under_in (g ∷ l) {c} i = ⊎_elim first (λ j. let r = under_in l {c = c} j in (r.0, there r.1, r.2, r.3)) (append_in (cond (is_match e g (a g)) (b g) []) i)
    where
      first : In c (cond (is_match e g (a g)) (b g) []) → (h : Edge) × In h (g ∷ l) × T (is_match e h (a h)) × In c (b h)
      first =
          cond_case (λ k. In c k → (h : Edge) × In h (g ∷ l) × T (is_match e h (a h)) × In c (b h)) (is_match e g (a g)) (b g) []
          (λ t j. (g, here refl, t, j))
          (λ t j. absurd (not_in_none j))

  pub in_under : {g : Edge} {l : List Edge} {c : ℕ} → In g l → T (is_match e g (a g)) → In c (b g) → In c (under e l (each a l) (each b l))
  unfolding under each
  in_under {c = c} (here {x = h} {l = l} q) t j =
      in_append_left _ (cond_case (λ k. In c k) (is_match e h (a h)) (b h) [] (λ s. subst (λ z. In c (b z)) q j) (λ s. absurd (s (subst (λ z. T (is_match e z (a z))) q t))))
  in_under (there {x = h} n) t j = in_append_right (cond (is_match e h (a h)) (b h) []) (in_under n t j)

-- a view and its edge, of the kind of e, that both e, of the query, and f, of the graph, match
pub record Found (Q : Pattern) (Ps : List Pattern) (G : Graph) (e : Edge) (f : Pair) : Type 0 where
  pub view : Pattern
  pub given : In view Ps
  pub at : Edge
  pub at_edge : In at view.edges
  pub kind : at.kind ≡ e.kind
  pub of_query : Matches view (as_graph Q) at (as_pair e)
  pub of_graph : Matches view G at f

module _ (Q : Pattern) (Ps : List Pattern) (G : Graph) (nq : Narrow (as_graph Q)) (ng : Narrow G) where
  -- both lists of an edge g of a view P, read
  found_at : (P : Pattern) (g e : Edge) (f : Pair) → In P Ps → In g P.edges → e.to < 4096 → T (is_match e g (ascending (row_of P (as_graph Q) g))) → In f (row_of P G g) → Found Q Ps G e f
  found_at P g e f p i h t m =
      let s = match_say e g _ t in
      let q = listed_pair {f = as_pair e} (row_of P (as_graph Q) g) h (λ k n. (matches_narrow nq (row_say P (as_graph Q) n)).1) s.1 in
      record { view = P; given = p; at = g; at_edge = i; kind = s.0; of_query = row_say P (as_graph Q) q; of_graph = row_say P G m }

  pair_in : (P : Pattern) (g : Edge) (c : ℕ) → In c (ascending (row_of P G g)) → In (pair_of c) (row_of P G g)
  pair_in P g c i = from (ascending_say (row_of P G g) i)
    where
      from : (f : Pair) × In f (row_of P G g) × (c ≡ code f.0 f.1) → In (pair_of c) (row_of P G g)
      from (f, j, q) = in_cast (sym (ap pair_of q ∙ code_pair (matches_narrow ng (row_say P G j)).1)) j

  found_under : (P : Pattern) (e : Edge) (c : ℕ) → In P Ps → e.to < 4096 → In c (under e P.edges (view_sheet P (as_graph Q)) (view_sheet P G)) → Found Q Ps G e (pair_of c)
  found_under P e c p h i = from (under_in e (λ g. ascending (row_of P (as_graph Q) g)) (λ g. ascending (row_of P G g)) P.edges (rw (view_each P (as_graph Q), view_each P G) at i))
    where
      from : (g : Edge) × In g P.edges × T (is_match e g (ascending (row_of P (as_graph Q) g))) × In c (ascending (row_of P G g)) → Found Q Ps G e (pair_of c)
      from (g, j, t, k) = found_at P g e (pair_of c) p j h t (pair_in P g c k)

  pub candidates_say : {e : Edge} {f : Pair} → e.to < 4096 → In f (candidates Q (each (view_of G) Ps) e) → Found Q Ps G e f
  unfolding candidates view_of
  candidates_say {e} {f} h i = code_of (each_in pair_of _ i)
    where
      view_of_lem : (c : ℕ) (v : View) → In c (under e v.pattern.edges (view_sheet v.pattern (as_graph Q)) v.sheet) → (P : Pattern) × In P Ps × (v ≡ view_of G P) → Found Q Ps G e (pair_of c)
      view_of_lem c v j (P, p, q) = found_under P e c p h (subst (λ w. In c (under e w.pattern.edges (view_sheet w.pattern (as_graph Q)) w.sheet)) q j)

      code_of : (c : ℕ) × In c (gather (λ v. under e v.pattern.edges (view_sheet v.pattern (as_graph Q)) v.sheet) (each (view_of G) Ps)) × (f ≡ pair_of c) → Found Q Ps G e f
      code_of (c, j, q) = let r = gather_in _ (each (view_of G) Ps) j in subst (Found Q Ps G e) (sym q) (view_of_lem c r.0 r.2 (each_in (view_of G) Ps r.1))

  pub candidates_by : {e : Edge} {f : Pair} → Found Q Ps G e f → In f (candidates Q (each (view_of G) Ps) e)
  unfolding candidates view_of
  candidates_by {e} {f} c =
      let P = c.view in
      let k : In (code f.0 f.1) (under e P.edges (each (λ g. ascending (row_of P (as_graph Q) g)) P.edges) (each (λ g. ascending (row_of P G g)) P.edges)) =
      in_under e _ _ c.at_edge (match_by e c.at c.kind (ascending_by (row_by P (as_graph Q) c.of_query))) (ascending_by (row_by P G c.of_graph)) in
      in_cast (code_pair (matches_narrow ng c.of_graph).1) (in_each pair_of (in_gather _ (in_each (view_of G) c.given) (rw (view_each P (as_graph Q), view_each P G) k)))
