-- The greatest choice for the edges that leave a shut set of nodes does not depend on the other edges; components, and the steps that settle them.
use mathlib.Core.Path.{◌≡◌, refl, sym, ap, subst, ◌∙◌}
use mathlib.Core.Logic.{◌⊎◌, inl, inr, ⊎_elim}
use mathlib.Core.Bool.{Bool, true, false, not}
use mathlib.Core.List.{List}
use Prim.Native.Nat.{ℕ, zero, suc, ◌+◌, ◌<◌, ◌≤◌}
use native.Mathlib.Omega.{arith}
use lib.ListN.{length}
use lib.Dec.{T, eqb, eqb→eq, eqb_refl}
use Rattle.engine.specs.Lists.{◌implies◌, In, some, keep, below}
use Rattle.engine.specs.Simulation.{Pair, Edge, one_way, both_ways, Pattern}
use Rattle.matching.specs.Join.{Offer, choice, kept_for}
use Rattle.matching.specs.Components.{Nodes, leaving_of, join_in, state_at, Shut, apart, unreached, reaches, together, ready, OneStep, StepsTo, start, step}
use Rattle.engine.proofs.ListLaws.{and_left, and_right, both, or_left, or_right, or_cases, use_if, make_if, decide, cond_case, in_cast, every_in, in_every, every_fails, keep_length, keep_shorter, keep_keep, some_in, in_some, keep_in, in_keep, below_in, in_below, in_length}
use Rattle.engine.proofs.GreatestLaws.{greatest_part, greatest_ok, greatest_all}
use Rattle.engine.proofs.SimLaws.{not_both}
use Rattle.matching.proofs.JoinLaws.{Supported, supported_one, ChoicePair, choice_candidate, choice_supported, choice_most, kept_in, in_kept}

-- ---- an edge that leaves S
pub leaving_in : (S : Nodes) (Q : Pattern) {e : Edge} → In e (leaving_of S Q).edges → In e Q.edges × T (S e.from)
unfolding leaving_of
leaving_in S Q i = keep_in _ Q.edges i

pub in_leaving : (S : Nodes) (Q : Pattern) {e : Edge} → In e Q.edges → T (S e.from) → In e (leaving_of S Q).edges
unfolding leaving_of
in_leaving S Q i t = in_keep (λ e. S e.from) i t

pub leaving_rule : (S : Nodes) (Q : Pattern) → (leaving_of S Q).rule ≡ one_way
unfolding leaving_of
leaving_rule S Q = refl

pub leaving_one : (S : Nodes) (Q : Pattern) → (leaving_of S Q).rule ≡ both_ways → ⊥
leaving_one S Q b = not_both (sym (leaving_rule S Q) ∙ b)

-- ---- the three laws of the greatest choice for S
module _ (S : Nodes) (Q : Pattern) (cs : Offer) where
  abbrev pub JoinedIn : Edge → Pair → Type 0
  JoinedIn e f = In (e, f) (join_in S Q cs)

  -- a candidate of an edge that leaves S
  pub record Candidate (e : Edge) (f : Pair) : Type 0 where
    pub edge : In e Q.edges
    pub from : T (S e.from)
    pub listed : In f (cs e)

  pub join_in_candidate : {e : Edge} {f : Pair} → JoinedIn e f → Candidate e f
  unfolding join_in
  join_in_candidate i = let r = choice_candidate (leaving_of S Q) cs i in let m = leaving_in S Q r.0 in record { edge = m.0; from = m.1; listed = r.1 }

  pub join_in_supported : {e : Edge} {f : Pair} → JoinedIn e f → Supported (leaving_of S Q) JoinedIn e f
  unfolding join_in
  join_in_supported i = choice_supported (leaving_of S Q) cs i

  pub join_in_most : (K : Edge → Pair → Type 0) → ((e : Edge) (f : Pair) → K e f → Candidate e f) → ((e : Edge) (f : Pair) → K e f → Supported (leaving_of S Q) K e f) → (e : Edge) (f : Pair) → K e f → JoinedIn e f
  unfolding join_in
  join_in_most K c s = choice_most (leaving_of S Q) cs K (λ e f k. let r = c e f k in (in_leaving S Q r.edge r.from, r.listed)) s

  -- a choice that supports itself, by whatever rule, for edges among which are those that leave S lies in it as far as these go
  pub cut_to : (P : Pattern) → ((x : Edge) → In x Q.edges → T (S x.from) → In x P.edges) → (K : Edge → Pair → Type 0)
      → ((g : Edge) (h : Pair) → K g h → In g Q.edges × In h (cs g)) → ((g : Edge) (h : Pair) → K g h → Supported P K g h)
      → {e : Edge} {f : Pair} → K e f → T (S e.from) → JoinedIn e f
  cut_to P more K c s {e} {f} k t =
      join_in_most (λ g h. K g h × T (S g.from))
      (λ g h a. let r = c g h a.0 in record { edge = r.0; from = a.1; listed = r.1 })
      (λ g h a. let r = s g h a.0 in
      supported_one (leaving_rule S Q)
      (λ x j q. let m = leaving_in S Q j in let b = r.tail x (more x m.0 m.1) q in (b.0, (b.1, m.1), b.2))
      (λ x j q. let m = leaving_in S Q j in let b = r.head x (more x m.0 m.1) q in (b.0, (b.1, m.1), b.2)))
      e f (k, t)

  -- ---- the state between steps
  pub state_say : {e : Edge} {f : Pair} → In f (state_at S Q cs e) → (T (S e.from) × JoinedIn e f) ⊎ ((T (S e.from) → ⊥) × In f (cs e))
  unfolding state_at
  state_say {e} {f} =
      cond_case (λ l. In f l → (T (S e.from) × JoinedIn e f) ⊎ ((T (S e.from) → ⊥) × In f (cs e))) (S e.from) (kept_for (join_in S Q cs) e) (cs e)
      (λ t i. inl (t, kept_in _ i))
      (λ n i. inr (n, i))

  pub state_candidate : {e : Edge} {f : Pair} → In f (state_at S Q cs e) → In f (cs e)
  state_candidate i = ⊎_elim (λ r. (join_in_candidate r.1).listed) (λ r. r.1) (state_say i)

  pub state_old : {e : Edge} {f : Pair} → JoinedIn e f → In f (state_at S Q cs e)
  unfolding state_at
  state_old {e} {f} i =
      cond_case (λ l. In f l) (S e.from) (kept_for (join_in S Q cs) e) (cs e) (λ t. in_kept _ i) (λ n. absurd (n (join_in_candidate i).from))

  pub state_new : (e : Edge) (f : Pair) → (T (S e.from) → ⊥) → In f (cs e) → In f (state_at S Q cs e)
  unfolding state_at
  state_new e f n i = cond_case (λ l. In f l) (S e.from) (kept_for (join_in S Q cs) e) (cs e) (λ t. absurd (n t)) (λ _. i)

-- ---- the law of a step: of two shut sets the greatest choice for the larger, cut to the edges that leave the smaller, is the greatest choice for the smaller
module _ (S S' : Nodes) (Q : Pattern) (cs : Offer) (shut : Shut Q S) (within : (v : ℕ) → T (S v) → T (S' v)) where
  pub join_cut : {e : Edge} {f : Pair} → JoinedIn S' Q cs e f → T (S e.from) → JoinedIn S Q cs e f
  join_cut i t =
      cut_to S Q cs (leaving_of S' Q) (λ x j s. in_leaving S' Q j (within x.from s)) (JoinedIn S' Q cs)
      (λ g h k. let c = join_in_candidate S' Q cs k in (c.edge, c.listed))
      (λ g h k. join_in_supported S' Q cs k)
      i t

  pub join_grow : {e : Edge} {f : Pair} → JoinedIn S Q cs e f → JoinedIn S' Q cs e f
  join_grow {e} {f} i =
      join_in_most S' Q cs (JoinedIn S Q cs)
      (λ g h k. let c = join_in_candidate S Q cs k in record { edge = c.edge; from = within g.from c.from; listed = c.listed })
      (λ g h k. let c = join_in_candidate S Q cs k in let s = join_in_supported S Q cs k in
      supported_one (leaving_rule S' Q)
      (λ x j q. s.tail x (in_leaving S Q (leaving_in S' Q j).0 (subst (λ z. T (S z)) (sym q) c.from)) q)
      (λ x j q. s.head x (in_leaving S Q (leaving_in S' Q j).0 (subst (λ z. T (S z)) (sym q) (shut g c.edge c.from))) q))
      e f i

-- ---- the greatest choice by the rule of the query may start from the state at any set of nodes
module _ (S : Nodes) (Q : Pattern) (cs : Offer) where
  pub after_more : {e : Edge} {f : Pair} → In (e, f) (choice Q (state_at S Q cs)) → In (e, f) (choice Q cs)
  after_more {e} {f} i =
      choice_most Q cs (ChoicePair Q (state_at S Q cs))
      (λ g h k. let c = choice_candidate Q (state_at S Q cs) k in (c.0, state_candidate S Q cs c.1))
      (λ g h k. choice_supported Q (state_at S Q cs) k)
      e f i

  -- a choice from the candidates that supports itself is one from the state
  pub choice_state : (K : Edge → Pair → Type 0) → ((g : Edge) (h : Pair) → K g h → In g Q.edges × In h (cs g)) → ((g : Edge) (h : Pair) → K g h → Supported Q K g h)
      → (e : Edge) (f : Pair) → K e f → In e Q.edges × In f (state_at S Q cs e)
  choice_state K c s e f k =
      let r = c e f k in
      (r.0, ⊎_elim (λ t. state_old S Q cs (cut_to S Q cs Q (λ x j _. j) K c s k t)) (λ n. state_new S Q cs e f n r.1) (decide (S e.from)))

  pub after_less : {e : Edge} {f : Pair} → In (e, f) (choice Q cs) → In (e, f) (choice Q (state_at S Q cs))
  after_less {e} {f} i =
      choice_most Q (state_at S Q cs) (ChoicePair Q cs)
      (choice_state (ChoicePair Q cs) (λ g h k. choice_candidate Q cs k) (λ g h k. choice_supported Q cs k))
      (λ g h k. choice_supported Q cs k)
      e f i

-- ---- reaching
not_say : (b : Bool) → T (not b) → T b → ⊥
not_say true h = λ x. h
not_say false h = λ x. x

not_by : (b : Bool) → (T b → ⊥) → T (not b)
not_by true h = h tt
not_by false h = tt

not_if : (a b : Bool) → (T (a implies b) → ⊥) → T a × (T b → ⊥)
unfolding ◌implies◌
not_if true b h = (tt, h)
not_if false b h = absurd (h tt)

length_below : (n : ℕ) → length (below n) ≡ n
unfolding below
length_below zero = refl
length_below (suc n) = ap suc (length_below n)

-- a narrower test that fails at a member that the wider one keeps keeps fewer
keep_fewer : (p q : ℕ → Bool) (l : List ℕ) (x : ℕ) → ((y : ℕ) → In y l → T (p y) → T (q y)) → In x l → T (q x) → (T (p x) → ⊥) → length (keep p l) < length (keep q l)
keep_fewer p q l x w i a b =
    subst (λ k. length k < length (keep q l)) (keep_keep p q l w) (keep_shorter p (keep q l) (λ h. b (every_in p h (in_keep q i a))))

module _ (Q : Pattern) where
  -- the edges' ends are nodes
  abbrev pub Ended : Type 0
  Ended = (e : Edge) → In e Q.edges → (e.from < length Q.labels) × (e.to < length Q.labels)

  listed_say : (v : ℕ) (l : List ℕ) → T (some (eqb v) l) → In v l
  listed_say v l t = let r = some_in _ l t in in_cast (sym (eqb→eq v r.0 r.2)) r.1

  listed_by : (v : ℕ) {l : List ℕ} → In v l → T (some (eqb v) l)
  listed_by v i = in_some _ i (eqb_refl v)

  module _ (u : ℕ) where
    abbrev Out : ℕ → Type 0
    Out v = In v (unreached Q u)

    out-other : (v : ℕ) → Out v → u ≡ v → ⊥
    unfolding unreached
    out-other v i e = not_say (eqb u v) (keep_in _ (below (length Q.labels)) (greatest_part _ _ v i)).1 (subst (λ z. T (eqb u z)) e (eqb_refl u))

    -- nothing that is reached leads to what is not
    out-back : (e : Edge) → In e Q.edges → Out e.to → Out e.from
    unfolding unreached apart
    out-back e i o = listed_say e.from _ (use_if _ _ (every_in _ (greatest_ok (apart Q) _ e.to o) i) (eqb_refl e.to))

    out-most : (S : ℕ → Type 0) → ((v : ℕ) → S v → (v < length Q.labels) × (u ≡ v → ⊥)) → ((e : Edge) → In e Q.edges → S e.to → S e.from) → (v : ℕ) → S v → Out v
    unfolding unreached apart
    out-most S b c v s =
        greatest_all (apart Q) S
        (λ l f w q. in_every _ Q.edges λ e i. make_if _ _ λ t. listed_by e.from (f e.from (c e i (subst S (sym (eqb→eq e.to w t)) q))))
        _
        (λ w q. let r = b w q in in_keep _ (in_below _ w r.0) (not_by (eqb u w) (λ t. r.1 (eqb→eq u w t))))
        v s

  reaches_out : (u v : ℕ) → T (reaches Q u v) → Out u v → ⊥
  unfolding reaches
  reaches_out u v t o = not_say (some (eqb v) (unreached Q u)) t (listed_by v o)

  out_reaches : (u v : ℕ) → (Out u v → ⊥) → T (reaches Q u v)
  unfolding reaches
  out_reaches u v n = not_by (some (eqb v) (unreached Q u)) (λ t. n (listed_say v _ t))

  pub reaches_self : (u : ℕ) → T (reaches Q u u)
  reaches_self u = out_reaches u u (λ o. out-other u u o refl)

  -- what u reaches is shut
  pub reaches_shut : (u : ℕ) → Shut Q (reaches Q u)
  reaches_shut u e i t = out_reaches u e.to (λ o. reaches_out u e.from t (out-back u e i o))

  module _ (ends : Ended) where
    -- and is the least shut set that has u
    pub reaches_least : (S : Nodes) → Shut Q S → (u v : ℕ) → T (S u) → v < length Q.labels → T (reaches Q u v) → T (S v)
    reaches_least S shut u v s l t = by (decide (S v))
      where
        back : (e : Edge) → In e Q.edges → (e.to < length Q.labels) × (T (S e.to) → ⊥) → (e.from < length Q.labels) × (T (S e.from) → ⊥)
        back e i o = ((ends e i).0, λ h. o.1 (shut e i h))

        by : T (S v) ⊎ (T (S v) → ⊥) → T (S v)
        by (inl h) = h
        by (inr n) =
            absurd (reaches_out u v t (out-most u (λ w. (w < length Q.labels) × (T (S w) → ⊥)) (λ w o. (o.0, λ e. o.1 (subst (λ z. T (S z)) e s))) back v (l, n)))

    reaches-through : (u v w : ℕ) → w < length Q.labels → T (reaches Q u v) → T (reaches Q v w) → T (reaches Q u w)
    reaches-through u v w l a b = reaches_least (reaches Q u) (reaches_shut u) v w a l b

  -- ---- components
  pub together_say : (u v : ℕ) → T (together Q u v) → T (reaches Q u v) × T (reaches Q v u)
  unfolding together
  together_say u v t = (and_left _ _ t, and_right _ _ t)

  pub together_by : (u v : ℕ) → T (reaches Q u v) → T (reaches Q v u) → T (together Q u v)
  unfolding together
  together_by u v a b = both _ _ a b

  pub together_self : (u : ℕ) → T (together Q u u)
  together_self u = together_by u u (reaches_self u) (reaches_self u)

  pub ready_say : (S : Nodes) (c : ℕ) → T (ready Q S c) → (e : Edge) → In e Q.edges → T (together Q c e.from) → T (S e.to) ⊎ T (together Q c e.to)
  unfolding ready
  ready_say S c r e i k = or_cases (S e.to) _ (use_if _ _ (every_in _ r i) k)

  pub ready_by : (S : Nodes) (c : ℕ) → ((e : Edge) → In e Q.edges → T (together Q c e.from) → T (S e.to) ⊎ T (together Q c e.to)) → T (ready Q S c)
  unfolding ready
  ready_by S c f = in_every _ Q.edges λ e i. make_if _ _ λ t. ⊎_elim (λ s. or_left _ _ s) (λ h. or_right (S e.to) _ h) (f e i t)

  ready_fails : (S : Nodes) (c : ℕ) → (T (ready Q S c) → ⊥) → (e : Edge) × In e Q.edges × T (together Q c e.from) × (T (S e.to) → ⊥) × (T (together Q c e.to) → ⊥)
  unfolding ready
  ready_fails S c n =
      let r = every_fails _ Q.edges n in
      let s = not_if _ _ r.2 in
      (r.0, r.1, s.0, λ t. s.1 (or_left _ _ t), λ t. s.1 (or_right (S r.0.to) _ t))

  -- ---- one step
  module _ (ends : Ended) {S S' : Nodes} (o : OneStep Q S S') where
    cast : {a b : Bool} → a ≡ b → T a → T b
    cast e t = subst T e t

    pub step_old : (v : ℕ) → v < length Q.labels → T (S v) → T (S' v)
    step_old v l t = cast (sym (o.adds v l)) (or_left _ _ t)

    pub step_in : (v : ℕ) → v < length Q.labels → T (together Q o.node v) → T (S' v)
    step_in v l t = cast (sym (o.adds v l)) (or_right (S v) _ t)

    pub step_new : (v : ℕ) → v < length Q.labels → T (S' v) → T (S v) ⊎ T (together Q o.node v)
    step_new v l t = or_cases (S v) _ (cast (o.adds v l) t)

    pub step_shut : Shut Q S → Shut Q S'
    step_shut shut e i t =
        let l = ends e i in
        ⊎_elim (λ s. step_old e.to l.1 (shut e i s))
        (λ k. ⊎_elim (λ s. step_old e.to l.1 s) (λ h. step_in e.to l.1 h) (ready_say S o.node o.ready e i k))
        (step_new e.from l.0 t)

    -- a shut set has a whole component or none of it
    pub step_apart : Shut Q S → (v : ℕ) → T (together Q o.node v) → T (S v) → ⊥
    step_apart shut v t s = o.new (reaches_least ends S shut v o.node s o.there (together_say o.node v t).1)

    -- the nodes that are not settled become fewer
    step_falls : length (keep (λ v. not (S' v)) (below (length Q.labels))) < length (keep (λ v. not (S v)) (below (length Q.labels)))
    step_falls =
        keep_fewer (λ v. not (S' v)) (λ v. not (S v)) (below (length Q.labels)) o.node
        (λ v i t. not_by (S v) (λ s. not_say (S' v) t (step_old v (below_in _ i) s)))
        (in_below _ o.node o.there) (not_by (S o.node) o.new) (λ t. not_say (S' o.node) t (step_in o.node o.there (together_self o.node)))

  -- how many nodes u reaches
  span : ℕ → ℕ
  span u = length (keep (reaches Q u) (below (length Q.labels)))

  -- while some node is not settled, a component is ready: no step waits
  module _ (ends : Ended) (S : Nodes) where
    abbrev pub Next : Type 0
    Next = (c : ℕ) × (c < length Q.labels) × (T (S c) → ⊥) × T (ready Q S c)

    -- a node of another component that u leads to reaches fewer
    span-falls : (u : ℕ) → u < length Q.labels → (e : Edge) → In e Q.edges → T (together Q u e.from) → (T (together Q u e.to) → ⊥) → span e.to < span u
    unfolding span
    span-falls u l e i t f =
        let there : T (reaches Q u e.to) = reaches_shut u e i (together_say u e.from t).0 in
        keep_fewer (reaches Q e.to) (reaches Q u) (below (length Q.labels)) u
        (λ v i r. reaches-through ends u e.to v (below_in _ i) there r)
        (in_below _ u l) (reaches_self u) (λ r. f (together_by u e.to there r))

    next-by : (u : ℕ) → u < length Q.labels → (T (S u) → ⊥) → ((v : ℕ) → span v < span u → v < length Q.labels → (T (S v) → ⊥) → Next) → T (ready Q S u) ⊎ (T (ready Q S u) → ⊥) → Next
    next-by u l n rest (inl t) = (u, l, n, t)
    next-by u l n rest (inr f) = let r = ready_fails S u f in rest r.0.to (span-falls u l r.0 r.1 r.2 r.4) (ends r.0 r.1).1 r.3

    next : (m u : ℕ) → span u < m → u < length Q.labels → (T (S u) → ⊥) → Next
    next zero u h l n = absurd (omega arith)
    next (suc m) u h l n = next-by u l n (λ v q. next m v (omega arith)) (decide (ready Q S u))

    pub ready_one : (u : ℕ) → u < length Q.labels → (T (S u) → ⊥) → Next
    ready_one u l n = next (suc (span u)) u (omega arith) l n

  -- ---- steps one after the other
  module _ (ends : Ended) where
    pub steps_shut : {k : ℕ} {S : Nodes} → StepsTo Q k S → Shut Q S
    steps_shut (start n) = λ e i t. absurd (subst T (n e.from (ends e i).0) t)
    steps_shut (step s o) = step_shut ends o (steps_shut s)

    left-few : {k : ℕ} {S : Nodes} → StepsTo Q k S → length (keep (λ v. not (S v)) (below (length Q.labels))) + k ≤ length Q.labels
    left-few (start {S = S} n) = let l = keep_length (λ v. not (S v)) (below (length Q.labels)) in let b = length_below (length Q.labels) in omega arith
    left-few (step s o) = let r = left-few s in let f = step_falls ends o in omega arith

    -- there are no more steps than nodes
    pub steps_few : {k : ℕ} {S : Nodes} → StepsTo Q k S → k ≤ length Q.labels
    steps_few s = let r = left-few s in omega arith

    -- as many steps as there are nodes settle all
    pub steps_all : {k : ℕ} {S : Nodes} → StepsTo Q k S → length Q.labels ≤ k → (u : ℕ) → u < length Q.labels → T (S u)
    steps_all {S = S} s l u h =
        ⊎_elim (λ (t : T (S u)). t)
        (λ (n : T (S u) → ⊥). absurd (let z = in_length (in_keep (λ v. not (S v)) (in_below _ u h) (not_by (S u) n)) in let r = left-few s in omega arith))
        (decide (S u))
