-- Nodes of a query by masks: what a node leads to, its component, and the step that is next.
use mathlib.Core.Path.{◌≡◌, refl, ◌∙◌, sym, subst}
use mathlib.Core.Logic.{inl, inr, ⊎_elim}
use mathlib.Core.Bool.{Bool}
use mathlib.Core.List.{List}
use Prim.Native.Nat.{ℕ, ◌+◌, ◌-◌, ◌≤◌, ◌<◌, ◌^◌}
use native.Mathlib.Omega.{arith}
use lib.ListN.{length, get_or, length-take}
use lib.Dec.{T, ltb, ltb→lt, lt→ltb}
use lib.Bits.{bit_and, bit_or}
use Rattle.packed.specs.declared.by_value.Pattern.{Pattern as Given}
use Rattle.packed.proofs.OrderCases.{lt_or_ge}
use Rattle.engine.specs.Lists.{◌or◌, In}
use Rattle.engine.specs.Simulation.{bit, Edge, both_ways}
use Rattle.engine.specs.Loaded.{given_edge, pattern_in, Fair}
use Rattle.engine.specs.Masks.{Has, Mask, OneOf}
use Rattle.matching.specs.Components.{Nodes, reaches, together, ready, Shut, OneStep}
use Rattle.matching.specs.Stepping.{Spread, ReachedFrom, AllReached, AllComponents, IsNext, NextOf}
use Rattle.engine.proofs.ListLaws.{decide, same_test, or_left as either_left, or_right as either-right, or_cases as either-cases}
use Rattle.engine.proofs.MaskBits.{none_has, or_left, or_right, or_cases, and_say, and_by, minus_say, minus_by, part_le, few_lt}
use Rattle.engine.proofs.UpToLaws.{in_up_to, up_to_in}
use Rattle.matching.proofs.ComponentLaws.{Ended, reaches_self, reaches_shut, reaches_least, together_say, together_by, together_self, ready_by, step_shut, ready_one}

-- ---- the query's nodes and edges
module _ (q : Given) where
  pub in_edges : (n : ℕ) → n < q.edges → In (given_edge q n) (pattern_in q).edges
  unfolding pattern_in
  in_edges n l = in_up_to (given_edge q) q.edges n l

  pub edges_in_lem : {e : Edge} → In e (pattern_in q).edges → OneOf q.edges (λ n. e ≡ given_edge q n)
  unfolding pattern_in
  edges_in_lem i = up_to_in (given_edge q) q.edges i

  pub given_rule : (pattern_in q).rule ≡ both_ways
  unfolding pattern_in
  given_rule = refl

-- x has u, and lies in what u leads to
abbrev pub Within : Given → ℕ → ℕ → Type 0
Within q u x = Has x u × ((v : ℕ) → Has x v → (v < q.nodes) × T (reaches (pattern_in q) u v))

module _ {q : Given} (fair : Fair q) where
  pub given_nodes : length (pattern_in q).labels ≡ q.nodes
  unfolding pattern_in
  given_nodes = length-take q.nodes q.labels ∙ (let a = fair.nodes in let b = fair.labels_long in omega arith)

  pub given_ended : Ended (pattern_in q)
  given_ended e i =
      let o = edges_in_lem q i in
      let z = given_nodes in
      let a = fair.from o.at o.below in
      let b = fair.to o.at o.below in
      subst (λ (x : Edge). (x.from < length (pattern_in q).labels) × (x.to < length (pattern_in q).labels)) (sym o.holds) (omega arith, omega arith)

  -- ---- a set that links lead out of no more
  given_shut : (P : Nodes) → ((e : ℕ) → e < q.edges → T (P (get_or q.from e 0)) → T (P (get_or q.to e 0))) → Shut (pattern_in q) P
  given_shut P h e i t =
      let o = edges_in_lem q i in
      subst (λ (x : Edge). T (P x.to)) (sym o.holds) (h o.at o.below (subst (λ (x : Edge). T (P x.from)) o.holds t))

  shut_given : (P : Nodes) → Shut (pattern_in q) P → (e : ℕ) → e < q.edges → T (P (get_or q.from e 0)) → T (P (get_or q.to e 0))
  shut_given P s e l t = s (given_edge q e) (in_edges q e l) t

  pub within_start : (u x : ℕ) → u < q.nodes → Mask (λ j. (u ≡ j) × Has 1 0) x → Has 1 0 → Within q u x
  within_start u x l m h =
      (m.hit u (refl, h), λ v t. let e = (m.why v t).0 in (omega arith, subst (λ (z : ℕ). T (reaches (pattern_in q) u z)) e (reaches_self (pattern_in q) u)))

  pub within_more : (u x y : ℕ) → Within q u x → Spread q.from q.to q.edges x y → Within q u y
  within_more u x y w s =
      let z = given_nodes in (
        s.more u w.0,
        λ v t. (
          below v t,
          s.least (reaches (pattern_in q) u) (λ k h. (w.1 k h).1) (shut_given (reaches (pattern_in q) u) (reaches_shut (pattern_in q) u)) v t,
        ),
      )
    where
      below : (v : ℕ) → Has y v → v < q.nodes
      below v t =
          ltb→lt v q.nodes
          (s.least (λ k. ltb k q.nodes) (λ k h. lt→ltb k q.nodes (w.1 k h).0) (λ e l h. lt→ltb (get_or q.to e 0) q.nodes (fair.to e l)) v t)

  -- it stays small, so that it can't grow for ever
  pub within_less : (u x y : ℕ) → Within q u x → Spread q.from q.to q.edges x y → (y ≡ x → ⊥) → 2 ^ 16 - y < 2 ^ 16 - x
  within_less u x y w s n =
      let a = part_le x y s.more in
      let b = few_lt 16 y (λ k h. let l = ((within_more u x y w s).1 k h).0 in let m = fair.nodes in omega arith) in
      let c : y ≡ x → ⊥ = n in
      omega arith

  pub within_end : (u x y : ℕ) → u < q.nodes → Within q u x → Spread q.from q.to q.edges x y → y ≡ x → ReachedFrom q u x
  within_end u x y l w s e =
      let z = given_nodes in
      record {
        hit = λ v t. reaches_least (pattern_in q) given_ended (bit x) (given_shut (bit x) (s.shut e)) u v w.0 (let a = t.0 in omega arith) t.1;
        why = w.1;
      }

-- ---- one pass over the links
-- the links below e have been taken
pub record Spreading (from to : List ℕ) (m x e r : ℕ) : Type 0 where
  pub more : (k : ℕ) → Has x k → Has r k
  pub least : (P : ℕ → Bool) → ((k : ℕ) → Has x k → T (P k)) → ((j : ℕ) → j < m → T (P (get_or from j 0)) → T (P (get_or to j 0))) → (k : ℕ) → Has r k → T (P k)
  pub led : (j : ℕ) → j < e → Has x (get_or from j 0) → Has r (get_or to j 0)

module _ (from to : List ℕ) (m x : ℕ) where
  pub spreading_start : Spreading from to m x 0 x
  spreading_start = record { more = λ k h. h; least = λ P a b k h. a k h; led = λ j l. absurd (omega arith) }

  pub spreading_more : {e r : ℕ} (a : ℕ) → e < m → Spreading from to m x e r → Mask (λ j. (get_or to e 0 ≡ j) × Has r (get_or from e 0)) a → Spreading from to m x (e + 1) (bit_or r a)
  spreading_more {e} {r} a l s k =
      record {
        more = λ j h. or_left r a j (s.more j h);
        least = λ P f g j h. ⊎_elim (λ z. s.least P f g j z)
            (λ z. let y = k.why j z in subst (λ (i : ℕ). T (P i)) y.0 (g e l (s.least P f g (get_or from e 0) y.1))) (or_cases r a j h);
        led = λ j p h. ⊎_elim
            (λ (z : j < e). or_left r a _ (s.led j z h))
            (λ (z : e ≤ j).
            let y : e ≡ j = omega arith in
            subst (λ (i : ℕ). Has (bit_or r a) (get_or to i 0)) y (or_right r a _ (k.hit _ (refl, s.more _ (subst (λ (i : ℕ). Has x (get_or from i 0)) (sym y) h)))))
            (lt_or_ge j e);
      }

  pub spreading_end : {e r : ℕ} → m ≤ e → Spreading from to m x e r → Spread from to m x r
  spreading_end l s =
      record { more = s.more; least = s.least; shut = λ z e le h. subst (λ (i : ℕ). Has i (get_or to e 0)) z (s.led e (omega arith) h) }

-- the nodes that lead to u, of those that it leads to
pub component_mask : (t : List ℕ) (n u : ℕ) {r : ℕ} → Mask (λ k. OneOf n (λ v. (v ≡ k) × Has (get_or t v 0) u)) r → Mask (λ v. Has (get_or t u 0) v × (v < n) × Has (get_or t v 0) u) (bit_and (get_or t u 0) r)
component_mask t n u {r} m =
    record {
      hit = λ v h. and_by (get_or t u 0) r v h.0 (m.hit v (record { at = v; below = h.1; holds = (refl, h.2) }));
      why = λ v h.
          (let a = and_say (get_or t u 0) r v h in
          let o = m.why v a.1 in
          let e = o.holds.0 in
          let b = o.below in
          (a.0, omega arith, subst (λ (x : ℕ). Has (get_or t x 0) u) e o.holds.1));
    }

-- ---- the component that is next
module _ {q : Given} (fair : Fair q) where
  module _ (t c : List ℕ) (R : AllReached q t) (C : AllComponents t q.nodes c) where
    in-component : (u v : ℕ) → u < q.nodes → v < q.nodes → T (together (pattern_in q) u v) → Has (get_or c u 0) v
    in-component u v l m h =
        let r = together_say (pattern_in q) u v h in
        (C u l).hit v ((R u l).hit v (m, r.0), m, (R v m).hit u (l, r.1))

    component-in : (u v : ℕ) → u < q.nodes → Has (get_or c u 0) v → (v < q.nodes) × T (together (pattern_in q) u v)
    component-in u v l h =
        let r = (C u l).why v h in
        (r.1, together_by (pattern_in q) u v ((R u l).why v r.0).1 ((R v r.1).why u r.2).1)

    pub component_self : (u : ℕ) → u < q.nodes → Has (get_or c u 0) u
    component_self u l = in-component u u l l (together_self (pattern_in q) u)

    pub component_some : (u : ℕ) → u < q.nodes → get_or c u 0 ≡ 0 → ⊥
    component_some u l z = none_has u (subst (λ (x : ℕ). Has x u) z (component_self u l))

    module _ (settled : ℕ) where
      next-new : (u v : ℕ) → IsNext t c settled u → Has (get_or c u 0) v → Has settled v → ⊥
      next-new u v n a b = none_has v (subst (λ (x : ℕ). Has x v) n (or_left _ _ v (and_by (get_or c u 0) settled v a b)))

      next-led : (u v : ℕ) → IsNext t c settled u → Has (get_or t u 0) v → Has (bit_or settled (get_or c u 0)) v
      next-led u v n a =
          ⊎_elim (λ (h : Has (bit_or settled (get_or c u 0)) v). h)
          (λ (h : Has (bit_or settled (get_or c u 0)) v → ⊥). absurd (none_has v (subst (λ (x : ℕ). Has x v) n (or_right (bit_and (get_or c u 0) settled) _ v (minus_by (get_or t u 0) _ v a h)))))
          (decide (bit (bit_or settled (get_or c u 0)) v))

      -- the component is new
      pub next_apart : (u : ℕ) → IsNext t c settled u → bit_and (get_or c u 0) settled ≡ 0
      next_apart u n = let a = part_le (bit_and (get_or c u 0) settled) 0 (λ v h. subst (λ (x : ℕ). Has x v) n (or_left _ _ v h)) in omega arith

      pub next_step : (u : ℕ) → u < q.nodes → IsNext t c settled u → OneStep (pattern_in q) (bit settled) (bit (bit_or settled (get_or c u 0)))
      next_step u l n =
          let z = given_nodes fair in
          record {
            node = u;
            there = omega arith;
            new = λ h. next-new u u n (component_self u l) h;
            ready = ready_by (pattern_in q) (bit settled) u (λ e i h.
                let m : e.to < q.nodes = (let a = (given_ended fair e i).1 in omega arith) in
                let r = reaches_shut (pattern_in q) u e i (together_say (pattern_in q) u e.from h).0 in
                let k = next-led u e.to n ((R u l).hit e.to (m, r)) in
                ⊎_elim (λ a. inl a) (λ a. inr (component-in u e.to l a).1) (or_cases settled (get_or c u 0) e.to k));
            adds = λ v h. same_test _ _
                (λ a. ⊎_elim (λ x. either_left _ _ x) (λ x. either-right (bit settled v) _ (component-in u v l x).1) (or_cases settled (get_or c u 0) v a))
                (λ a. ⊎_elim (λ x. or_left settled (get_or c u 0) v x) (λ x. or_right settled (get_or c u 0) v (in-component u v l (omega arith) x)) (either-cases (bit settled v) _ a));
          }

      module _ (shut : Shut (pattern_in q) (bit settled)) where
        -- a node whose component is ready is next, if it is not settled
        next-by : (u : ℕ) → u < q.nodes → (Has settled u → ⊥) → T (ready (pattern_in q) (bit settled) u) → IsNext t c settled u
        next-by u l n r =
            empty (λ v h. ⊎_elim (λ a. apart v (and_say (get_or c u 0) settled v a)) (λ a. let x = minus_say (get_or t u 0) _ v a in x.1 (led v x.0)) (or_cases (bit_and (get_or c u 0) settled) _ v h))
          where
            empty : {x : ℕ} → ((v : ℕ) → Has x v → ⊥) → x ≡ 0
            empty {x} h = let a = part_le x 0 (λ v t. absurd (h v t)) in omega arith

            apart : (v : ℕ) → Has (get_or c u 0) v × Has settled v → ⊥
            apart v (a, b) = n (reaches_least (pattern_in q) (given_ended fair) (bit settled) shut v u b (let z = given_nodes fair in omega arith) (together_say (pattern_in q) u v (component-in u v l a).1).1)

            one : OneStep (pattern_in q) (bit settled) (λ v. bit settled v or together (pattern_in q) u v)
            one = record { node = u; there = let z = given_nodes fair in omega arith; new = n; ready = r; adds = λ v h. refl }

            led : (v : ℕ) → Has (get_or t u 0) v → Has (bit_or settled (get_or c u 0)) v
            led v h =
                let x = (R u l).why v h in
                let s = reaches_least (pattern_in q) (given_ended fair) (λ j. bit settled j or together (pattern_in q) u j) (step_shut (pattern_in q) (given_ended fair) one shut) u v (either-right (bit settled u) (together (pattern_in q) u u) (together_self (pattern_in q) u)) (let z = given_nodes fair in let y = x.0 in omega arith) x.1 in
                ⊎_elim (λ a. or_left settled (get_or c u 0) v a) (λ a. or_right settled (get_or c u 0) v (in-component u v l x.0 a)) (either-cases (bit settled v) (together (pattern_in q) u v) s)

        -- where none is next all are settled
        pub none_next : ((u : ℕ) → u < q.nodes → IsNext t c settled u → ⊥) → (u : ℕ) → u < q.nodes → Has settled u
        none_next h u l =
            ⊎_elim (λ (a : Has settled u). a)
            (λ (a : Has settled u → ⊥).
            let z = given_nodes fair in
            let r = ready_one (pattern_in q) (given_ended fair) (bit settled) u (omega arith) a in
            absurd (h r.0 (let b = r.1 in omega arith) (next-by r.0 (let b = r.1 in omega arith) r.2 r.3)))
            (decide (bit settled u))

-- ---- looking for it
module _ (t c : List ℕ) (n settled : ℕ) where
  -- none of the first u is next
  abbrev pub Passed : ℕ → Type 0
  Passed u = (j : ℕ) → j < u → IsNext t c settled j → ⊥

  pub passed_more : (u : ℕ) → Passed u → (IsNext t c settled u → ⊥) → Passed (u + 1)
  passed_more u p h j l n =
      ⊎_elim (λ (z : j < u). p j z n) (λ (z : u ≤ j). let e : j ≡ u = omega arith in h (subst (IsNext t c settled) e n)) (lt_or_ge j u)

  pub next_found : (u : ℕ) → u < n → IsNext t c settled u → NextOf t c n settled (get_or c u 0)
  next_found u l h = record { one = λ z. record { at = u; below = l; holds = (h, refl) }; none = λ f z. absurd (f u l z) }

  pub next_none : (u : ℕ) → n ≤ u → Passed u → NextOf t c n settled 0
  next_none u l p = record { one = λ z. absurd (z refl); none = λ f z j m. p j (omega arith) }

-- what is found is a step
module _ {q : Given} (fair : Fair q) (t c : List ℕ) (R : AllReached q t) (C : AllComponents t q.nodes c) (settled : ℕ) where
  pub next_one : {r : ℕ} → NextOf t c q.nodes settled r → (r ≡ 0 → ⊥) → OneStep (pattern_in q) (bit settled) (bit (bit_or settled r)) × (bit_and r settled ≡ 0)
  next_one n z =
      let o = n.one z in
      let e = sym o.holds.1 in (
        subst (λ (x : ℕ). OneStep (pattern_in q) (bit settled) (bit (bit_or settled x))) e (next_step fair t c R C settled o.at o.below o.holds.0),
        subst (λ (x : ℕ). bit_and x settled ≡ 0) e (next_apart fair t c R C settled o.at o.holds.0),
      )

  pub next_all : Shut (pattern_in q) (bit settled) → {r : ℕ} → NextOf t c q.nodes settled r → r ≡ 0 → (u : ℕ) → u < q.nodes → Has settled u
  next_all shut n z = none_next fair t c R C settled shut (n.none (component_some fair t c R C) z)
