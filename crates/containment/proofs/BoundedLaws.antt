-- The search for the cheapest set leaves out what can't be the first: the sets beyond one that matches all edges, those that can't match all or are behind
-- the best so far, and those with a view that adds no edge.
use mathlib.Core.Path.{◌≡◌, refl, ap, sym, subst, ◌∙◌}
use mathlib.Core.Bool.{true, false, not}
use mathlib.Core.List.{List, ◌∷◌}
use mathlib.Core.Logic.{◌⊎◌, inl, inr, ⊎_elim}
use Prim.Native.Nat.{ℕ, zero, suc, ◌+◌, ◌-◌, ◌^◌, ◌<◌, ◌≤◌}
use native.Mathlib.Nat.{le_antisymm}
use native.Mathlib.Omega.{arith}
use native.Mathlib.Numerals.{add-one}
use lib.ListN.{get_or}
use lib.Pow.{pow_pos}
use lib.Bits.{bit_or}
use lib.Dec.{eqb, leb}
use borrow.Author.Tests.{ltb-true, lt-ltb, leb-true, eqb-true, eq-eqb, ne_eqb}
use Rattle.packed.specs.Format.{pick}
use Rattle.packed.proofs.OrderCases.{lt_or_ge, trichotomy, and_both, or_neither}
use Rattle.packed.proofs.OrderCases as tests
use Rattle.engine.specs.Masks.{Has}
use Rattle.engine.proofs.MaskBits.{or_left, or_right, or_cases, part_le, not_by, none_has}
use Rattle.containment.specs.Choice.{covers_in}
use Rattle.containment.specs.Cheapest.{Less, cheapest}
use Rattle.containment.specs.Masked.{Masked}
use Rattle.containment.specs.Tries.{taking, is_first, foremost_tried, settled, best_of, is_behind, reached, Reaches, Tries}
use Rattle.containment.specs.declared.costing.Tried.{Tried}
use Rattle.containment.proofs.SetBits.{test_cases, never}
use Rattle.containment.proofs.ChoiceLaws.{pick_cases}
use Rattle.containment.proofs.CheapestLaws.{less_say, less_by, less_map, less_never, cheapest_covered}
use Rattle.containment.proofs.TriesLaws.{none, by_misses, tries_covers, settled_cheapest}

-- ---- masks
or_none_lem : (x : ℕ) → bit_or x 0 ≡ x
or_none_lem x = le_antisymm (part_le (bit_or x 0) x (λ e i. ⊎_elim (λ p. p) (λ p. absurd (none_has e p)) (or_cases x 0 e i))) (part_le x (bit_or x 0) (or_left x 0))

-- ---- the order of the search
module _ {R S U : Type 0} (f : U → R ⊎ S) where
  -- if x goes before z, then x goes before y or y before z
  less_between : {x z : ℕ} (y : ℕ) → Less x z U → Less x y R ⊎ Less y z S
  less_between {x} {z} y (inl l) = ⊎_elim (λ (p : x < y). inl (inl p)) (λ (p : y ≤ x). inr (inl (omega arith))) (lt_or_ge x y)
  less_between {x} {z} y (inr p) =
      let e = p.0 in
      trichotomy x y (λ l. inl (inl l))
      (λ q. ⊎_elim (λ r. inl (inr (q, r))) (λ s. inr (inr (omega arith, s))) (f p.1))
      (λ (l : y < x). inr (inl (omega arith)))

module _ (all : ℕ) where
  -- 0 for what matches all edges, 1 for what doesn't
  abbrev lacks : Tried → ℕ
  lacks x = pick (eqb x.matched all) 0 1

  -- x goes before y
  abbrev Before : Tried → Tried → Type 0
  Before x y = Less (lacks x) (lacks y) (Less x.sum y.sum (Less x.number y.number (y.turned < x.turned)))

  before_say : (x y : Tried) → is_first all x y ≡ true → Before x y
  unfolding is_first
  before_say x y h =
      less_map (λ p. less_map (λ q. less_map (ltb-true _ _) (less_say _ _ _ q)) (less_say _ _ _ p)) (less_say _ _ _ (sym (by_misses (eqb x.matched all) (eqb y.matched all) _) ∙ h))

  before_by : (x y : Tried) → Before x y → is_first all x y ≡ true
  unfolding is_first
  before_by x y h =
      by_misses (eqb x.matched all) (eqb y.matched all) _
      ∙ less_by _ _ _ (less_map (λ p. less_by _ _ _ (less_map (λ q. less_by _ _ _ (less_map (lt-ltb _ _) q)) p)) h)

  first_never : (x y : Tried) → is_first all x y ≡ true → is_first all y x ≡ true → ⊥
  first_never x y p q = less_never (less_never (less_never (λ a b. omega arith))) (before_say x y p) (before_say y x q)

  first_between : (x y z : Tried) → is_first all x z ≡ true → (is_first all x y ≡ true) ⊎ (is_first all y z ≡ true)
  first_between x y z h =
      ⊎_elim (λ p. inl (before_by x y p)) (λ p. inr (before_by y z p))
      (less_between (less_between (less_between turned-between y.number) y.sum) (lacks y) (before_say x z h))
    where
      turned-between : z.turned < x.turned → (y.turned < x.turned) ⊎ (z.turned < y.turned)
      turned-between l = ⊎_elim (λ (p : y.turned < x.turned). inl p) (λ (p : x.turned ≤ y.turned). inr (omega arith)) (lt_or_ge y.turned x.turned)

  -- if x isn't before y, nor y before z, then x isn't before z
  not_through : (x y z : Tried) → is_first all x y ≡ false → is_first all y z ≡ false → is_first all x z ≡ false
  not_through x y z p q =
      ⊎_elim (λ h. ⊎_elim (λ r. never (sym r ∙ p)) (λ r. never (sym r ∙ q)) (first_between x y z h)) (λ h. h) (test_cases (is_first all x z))

  first_through : (x y z : Tried) → is_first all x y ≡ true → is_first all y z ≡ true → is_first all x z ≡ true
  first_through x y z p q = ⊎_elim (λ h. h) (λ h. absurd (first_never y z q h)) (first_between x z y p)

  not_back : (x y : Tried) → is_first all x y ≡ true → is_first all y x ≡ false
  not_back x y p = ⊎_elim (λ h. absurd (first_never x y p h)) (λ h. h) (test_cases (is_first all y x))

  not_self : (x : Tried) → is_first all x x ≡ false
  not_self x = ⊎_elim (λ h. absurd (first_never x x h h)) (λ h. h) (test_cases (is_first all x x))

  -- y isn't before x if x matches all edges wherever y does, costs no more and has fewer views
  behind : (x y : Tried) → lacks x ≤ lacks y → x.sum ≤ y.sum → x.number < y.number → is_first all y x ≡ false
  behind x y l s n = ⊎_elim (λ h. absurd (not_before (before_say y x h))) (λ h. h) (test_cases (is_first all y x))
    where
      not-fewer : Less y.number x.number (x.turned < y.turned) → ⊥
      not-fewer (inl h) = omega arith
      not-fewer (inr h) = let e = h.0 in omega arith

      not-cheaper : Less y.sum x.sum (Less y.number x.number (x.turned < y.turned)) → ⊥
      not-cheaper (inl h) = omega arith
      not-cheaper (inr h) = not-fewer h.1

      not_before : Before y x → ⊥
      not_before (inl h) = omega arith
      not_before (inr h) = not-cheaper h.1

  -- ---- the first of two
  foremost_cases : (P : Tried → Type 0) (x y : Tried) → (is_first all x y ≡ true → P x) → (is_first all x y ≡ false → P y) → P (foremost_tried all x y)
  unfolding foremost_tried
  foremost_cases P x y f g = pick_cases P (is_first all x y) x y f g

  foremost_is : (x y : Tried) → is_first all x y ≡ true → foremost_tried all x y ≡ x
  unfolding foremost_tried
  foremost_is x y h = rw h

  foremost_other : (x y : Tried) → is_first all x y ≡ false → foremost_tried all x y ≡ y
  unfolding foremost_tried
  foremost_other x y h = rw h

  -- neither goes before it
  foremost_least : (x y : Tried) → (is_first all x (foremost_tried all x y) ≡ false) × (is_first all y (foremost_tried all x y) ≡ false)
  foremost_least x y =
      foremost_cases (λ z. (is_first all x z ≡ false) × (is_first all y z ≡ false)) x y (λ h. (not_self x, not_back x y h)) (λ h. (h, not_self y))

  -- of three
  foremost_three : (b x y : Tried) → foremost_tried all (foremost_tried all b x) y ≡ foremost_tried all b (foremost_tried all x y)
  foremost_three b x y =
      ⊎_elim
      (λ h.
      ap (λ (z : Tried). foremost_tried all z y) (foremost_is b x h)
      ∙ foremost_cases (λ z. foremost_tried all b y ≡ foremost_tried all b z) x y (λ i. foremost_is b y (first_through b x y h i) ∙ sym (foremost_is b x h)) (λ i. refl))
      (λ h.
      ap (λ (z : Tried). foremost_tried all z y) (foremost_other b x h)
      ∙ sym (foremost_other b (foremost_tried all x y) (not_through b x (foremost_tried all x y) h (foremost_least x y).0)))
      (test_cases (is_first all b x))

  -- what matches all edges goes before what doesn't
  covering_first : (x y : Tried) → eqb x.matched all ≡ true → eqb y.matched all ≡ false → is_first all x y ≡ true
  covering_first x y p q = before_by x y (inl (rw (p, q) (omega arith)))

  -- ---- the best so far
  best_is : (best x : Tried) → eqb x.matched all ≡ true → best_of all best x ≡ foremost_tried all best x
  unfolding best_of
  best_is best x h = rw h

  best_stays : (best x : Tried) → eqb x.matched all ≡ false → best_of all best x ≡ best
  unfolding best_of
  best_stays best x h = rw h

  -- .. of two more, one after the other
  best_both : (best x y : Tried) → best_of all (best_of all best x) y ≡ best_of all best (foremost_tried all x y)
  best_both best x y = ⊎_elim with-x without-x (test_cases (eqb x.matched all))
    where
      Goal : Type 0
      Goal = best_of all (best_of all best x) y ≡ best_of all best (foremost_tried all x y)

      with-x : eqb x.matched all ≡ true → Goal
      with-x p =
          ⊎_elim
          (λ q.
          best_is _ y q ∙ ap (λ (z : Tried). foremost_tried all z y) (best_is best x p) ∙ foremost_three best x y
          ∙ sym (best_is best (foremost_tried all x y) (foremost_cases (λ z. eqb z.matched all ≡ true) x y (λ _. p) (λ _. q))))
          (λ q. best_stays _ y q ∙ ap (best_of all best) (sym (foremost_is x y (covering_first x y p q))))
          (test_cases (eqb y.matched all))

      without-x : eqb x.matched all ≡ false → Goal
      without-x p =
          ap (λ (z : Tried). best_of all z y) (best_stays best x p)
          ∙ ⊎_elim
          (λ q. ap (best_of all best) (sym (foremost_other x y (not_back y x (covering_first y x q p)))))
          (λ q. best_stays best y q ∙ sym (best_stays best (foremost_tried all x y) (foremost_cases (λ z. eqb z.matched all ≡ false) x y (λ _. p) (λ _. q))))
          (test_cases (eqb y.matched all))

-- ---- the sets beyond what is taken
module _ (masks charges : List ℕ) (all : ℕ) where
  -- y has the views of x and some of the views below u: it costs no less, and matches no more than x and these
  record Beyond (u : ℕ) (x y : Tried) : Type 0 where
    sum : x.sum ≤ y.sum
    number : x.number ≤ y.number
    has : (e : ℕ) → Has x.matched e → Has y.matched e
    within : (e : ℕ) → Has y.matched e → Has x.matched e ⊎ Has (reached masks u) e

  -- x with the view a
  abbrev with : ℕ → Tried → Tried
  with a x = taking a (get_or charges a 0) (get_or masks a 0) x

  beyond_with : (a : ℕ) (x y : Tried) → Beyond a (with a x) y → (Beyond (suc a) x y) × (x.number < y.number)
  unfolding taking reached
  beyond_with a x y h =
      let s = h.sum in
      let n = h.number in (
        record {
          sum = omega arith;
          number = omega arith;
          has = λ e i. h.has e (or_left x.matched (get_or masks a 0) e i);
          within = λ e i.
              ⊎_elim
              (λ p. ⊎_elim (λ q. inl q) (λ q. inr (or_right (reached masks a) (get_or masks a 0) e q)) (or_cases x.matched (get_or masks a 0) e p))
              (λ p. inr (or_left (reached masks a) (get_or masks a 0) e p)) (h.within e i);
        },
        omega arith,
      )

  beyond_without : (a : ℕ) (x y : Tried) → Beyond a x y → Beyond (suc a) x y
  unfolding reached
  beyond_without a x y h = record {
    sum = h.sum;
    number = h.number;
    has = h.has;
    within = λ e i. ⊎_elim (λ p. inl p) (λ p. inr (or_left (reached masks a) (get_or masks a 0) e p)) (h.within e i);
  }

  settled_beyond : (u : ℕ) (x : Tried) → Beyond u x (settled masks charges all u x)
  unfolding settled
  settled_beyond zero x = record { sum = omega arith; number = omega arith; has = λ e i. i; within = λ e i. inl i }
  settled_beyond (suc a) x =
      foremost_cases all (Beyond (suc a) x) _ _ (λ _. (beyond_with a x _ (settled_beyond a (with a x))).0) (λ _. beyond_without a x _ (settled_beyond a x))

  -- it takes a view more to match all edges
  settled_more : (u : ℕ) (x : Tried) → (x.matched ≡ all → ⊥) → (settled masks charges all u x).matched ≡ all → x.number < (settled masks charges all u x).number
  unfolding settled
  settled_more zero x n h = absurd (n h)
  settled_more (suc a) x n h =
      foremost_cases all (λ z. z.matched ≡ all → x.number < z.number) _ _ (λ _ _. (beyond_with a x _ (settled_beyond a (with a x))).1) (λ _ i. settled_more a x n i) h

  -- nothing beyond what matches all edges goes before it
  settled_covering : (u : ℕ) (x : Tried) → eqb x.matched all ≡ true → settled masks charges all u x ≡ x
  unfolding settled
  settled_covering zero x h = refl
  settled_covering (suc a) x h =
      let b = beyond_with a x (settled masks charges all a (with a x)) (settled_beyond a (with a x)) in
      let none-lacks : lacks all x ≡ 0 = rw h in
      ap (foremost_tried all (settled masks charges all a (with a x))) (settled_covering a x h)
      ∙ foremost_other all _ x (behind all x _ (omega arith) b.0.sum b.1)

  -- y matches the same edges at no lower cost and with more views: it isn't before x, and no set beyond it before those beyond x
  record Costlier (x y : Tried) : Type 0 where
    same : y.matched ≡ x.matched
    sum : x.sum ≤ y.sum
    number : x.number < y.number

  costlier_with : (a : ℕ) (x y : Tried) → Costlier x y → Costlier (with a x) (with a y)
  unfolding taking
  costlier_with a x y c =
      let s = c.sum in
      let n = c.number in
      record { same = ap (λ (z : ℕ). bit_or z (get_or masks a 0)) c.same; sum = omega arith; number = omega arith }

  settled_behind : (u : ℕ) (x y : Tried) → Costlier x y → is_first all (settled masks charges all u y) (settled masks charges all u x) ≡ false
  unfolding settled
  settled_behind zero x y c = behind all x y (let e : lacks all y ≡ lacks all x = rw c.same in omega arith) c.sum c.number
  settled_behind (suc a) x y c =
      let l = foremost_least all (settled masks charges all a (with a x)) (settled masks charges all a x) in
      foremost_cases all (λ z. is_first all z (foremost_tried all (settled masks charges all a (with a x)) (settled masks charges all a x)) ≡ false) _ _
      (λ _. not_through all _ (settled masks charges all a (with a x)) _ (settled_behind a (with a x) (with a y) (costlier_with a x y c)) l.0)
      (λ _. not_through all _ (settled masks charges all a x) _ (settled_behind a x y c) l.1)

  -- a view that adds no edge
  costlier : (a : ℕ) (x : Tried) → (with a x).matched ≡ x.matched → Costlier x (with a x)
  unfolding taking
  costlier a x e = record { same = e; sum = omega arith; number = omega arith }

  settled_skips : (a : ℕ) (x : Tried) → (with a x).matched ≡ x.matched → settled masks charges all (suc a) x ≡ settled masks charges all a x
  unfolding settled
  settled_skips a x e = foremost_other all _ _ (settled_behind a x (with a x) (costlier a x e))

  -- ---- the turns of the search
  module _ (u : ℕ) (x best : Tried) where
    -- the first of the sets beyond x
    abbrev found : Tried
    found = settled masks charges all u x

    pub covers_ends : (r : Tried) → x.matched ≡ all → r ≡ foremost_tried all best x → r ≡ best_of all best found
    covers_ends r h e =
        let y = eq-eqb x.matched all h in
        e ∙ sym (best_is all best x y) ∙ ap (best_of all best) (sym (settled_covering u x y))

    -- the best costs less, or no more with no more views
    module _ (n : x.matched ≡ all → ⊥) (h : best.matched ≡ all) (l : Less best.sum x.sum (leb best.number x.number ≡ true)) where
      before-found : found.matched ≡ all → Less best.sum found.sum (Less best.number found.number (found.turned < best.turned))
      before-found q = let s = (settled_beyond u x).sum in let m = settled_more u x n q in cases s m l
        where
          cases : x.sum ≤ found.sum → x.number < found.number → Less best.sum x.sum (leb best.number x.number ≡ true)
              → Less best.sum found.sum (Less best.number found.number (found.turned < best.turned))
          cases s m (inl p) = inl (omega arith)
          cases s m (inr p) =
              let e = p.0 in
              let w = leb-true best.number x.number p.1 in
              ⊎_elim (λ (z : best.sum < found.sum). inl z) (λ (z : found.sum ≤ best.sum). inr (omega arith, inl (omega arith))) (lt_or_ge best.sum found.sum)

      behind-ends : best ≡ best_of all best found
      behind-ends =
          let y = eq-eqb best.matched all h in
          ⊎_elim
          (λ p. sym (best_is all best found p ∙ foremost_is all best found (before_by all best found (inr (rw (y, p), before-found (eqb-true _ _ p))))))
          (λ p. sym (best_stays all best found p))
          (test_cases (eqb found.matched all))

    module _ (reach : List ℕ) (reaches : Reaches masks all u reach) where
      reaches_all : found.matched ≡ all → bit_or x.matched (get_or reach u 0) ≡ all
      reaches_all h =
          let b = settled_beyond u x in
          let here : get_or reach u 0 ≡ reached masks u = reaches.is u (omega arith) in
          rw here
          (le_antisymm
          (part_le _ all (λ e i. ⊎_elim (λ p. subst (λ (z : ℕ). Has z e) h (b.has e p)) (reaches.within e) (or_cases x.matched (reached masks u) e i)))
          (part_le all _
          (λ e i. ⊎_elim (or_left x.matched (reached masks u) e) (or_right x.matched (reached masks u) e) (b.within e (subst (λ (z : ℕ). Has z e) (sym h) i)))))

      pub stop_ends : (x.matched ≡ all → ⊥) → is_behind all (get_or reach u 0) x best ≡ true → best ≡ best_of all best found
      unfolding is_behind
      stop_ends n h =
          ⊎_elim
          (λ p. sym (best_stays all best found (ne_eqb found.matched all (λ q. never (sym p ∙ ap not (eq-eqb _ all (reaches_all q)))))))
          (λ p. let b = and_both _ _ p in behind-ends n (eqb-true _ _ b.0) (less_say _ _ _ b.1))
          (tests.or_cases _ _ h)

      -- else some view is undecided
      pub some_left : (x.matched ≡ all → ⊥) → is_behind all (get_or reach u 0) x best ≡ false → u ≡ 0 → ⊥
      unfolding reached is_behind
      some_left n h z =
          let here : get_or reach u 0 ≡ 0 = reaches.is u (omega arith) ∙ rw z in
          let rest : not (eqb (bit_or x.matched (get_or reach u 0)) all) ≡ false = (or_neither _ _ h).0 in
          let missed = ne_eqb x.matched all n in
          never (sym (ap not missed) ∙ ap (λ (w : ℕ). not (eqb w all)) (sym (or_none_lem x.matched) ∙ ap (bit_or x.matched) (sym here)) ∙ rest)

    module _ (a : ℕ) (next : u ≡ suc a) (more : Tried) (is : more ≡ with a x) where
      pub view_skipped : (r : Tried) → more.matched ≡ x.matched → r ≡ best_of all best (settled masks charges all a x) → r ≡ best_of all best found
      view_skipped r h e =
          let same : (with a x).matched ≡ x.matched = subst (λ (z : Tried). z.matched ≡ x.matched) is h in
          e ∙ ap (best_of all best) (sym (settled_skips a x same) ∙ ap (λ (n : ℕ). settled masks charges all n x) (sym next))

      pub view_settled : (so_far r : Tried) → so_far ≡ best_of all best (settled masks charges all a more) → r ≡ best_of all so_far (settled masks charges all a x)
          → r ≡ best_of all best found
      unfolding settled
      view_settled so_far r p q =
          rw next
          (q
          ∙ ap (λ (z : Tried). best_of all z (settled masks charges all a x)) (p ∙ ap (λ (z : Tried). best_of all best (settled masks charges all a z)) is)
          ∙ best_both all best (settled masks charges all a (with a x)) (settled masks charges all a x))

-- ---- what the views below u match
module _ (masks : List ℕ) where
  pub reach_none : (rest : List ℕ) (u : ℕ) → u < 0 + 1 → get_or (0 ∷ rest) u 0 ≡ reached masks u
  unfolding reached
  reach_none rest zero l = refl
  reach_none rest (suc u) l = absurd (omega arith)

  pub reach_more : (a x : ℕ) → x ≡ reached masks a → bit_or x (get_or masks a 0) ≡ reached masks (a + 1)
  unfolding reached
  reach_more a x e = ap (λ (z : ℕ). bit_or z (get_or masks a 0)) e ∙ ap (reached masks) (sym (add-one a))

  reached_up : (a e : ℕ) → Has (reached masks a) e → Has (reached masks (suc a)) e
  unfolding reached
  reached_up a e h = or_left (reached masks a) (get_or masks a 0) e h

  pub reaches_less : (all u a : ℕ) (reach : List ℕ) → u ≡ suc a → Reaches masks all u reach → Reaches masks all a reach
  reaches_less all u a reach q r = record {
    is = λ b l. r.is b (omega arith);
    within = λ e h. r.within e (subst (λ (z : ℕ). Has (reached masks z) e) (sym q) (reached_up a e h));
  }

-- ---- the whole search
module _ (t : List ℕ) (m k : ℕ) (masks : List ℕ) (each : Masked t k m masks) (all : ℕ) (edges : all ≡ 2 ^ m - 1) where
  reached_edge : (a : ℕ) → a ≤ k → (e : ℕ) → Has (reached masks a) e → e < m
  unfolding reached
  reached_edge zero l e h = absurd (none_has e h)
  reached_edge (suc a) l e h =
      ⊎_elim (reached_edge a (omega arith) e) (λ p. ((each a (omega arith)).why e p).0) (or_cases (reached masks a) (get_or masks a 0) e h)

  pub reaches_edges : (reach : List ℕ) → k ≤ 16 → ((u : ℕ) → u ≤ 16 → get_or reach u 0 ≡ reached masks u) → Reaches masks all k reach
  reaches_edges reach few f =
      record {
        is = λ a l. f a (omega arith);
        within = λ e h.
            let whole : (2 ^ m - 1) - 0 ≡ all = omega arith in
            subst (λ (z : ℕ). Has z e) whole (not_by m 0 e (pow_pos m) (reached_edge k (omega arith) e h) (none_has e));
      }

  -- begun with no view, it finds the cheapest set, where some set covers the query
  pub best_cheapest : (charges : List ℕ) (set : ℕ) (r : Tried) → k ≤ 16 → covers_in t set k m ≡ true → r ≡ best_of all none (settled masks charges all k none)
      → Tries t m charges k (cheapest t m charges k) r
  best_cheapest charges set r few h e = settled_cheapest t m charges k masks each all r edges (e ∙ best_is all none last covers ∙ not_none (test_cases (eqb 0 all)))
    where
      last : Tried
      last = settled masks charges all k none

      covers : eqb last.matched all ≡ true
      covers =
          ap (eqb last.matched) edges
          ∙ tries_covers t m charges k masks each (cheapest t m charges k) last (settled_cheapest t m charges k masks each all last edges refl)
          ∙ (cheapest_covered t m charges k few set h).covers

      not_none : (eqb 0 all ≡ true) ⊎ (eqb 0 all ≡ false) → foremost_tried all none last ≡ last
      not_none (inl p) = foremost_cases all (λ z. z ≡ last) none last (λ _. sym (settled_covering masks charges all k none p)) (λ _. refl)
      not_none (inr p) = foremost_other all none last (not_back all last none (covering_first all last none covers p))
