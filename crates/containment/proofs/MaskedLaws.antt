-- Coverage and choice by masks of edges, one for each view: they decide as the table does.
use mathlib.Core.Path.{◌≡◌, refl, ap, sym, subst, ◌∙◌}
use mathlib.Core.Bool.{Bool, true, false, not, ◌&&◌, or-true}
use mathlib.Core.List.{List}
use mathlib.Core.Logic.{◌⊎◌, inl, inr, ⊎_elim}
use Prim.Native.Nat.{ℕ, zero, suc, ◌+◌, ◌-◌, ◌*◌, ◌^◌, ◌<◌, ◌≤◌}
use native.Mathlib.Nat.{le_antisymm, pow-suc}
use native.Mathlib.Omega.{arith}
use native.Mathlib.Numerals.{add-one}
use lib.ListN.{length, get_or, set}
use lib.Seq.{get_or-set_same, get_or-set_other}
use lib.Pow.{pow_pos}
use lib.Bits.{bit_or}
use lib.Dec.{eqb}
use borrow.Author.Tests.{eq-eqb, ne_eqb}
use Rattle.packed.proofs.OrderCases.{lt_or_ge, or_cases, and_both}
use Rattle.engine.specs.Simulation.{bit}
use Rattle.engine.specs.Masks.{Mask, Has, OneOf}
use Rattle.engine.proofs.MaskBits.{has_say, has_by, mask_cast, mask_or, mask_none, or_left, or_right, part_le, has_lt, not_by, none_has}
use Rattle.engine.proofs.MaskBits as bits
use Rattle.containment.specs.Choice.{matches, matched_in, covers_in, adds_to, taken}
use Rattle.containment.specs.Masked.{EdgeMatchedBy, EdgeMatchedIn, Masked}
use Rattle.containment.proofs.SetBits.{test_cases, never, bit_say, bit_by, bit_over, more_self, more_other}
use Rattle.containment.proofs.ChoiceLaws.{matched_say, matched_by_lem, covers_say, covers_by, matched_alike, adds_by, taken_adds, taken_skips}

-- ---- the edges that a view matches
module _ (t : List ℕ) (a : ℕ) where
  pub matches_yes : (e : ℕ) → (get_or t (16 * e + a) 0 ≡ 0 → ⊥) → matches t e a ≡ true
  unfolding matches
  matches_yes e n = rw (ne_eqb _ _ n)

  pub matches_no : (e : ℕ) → get_or t (16 * e + a) 0 ≡ 0 → matches t e a ≡ false
  unfolding matches
  matches_no e q = rw (eq-eqb _ _ q)

-- the same of one view more
pub masks_more : (P : ℕ → ℕ → Type 0) (masks : List ℕ) (a x : ℕ) → a < length masks → ((b : ℕ) → b < a → P b (get_or masks b 0)) → P a x
    → (b : ℕ) → b < a + 1 → P b (get_or (set masks a x) b 0)
masks_more P masks a x l f p b h =
    ⊎_elim (λ (q : b < a). subst (P b) (sym (get_or-set_other masks a b x 0 (λ e. omega arith))) (f b q))
    (λ (q : a ≤ b). let e : a ≡ b = omega arith in subst (λ (z : ℕ). P z (get_or (set masks a x) z 0)) e (subst (P a) (sym (get_or-set_same masks a x 0 l)) p))
    (lt_or_ge b a)

module _ (t : List ℕ) (m : ℕ) where
  -- ---- the edges that the views of a set match
  pub union_none : (s : ℕ) → Mask (EdgeMatchedIn t m s 0) 0
  unfolding matched_in
  union_none s = mask_none (λ e z. never (sym z.1))

  -- with one view more, which is in the set or isn't
  module _ (s a : ℕ) {x : ℕ} (p : Mask (EdgeMatchedIn t m s a) x) where
    pub union_in : {y : ℕ} → bit s a ≡ true → Mask (EdgeMatchedBy t a m) y → Mask (EdgeMatchedIn t m s (a + 1)) (bit_or x y)
    unfolding matched_in
    union_in {y} h q = subst (λ (n : ℕ). Mask (EdgeMatchedIn t m s n) (bit_or x y)) (sym (add-one a)) (mask_cast there back (mask_or p q))
      where
        there : (e : ℕ) → EdgeMatchedIn t m s a e ⊎ EdgeMatchedBy t a m e → EdgeMatchedIn t m s (suc a) e
        there e (inl z) = (z.0, rw z.1)
        there e (inr z) = (z.0, rw (h, z.1) (or-true (matched_in t s e a)))

        back : (e : ℕ) → EdgeMatchedIn t m s (suc a) e → EdgeMatchedIn t m s a e ⊎ EdgeMatchedBy t a m e
        back e z = ⊎_elim (λ i. inl (z.0, i)) (λ i. inr (z.0, (and_both (bit s a) (matches t e a) i).1)) (or_cases (matched_in t s e a) (bit s a && matches t e a) z.1)

    pub union_out : bit s a ≡ false → Mask (EdgeMatchedIn t m s (a + 1)) x
    unfolding matched_in
    union_out h = subst (λ (n : ℕ). Mask (EdgeMatchedIn t m s n) x) (sym (add-one a)) (mask_cast there back p)
      where
        there : (e : ℕ) → EdgeMatchedIn t m s a e → EdgeMatchedIn t m s (suc a) e
        there e z = (z.0, rw z.1)

        back : (e : ℕ) → EdgeMatchedIn t m s (suc a) e → EdgeMatchedIn t m s a e
        back e z = (z.0, ⊎_elim (λ i. i) (λ i. never (sym (and_both (bit s a) (matches t e a) i).0 ∙ h)) (or_cases (matched_in t s e a) (bit s a && matches t e a) z.1))

  module _ (s k : ℕ) {x : ℕ} (p : Mask (EdgeMatchedIn t m s k) x) where
    -- a bit says whether its edge is matched
    pub union_bit : (e : ℕ) → e < m → bit x e ≡ matched_in t s e k
    union_bit e l =
        ⊎_elim (λ y. bit_by x e (has_say x e (p.hit e (l, y))) ∙ sym y)
        (λ n. ⊎_elim (λ b. never (sym (p.why e (has_by x e (bit_say x e b))).1 ∙ n)) (λ b. b ∙ sym n) (test_cases (bit x e)))
        (test_cases (matched_in t s e k))

    -- the set covers exactly if all bits are there
    pub union_covers : eqb x (2 ^ m - 1) ≡ covers_in t s k m
    union_covers = ⊎_elim covered uncovered (test_cases (covers_in t s k m))
      where
        in_all : (e : ℕ) → e < m → Has (2 ^ m - 1) e
        in_all e l = subst (λ (y : ℕ). Has y e) (omega arith) (not_by m 0 e (pow_pos m) l (none_has e))

        covered : covers_in t s k m ≡ true → eqb x (2 ^ m - 1) ≡ covers_in t s k m
        covered c =
            eq-eqb _ _
            (le_antisymm
            (part_le x (2 ^ m - 1) (λ e i. in_all e (p.why e i).0))
            (part_le (2 ^ m - 1) x
            (λ e i. let l = has_lt m (2 ^ m - 1) e (let z = pow_pos m in omega arith) i in p.hit e (l, matched_by_lem t s e k (covers_say t s k m c e l)))))
            ∙ sym c

        uncovered : covers_in t s k m ≡ false → eqb x (2 ^ m - 1) ≡ covers_in t s k m
        uncovered c =
            ne_eqb _ _
            (λ q. never (sym (covers_by t s k m (λ e l. matched_say t s e k (p.why e (subst (λ (y : ℕ). Has y e) (sym q) (in_all e l))).1)) ∙ c))
            ∙ sym c

  -- ---- whether a view adds an edge
  adds_say : (s a n : ℕ) → adds_to t s a n ≡ true → OneOf n (λ e. (matches t e a ≡ true) × (matched_in t s e a ≡ false))
  unfolding adds_to
  adds_say s a zero h = never (sym h)
  adds_say s a (suc n) h =
      ⊎_elim
      (λ i. let o = adds_say s a n i in let l = o.below in record { at = o.at; below = omega arith; holds = o.holds })
      (λ i. let b = and_both _ _ i in record { at = n; below = omega arith; holds = (b.0, ⊎_elim (λ y. never (sym b.1 ∙ ap not y)) (λ z. z) (test_cases (matched_in t s n a))) })
      (or_cases _ _ h)

  module _ (s a : ℕ) {x y : ℕ} (p : Mask (EdgeMatchedIn t m s a) x) (q : Mask (EdgeMatchedBy t a m) y) where
    pub union_adds : not (eqb (bit_or x y) x) ≡ adds_to t s a m
    union_adds = ⊎_elim adds spares (test_cases (adds_to t s a m))
      where
        adds : adds_to t s a m ≡ true → not (eqb (bit_or x y) x) ≡ adds_to t s a m
        adds h =
            let o = adds_say s a m h in
            ap not (ne_eqb (bit_or x y) x (λ z. never (sym (p.why o.at (subst (λ (w : ℕ). Has w o.at) z (or_right x y o.at (q.hit o.at (o.below, o.holds.0))))).1 ∙ o.holds.1)))
            ∙ sym h

        spares : adds_to t s a m ≡ false → not (eqb (bit_or x y) x) ≡ adds_to t s a m
        spares h =
            let still : (e : ℕ) → EdgeMatchedBy t a m e → matched_in t s e a ≡ true =
            λ e z. ⊎_elim (λ i. i) (λ n. never (sym (adds_by t s a m e z.0 z.1 n) ∙ h)) (test_cases (matched_in t s e a)) in
            ap not
            (eq-eqb (bit_or x y) x
            (le_antisymm
            (part_le (bit_or x y) x (λ e i. ⊎_elim (λ z. z) (λ z. let r = q.why e z in p.hit e (r.0, still e r)) (bits.or_cases x y e i)))
            (part_le x (bit_or x y) (λ e i. or_left x y e i))))
            ∙ sym h

    -- with it
    union-taken : s < 2 ^ a → Mask (EdgeMatchedIn t m (s + 2 ^ a) (a + 1)) (bit_or x y)
    union-taken l =
        let out = bit_over s a l in
        let same : (e : ℕ) → matched_in t s e a ≡ matched_in t (s + 2 ^ a) e a = λ e. matched_alike t s (s + 2 ^ a) a (λ b n. sym (more_other s a out b (λ z. omega arith))) e in
        union_in (s + 2 ^ a) a (mask_cast (λ e z. (z.0, sym (same e) ∙ z.1)) (λ e z. (z.0, same e ∙ z.1)) p) (more_self s a out) q

-- ---- going up: the views taken below a, and the edges that they match
pub record Taking (masks : List ℕ) (s k a first matched : ℕ) : Type 0 where
  pub small : first < 2 ^ a
  pub says : (t : List ℕ) (m : ℕ) → Masked t k m masks → (first ≡ taken t s m a) × Mask (EdgeMatchedIn t m first a) matched

module _ (masks : List ℕ) (s k : ℕ) where
  pub taking_none : Taking masks s k 0 0 0
  unfolding taken
  taking_none = record { small = omega arith; says = λ t m h. (refl, union_none t m 0) }

  module _ {a first x : ℕ} (l : a < k) (h : Taking masks s k a first x) where
    takes : (t : List ℕ) (m : ℕ) → Masked t k m masks → {b : Bool} → (bit s a && not (eqb (bit_or x (get_or masks a 0)) x)) ≡ b → (bit s a && adds_to t first a m) ≡ b
    takes t m g z = ap (λ (c : Bool). bit s a && c) (sym (union_adds t m first a (h.says t m g).1 (g a l))) ∙ z

    pub taking_more : (two : ℕ) → two ≡ 2 ^ a → (bit s a && not (eqb (bit_or x (get_or masks a 0)) x)) ≡ true → Taking masks s k (a + 1) (first + two) (bit_or x (get_or masks a 0))
    taking_more two e z = subst (λ (w : ℕ). Taking masks s k (a + 1) (first + w) (bit_or x (get_or masks a 0))) (sym e) (record {
      small = (let i = h.small in let p = pow-suc 2 a in subst (λ (n : ℕ). first + 2 ^ a < 2 ^ n) (sym (add-one a)) (omega arith));
      says = λ t m g. (taken_adds t s m a first (h.says t m g).0 (takes t m g z), union-taken t m first a (h.says t m g).1 (g a l) h.small);
    })

    pub taking_same : (bit s a && not (eqb (bit_or x (get_or masks a 0)) x)) ≡ false → Taking masks s k (a + 1) first x
    taking_same z = record {
      small = (let i = h.small in let p = pow-suc 2 a in subst (λ (n : ℕ). first < 2 ^ n) (sym (add-one a)) (omega arith));
      says = λ t m g. (taken_skips t s m a first (h.says t m g).0 (takes t m g z), union_out t m first a (h.says t m g).1 (bit_over first a h.small));
    }
